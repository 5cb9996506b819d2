-- Cited by public clauses: the templates of a site, the formulas that it may keep.
use Rattle.std.specs.Prelude.{ℕ, ℤ, List, [], ◌∷◌, ◌++◌, map, flat_map}
use Rattle.sm_syntax.specs.declared.tree.Sort.{Sort}
use Rattle.sm_syntax.specs.declared.tree.Sort.TheVariants.{Num, Arr}
use Rattle.sm_syntax.specs.claim.Syntax.{Code}
use Rattle.sm_syntax.specs.claim.ConflictFree.{Copy}
use Rattle.sm_syntax.specs.text.Parts.{Parts}
use Rattle.sm_term.specs.Terms.{Tree, Lit, Start, Slot, Cell, Read, Add}
use Rattle.sm_term.specs.Assertions.{Assertion, Eq}
use Rattle.sm_plan.specs.Copies.{Copies, copies}
use Rattle.sm_plan.specs.Statements.{loop_guard, loop_body}
use Rattle.sm_plan.specs.States.{place, keeps_goals}
use Rattle.sm_moves.specs.CopySets.{members, only_in, pairs}
use Rattle.sm_template.specs.Distinct.{distinct}
use Rattle.sm_template.specs.Guards.{guard_templates}
use Rattle.sm_template.specs.Literals.{literals_of}
use Rattle.sm_template.specs.SameFormulas.{same_formula}
use Rattle.sm_template.specs.Written.{names_written}

-- two terms are equal in a cell: as numbers, or as arrays at the index of the cell
abbrev pub equal_cells : Tree → Tree → Assertion
equal_cells t u = Eq Num (Read t Cell) (Read u Cell)

-- each two copies have equal values of a name; for an array then also equal cells
abbrev pub equal_copies : ℕ × Sort → List Assertion
equal_copies (x, Num) = map (λ (p : Copy × Copy). Eq Num (Slot p.0 x) (Slot p.1 x)) pairs
equal_copies (x, Arr) =
    map (λ (p : Copy × Copy). Eq Arr (Slot p.0 x) (Slot p.1 x)) pairs
    ++ map (λ (p : Copy × Copy). equal_cells (Slot p.0 x) (Slot p.1 x)) pairs

-- a copy has the start value of a name; for an array then also its cell
abbrev pub unchanged : ℕ × Sort → Copy → List Assertion
unchanged (x, Num) c = Eq Num (Slot c x) (Start x) ∷ []
unchanged (x, Arr) c = Eq Arr (Slot c x) (Start x) ∷ equal_cells (Slot c x) (Start x) ∷ []

-- a value of one of two copies is that of the other and a literal
abbrev pub apart_by : ℕ → Copy × Copy → ℤ → List Assertion
apart_by x (c, d) v =
    Eq Num (Slot d x) (Add (Slot c x) (Lit v)) ∷ Eq Num (Slot c x) (Add (Slot d x) (Lit v)) ∷ []

-- each two copies have values of a number that a literal is between
abbrev pub shifted : List ℤ → ℕ × Sort → List Assertion
shifted literals (x, Num) = flat_map (λ (p : Copy × Copy). flat_map (apart_by x p) literals) pairs
shifted literals (x, Arr) = []

-- the templates of a name
abbrev pub name_templates : List ℤ → ℕ × Sort → List Assertion
name_templates literals name =
    equal_copies name
    ++ keeps_goals (place name)
    ++ flat_map (unchanged name) copies
    ++ shifted literals name

-- those of each name that code of the copies writes
abbrev pub written_templates : Parts → (Copy → Code) → List Assertion
written_templates t code =
    flat_map (name_templates (literals_of t)) (names_written t.declared code)

-- the templates of a block with this code
abbrev pub block_templates : Parts → (Copy → Code) → List Assertion
block_templates t code = distinct same_formula (written_templates t code)

-- the templates of the loops that the code of a set's copies begins with
abbrev pub loop_templates : Parts → Copies → (Copy → Code) → List Assertion
loop_templates t set code =
    let of_names = written_templates t (only_in set (λ (c : Copy). loop_body (code c))) in
    let of_guards =
    flat_map (λ (c : Copy). guard_templates (loop_guard (code c)) c) (members set) in
    distinct same_formula (of_names ++ of_guards)
