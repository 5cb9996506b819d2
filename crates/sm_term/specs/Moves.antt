-- Cited by public clauses: a row of one table as a term of another, and tables that keep their rows.
use Rattle.std.specs.Prelude.{◌≡◌, ℕ, ◌-◌, nat_lt, if◌then◌else◌, Option, List, ◌++◌, map, get_or, slice_get}
use Rattle.sm_syntax.specs.declared.tree.Block.{Block}
use Rattle.sm_syntax.specs.claim.Syntax.{Code}
use Rattle.sm_term.specs.declared.term.BodyId.{BodyId}
use Rattle.sm_term.specs.declared.term.Numbers.{Numbers}
use Rattle.sm_term.specs.declared.term.Term.TheVariants.{Lit, Start, Havoc, Slot, Cell, Read, Write, Neg, Add, Sub, Mul, Fun}
use Rattle.sm_term.specs.Rows.{kind_numbers, term_numbers, names_of_term, parts_of_term}
use Rattle.sm_term.specs.RowLaws.{Contents}
use Rattle.sm_term.specs.Tables.{TableValue, Term}

-- the number here of a row's part: the same before a place, and behind it that of the row there
abbrev pub moved_part : ℕ → List ℕ → ℕ → ℕ
moved_part from answers p = if nat_lt p from then p else get_or answers (p - from) p

-- the numbers of bodies
abbrev pub bodies_in_list : List BodyId → List ℕ
bodies_in_list ids = map (λ (b : BodyId). b.0) ids

-- the number here of a row's body
abbrev pub moved_body : List ℕ → ℕ → ℕ
moved_body numbers b = get_or numbers b b

-- what a row holds but its lists, with its parts and its body moved
abbrev pub moved_numbers : (ℕ → ℕ) → (ℕ → ℕ) → Term → Numbers
moved_numbers part body (Lit z) = term_numbers (Lit z)
moved_numbers part body (Start x) = term_numbers (Start x)
moved_numbers part body (Havoc k c x) = term_numbers (Havoc k c x)
moved_numbers part body (Slot c x) = term_numbers (Slot c x)
moved_numbers part body Cell = term_numbers Cell
moved_numbers part body (Read a i) = kind_numbers 5 (part a.0) (part i.0) 0
moved_numbers part body (Write a i e) = kind_numbers 6 (part a.0) (part i.0) (part e.0)
moved_numbers part body (Neg t) = kind_numbers 7 (part t.0) 0 0
moved_numbers part body (Add t u) = kind_numbers 8 (part t.0) (part u.0) 0
moved_numbers part body (Sub t u) = kind_numbers 9 (part t.0) (part u.0) 0
moved_numbers part body (Mul t u) = kind_numbers 10 (part t.0) (part u.0) 0
moved_numbers part body (Fun b x from args) = kind_numbers 11 (body b.0) x.0 0

-- what a row holds, with its parts and its body moved
abbrev pub moved_contents : (ℕ → ℕ) → (ℕ → ℕ) → Term → Contents
moved_contents part body t =
    (moved_numbers part body t, names_of_term t, map part (parts_of_term t))

-- the code that each number of a list has, if it has one
abbrev pub codes_numbered : List Code → List BodyId → List (Option Code)
codes_numbered codes ids = map (λ (b : BodyId). slice_get codes b.0) ids

-- a table has the declarations of another, and its bodies and terms, each with more behind them
pub record KeepsRows (old new : TableValue) : Type 0 where
  pub declared : new.declared ≡ old.declared
  pub bodies : (more : List Block) × (new.bodies ≡ old.bodies ++ more)
  pub terms : (more : List Term) × (new.terms ≡ old.terms ++ more)
