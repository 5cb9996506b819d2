-- Cited by public clauses: what is seen on a branch by its classes: whether it is closed at once, and
-- by what it is split.
use Rattle.std.specs.Prelude.{ℤ, Bool, true, false, ◌&&◌, ◌||◌, not, if◌then◌else◌, Option, Some, None, List, [], ◌∷◌}
use Rattle.std.specs.List.{list_any}
use Rattle.std.specs.Ordering.{int_eq}
use Rattle.sm_syntax.specs.text.Sorts.{Sorts}
use Rattle.sm_syntax.specs.declared.tree.Sort.TheVariants.{Num}
use Rattle.sm_term.specs.Terms.{Tree}
use Rattle.sm_term.specs.Assertions.{Assertion, Yes, No, Eq, Ne, Le, Lt, And, Or}
use Rattle.sm_term.specs.SameTerms.{same_tree, same_sort}
use Rattle.sm_theory.specs.Elements.{Written, written_in, read_in}
use Rattle.sm_theory.specs.Equality.{or_other}
use Rattle.sm_theory.specs.Lines.{followed}
use Rattle.sm_theory.specs.Arithmetic.{compared_forms}
use Rattle.sm_pairs.specs.Pairs.{Pairs}

-- a branch: its facts and terms, and which terms are equal or known apart
pub record Seen : Type 0 where
  pub sorts : Sorts
  pub facts : List Assertion
  pub terms : List Tree
  pub equal : Pairs
  pub apart : Pairs

-- whether two formulas are the same
abbrev pub same_formula : Assertion → Assertion → Bool
same_formula Yes Yes = true
same_formula No No = true
same_formula (Eq sort t u) (Eq other v w) =
    same_sort sort other && (same_tree t v && same_tree u w)
same_formula (Ne sort t u) (Ne other v w) =
    same_sort sort other && (same_tree t v && same_tree u w)
same_formula (Le t u) (Le v w) = same_tree t v && same_tree u w
same_formula (Lt t u) (Lt v w) = same_tree t v && same_tree u w
same_formula (And p q) (And r s) = same_formula p r && same_formula q s
same_formula (Or p q) (Or r s) = same_formula p r && same_formula q s
same_formula f g = false

-- whether a formula is a fact of the branch
abbrev pub is_fact : Seen → Assertion → Bool
is_fact b f = list_any (same_formula f) b.facts

-- whether a formula holds on a branch: by the classes, or by its parts, where a part may be a fact
abbrev pub is_held : Seen → Assertion → Bool
is_held b Yes = true
is_held b No = false
is_held b (Eq sort t u) = b.equal t u
is_held b (Ne sort t u) = b.apart t u
is_held b (Le t u) = is_fact b (Le t u)
is_held b (Lt t u) = is_fact b (Lt t u)
is_held b (And p q) = (is_fact b p || is_held b p) && (is_fact b q || is_held b q)
is_held b (Or p q) = (is_fact b p || is_held b p) || (is_fact b q || is_held b q)

-- whether a fact can't hold by the classes
abbrev pub is_refuted : Seen → Assertion → Bool
is_refuted b Yes = false
is_refuted b No = true
is_refuted b (Eq sort t u) = false
is_refuted b (Ne sort t u) = b.equal t u
is_refuted b (Le t u) = false
is_refuted b (Lt t u) = false
is_refuted b (And p q) = false
is_refuted b (Or p q) = false

-- whether two terms of one class have linear forms that differ in the constant alone
abbrev pub are_torn : Seen → Tree → Tree → Bool
are_torn b t u =
    b.equal t u && compared_forms b.sorts t u (λ (y z : ℤ). not (int_eq y z))

-- whether a branch is closed at once
abbrev pub is_closed : Seen → Bool
is_closed b =
    list_any (is_refuted b) b.facts || list_any (λ t. list_any (are_torn b t) b.terms) b.terms

-- what a branch is split by: the fact that each part gets
abbrev pub Split : Type 0
Split = Assertion × Assertion

-- the first of a list that gives something
abbrev pub first_of : {S T : Type 0} → (S → Option T) → List S → Option T
first_of gives [] = None
first_of gives (s ∷ rest) = or_other (gives s) (first_of gives rest)

-- an element that is read of a written array, where it isn't known whether it is the one written:
-- the two indices are equal, or they aren't
abbrev pub index_split : Seen → Tree → Option Split
index_split b t =
    followed (read_in t) (λ (r : Tree × Tree).
    followed (written_in r.0) (λ (w : Written).
    if b.equal w.index r.1 || b.apart w.index r.1 then None
    else Some (Eq Num w.index r.1, Ne Num w.index r.1)))

-- a disjunction that isn't held: either part
abbrev pub part_split : Seen → Assertion → Option Split
part_split b Yes = None
part_split b No = None
part_split b (Eq sort t u) = None
part_split b (Ne sort t u) = None
part_split b (Le t u) = None
part_split b (Lt t u) = None
part_split b (And p q) = None
part_split b (Or p q) = if is_held b (Or p q) then None else Some (p, q)

-- two numbers that aren't equal, of which it isn't known which is less: either
abbrev pub order_split : Seen → Assertion → Option Split
order_split b Yes = None
order_split b No = None
order_split b (Eq sort t u) = None
order_split b (Ne sort t u) =
    if not (same_sort sort Num) || (is_fact b (Lt t u) || is_fact b (Lt u t)) then None
    else Some (Lt t u, Lt u t)
order_split b (Le t u) = None
order_split b (Lt t u) = None
order_split b (And p q) = None
order_split b (Or p q) = None

-- what a branch is split by: the first element, else the first disjunction, else the first contrary
abbrev pub split_of : Seen → Option Split
split_of b =
    or_other (first_of (index_split b) b.terms)
    (or_other (first_of (part_split b) b.facts) (first_of (order_split b) b.facts))
