-- Private: inequalities that guards suggest, each once. A pair of numbers says that the first term
-- is at most the second.
use Rattle.std.specs.Prelude.{◌≡◌, ℕ, ◌<◌, List, [], ◌∷◌, map, fold, length, is_some, if◌then◌else◌}
use Rattle.sm_syntax.specs.claim.ConflictFree.{Copy}
use Rattle.sm_syntax.specs.text.Sorts.{Sorts}
use Rattle.sm_syntax.specs.declared.tree.Sort.TheVariants.{Num}
use Rattle.sm_term.specs.Assertions.{Assertion, Le}
use Rattle.sm_term.specs.Sorted.{HasSort}
use Rattle.sm_term.specs.Symbolic.{SymbolicStore}
use Rattle.sm_term.specs.Tables.{TableValue, trees_in, sorts_in, tree_at}
use Rattle.sm_term.specs.Terms.{Tree, Start, Slot}
use Rattle.sm_template.specs.Distinct.{with_new}
use Rattle.sm_template.specs.SameFormulas.{same_formula}

-- the inequality of a pair
abbrev pub bound_in : List Tree → ℕ × ℕ → Assertion
bound_in trees p = Le (tree_at trees p.0) (tree_at trees p.1)

-- the inequality of each pair
abbrev pub bounds_in : List Tree → List (ℕ × ℕ) → List Assertion
bounds_in trees ps = map (bound_in trees) ps

-- both terms are numbers of a table
abbrev pub IsBoundReady : Sorts → List Tree → ℕ × ℕ → Type 0
IsBoundReady sorts trees p =
    (p.0 < length trees) × (p.1 < length trees)
    × HasSort sorts Num (tree_at trees p.0) × HasSort sorts Num (tree_at trees p.1)

-- both terms of each pair are numbers of a table
abbrev pub AreBoundsReady : Sorts → List Tree → List (ℕ × ℕ) → Type 0
AreBoundsReady sorts trees [] = Unit {0}
AreBoundsReady sorts trees (p ∷ ps) = IsBoundReady sorts trees p × AreBoundsReady sorts trees ps

-- where pairs are ready in the old table, those with some more are in the new one, each once
abbrev pub AddsBounds : TableValue → TableValue → List (ℕ × ℕ) → List (ℕ × ℕ) →
    List Assertion → Type 0
AddsBounds old new ps qs more =
    AreBoundsReady (sorts_in old) (trees_in old) ps →
    AreBoundsReady (sorts_in new) (trees_in new) qs
    × (bounds_in (trees_in new) qs
    ≡ fold (with_new same_formula) (bounds_in (trees_in old) ps) more)

-- each declared name has its place in a copy, each other its start
abbrev pub places_of : Sorts → Copy → SymbolicStore
places_of sorts c x = if is_some (sorts x) then Slot c x else Start x
