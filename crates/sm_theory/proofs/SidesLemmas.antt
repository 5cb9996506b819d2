-- Facts that are found by their numbers on a branch of the program stand for those that are found on
-- the branch that it stands for, and terms of a table are told by their numbers.
use Rattle.sm_theory.proofs.Imports.{◌≡◌, ◌<◌, ℕ, zero, suc, true, List, [], ◌∷◌, length, slice_get, nat_eq, ap, same_from_decides, Decides-eqb, Sorts, Tree, tree_at, AreApart, same_tree, same_tree_is, BranchFact, FactStands, AllStand, Fact, OptionStands}

-- the fact with a number stands for the fact with it
pub fact_found : (sorts : Sorts) (trees : List Tree) (fs : List Fact) (facts : List BranchFact) → AllStand sorts trees fs facts → (n : ℕ) →
    OptionStands (FactStands sorts trees) (slice_get fs n) (slice_get facts n)
fact_found sorts trees [] [] all n = tt
fact_found sorts trees (f ∷ fs) (k ∷ ks) all zero = all.0
fact_found sorts trees (f ∷ fs) (k ∷ ks) all (suc n) = fact_found sorts trees fs ks all.1 n
fact_found sorts trees [] (k ∷ ks) all n = absurd all
fact_found sorts trees (f ∷ fs) [] all n = absurd all

-- numbers of a table are equal exactly where their trees are
pub numbers_tell : (trees : List Tree) → AreApart trees → (i j : ℕ) → i < length trees → j < length trees →
    nat_eq i j ≡ same_tree (tree_at trees i) (tree_at trees j)
numbers_tell trees apart i j v w =
    same_from_decides (nat_eq i j) (same_tree (tree_at trees i) (tree_at trees j)) (Decides-eqb i j) (
      λ (e : same_tree (tree_at trees i) (tree_at trees j) ≡ true). apart i j v w ((same_tree_is (tree_at trees i) (tree_at trees j)).0 e),
      λ (e : i ≡ j). (same_tree_is (tree_at trees i) (tree_at trees j)).1 (ap (tree_at trees) e),
    )
