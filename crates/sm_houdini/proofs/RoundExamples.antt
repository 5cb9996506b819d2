-- Owners of nodes and rounds of small tasks, worked by hand.
use Rattle.sm_houdini.proofs.Imports.{◌≡◌, refl, Bool, true, false, List, [], ◌∷◌, ◌++◌, replicate, Assertion, Yes, No, Eq, Ne, Le, Lt, And, Or, sketch_of, owners, kept}
use Rattle.std.proofs.Common.{None, Some}
use Rattle.sm_plan.specs.Limits.{is_kept, is_shallow}
use Rattle.sm_product.proofs.BranchExamples.{hole_in_if}
use Rattle.sm_product.proofs.LoopExamples.{two_edits, unequal_loops}

-- four steps before the loop, which asks what it keeps, as do the 111 nodes of its turns; then the end
two_edits_owners : owners None 0 (sketch_of two_edits) ≡
    None ∷ None ∷ None ∷ None ∷ Some 0 ∷ replicate 111 (Some 0) ++ None ∷ []
two_edits_owners = refl

-- a block asks nothing, the 95 nodes inside it ask what it keeps, and then the end
hole_in_if_owners : owners None 0 (sketch_of hole_in_if) ≡ None ∷ replicate 95 (Some 0) ++ None ∷ []
hole_in_if_owners = refl

-- where all closes, all 29 templates are kept: 25 of i and 4 of the guards
all_kept : kept (λ (facts : List Assertion) (goal : Assertion). true) unequal_loops ≡
    (0 ∷ 1 ∷ 2 ∷ 3 ∷ 4 ∷ 5 ∷ 6 ∷ 7 ∷ 8 ∷ 9 ∷ 10 ∷ 11 ∷ 12 ∷ 13 ∷ 14 ∷ 15 ∷ 16 ∷ 17 ∷ 18 ∷ 19 ∷ 20 ∷ 21 ∷ 22 ∷ 23 ∷ 24 ∷ 25
    ∷ 26 ∷ 27 ∷ 28 ∷ []) ∷ []
unfolding is_kept is_shallow
all_kept = refl

-- where nothing closes, none is
none_kept : kept (λ (facts : List Assertion) (goal : Assertion). false) unequal_loops ≡ [] ∷ []
unfolding is_kept is_shallow
none_kept = refl

-- where inequalities alone close, those of the guards are
is_inequality : Assertion → Bool
is_inequality Yes = false
is_inequality No = false
is_inequality (Eq sort t u) = false
is_inequality (Ne sort t u) = false
is_inequality (Le t u) = true
is_inequality (Lt t u) = true
is_inequality (And p q) = false
is_inequality (Or p q) = false

guards_kept : kept (λ (facts : List Assertion) (goal : Assertion). is_inequality goal) unequal_loops ≡ (25 ∷ 26 ∷ 27 ∷ 28 ∷ []) ∷ []
unfolding is_kept is_shallow is_inequality
guards_kept = refl
