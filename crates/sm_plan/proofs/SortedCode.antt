-- Parts of well-sorted code are well sorted.
use Rattle.sm_plan.proofs.Imports.{◌≡◌, ℕ, zero, suc, Bool, true, false, if◌then◌else◌, Some, subst, same_Some, Condition, Code, End, append, Sorts, IsWellSortedCondition, IsWellSorted, is_over, front, rest_after, loop_guard, loop_body, last_guard}
use Rattle.sm_syntax.specs.claim.Syntax.{Skip, Assign, Write, If, While, Hole}

-- code after code
pub append_well : (sorts : Sorts) (c d : Code) → IsWellSorted sorts c → IsWellSorted sorts d → IsWellSorted sorts (append c d)
append_well sorts End d w v = v
append_well sorts (Skip k) d w v = append_well sorts k d w v
append_well sorts (Assign x e k) d w v = (w.0, w.1, append_well sorts k d w.2 v)
append_well sorts (Write a i e k) d w v = (w.0, w.1, w.2, append_well sorts k d w.3 v)
append_well sorts (If b f g k) d w v = (w.0, w.1, w.2, append_well sorts k d w.3 v)
append_well sorts (While b f k) d w v = (w.0, w.1, append_well sorts k d w.2 v)
append_well sorts (Hole h k) d w v = append_well sorts k d w v

-- the first statements
pub front_well : (sorts : Sorts) (n : ℕ) (c : Code) → IsWellSorted sorts c → IsWellSorted sorts (front n c)
front_well sorts zero c w = tt
front_well sorts (suc n) End w = tt
front_well sorts (suc n) (Skip k) w = front_well sorts n k w
front_well sorts (suc n) (Assign x e k) w = (w.0, w.1, front_well sorts n k w.2)
front_well sorts (suc n) (Write a i e k) w = (w.0, w.1, w.2, front_well sorts n k w.3)
front_well sorts (suc n) (If b f g k) w = (w.0, w.1, w.2, front_well sorts n k w.3)
front_well sorts (suc n) (While b f k) w = (w.0, w.1, front_well sorts n k w.2)
front_well sorts (suc n) (Hole h k) w = front_well sorts n k w

-- the code after them
pub rest_well : (sorts : Sorts) (n : ℕ) (c : Code) → IsWellSorted sorts c → IsWellSorted sorts (rest_after n c)
rest_well sorts zero c w = w
rest_well sorts (suc n) End w = tt
rest_well sorts (suc n) (Skip k) w = rest_well sorts n k w
rest_well sorts (suc n) (Assign x e k) w = rest_well sorts n k w.2
rest_well sorts (suc n) (Write a i e k) w = rest_well sorts n k w.3
rest_well sorts (suc n) (If b f g k) w = rest_well sorts n k w.3
rest_well sorts (suc n) (While b f k) w = rest_well sorts n k w.2
rest_well sorts (suc n) (Hole h k) w = rest_well sorts n k w

-- the guard of a loop at the front
pub guard_well : (sorts : Sorts) (c : Code) → IsWellSorted sorts c → IsWellSortedCondition sorts (loop_guard c)
guard_well sorts End w = tt
guard_well sorts (Skip k) w = tt
guard_well sorts (Assign x e k) w = tt
guard_well sorts (Write a i e k) w = tt
guard_well sorts (If b f g k) w = tt
guard_well sorts (While b f k) w = w.0
guard_well sorts (Hole h k) w = tt

-- its body
pub body_well : (sorts : Sorts) (c : Code) → IsWellSorted sorts c → IsWellSorted sorts (loop_body c)
body_well sorts End w = tt
body_well sorts (Skip k) w = tt
body_well sorts (Assign x e k) w = tt
body_well sorts (Write a i e k) w = tt
body_well sorts (If b f g k) w = tt
body_well sorts (While b f k) w = w.1
body_well sorts (Hole h k) w = tt

-- the guard of the last statement, where that is a loop
pub last_guard_well : (sorts : Sorts) (c : Code) (b : Condition) → IsWellSorted sorts c → last_guard c ≡ Some b →
    IsWellSortedCondition sorts b
last_guard_well sorts End b w e = absurd cc
last_guard_well sorts (Skip k) b w e = last_guard_well sorts k b w e
last_guard_well sorts (Assign x v k) b w e = last_guard_well sorts k b w.2 e
last_guard_well sorts (Write a i v k) b w e = last_guard_well sorts k b w.3 e
last_guard_well sorts (If g f d k) b w e = last_guard_well sorts k b w.3 e
last_guard_well sorts (While g f k) b w e = of (is_over k) e (last_guard_well sorts k b w.2)
  where
    of : (over : Bool) → (if over then Some g else last_guard k) ≡ Some b → (last_guard k ≡ Some b → IsWellSortedCondition sorts b) →
        IsWellSortedCondition sorts b
    of true h later = subst (λ (r : Condition). IsWellSortedCondition sorts r) (same_Some g b h) w.0
    of false h later = later h
last_guard_well sorts (Hole h k) b w e = last_guard_well sorts k b w e
