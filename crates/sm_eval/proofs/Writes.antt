-- The store that stored values stand for, where one of them has changed.
use Rattle.sm_eval.proofs.Imports.{◌≡◌, ◌<◌, ◌⊎◌, inl, inr, ℕ, zero, suc, Some, List, [], ◌∷◌, length, set, sym, ap, ◌∙◌, arith, fun_ext, cases_eq, get_or-set_same, get_or-set_other, Sort, put, held, sort, values, sorts, StoredValue, Absent}
use Rattle.sm_syntax.proofs.Puts.{put_is}

-- a name that has a sort has a stored value
pub declared_within : (stored : List StoredValue) (x : ℕ) (k : Sort) → sorts stored x ≡ Some k → x < length stored
declared_within [] x k declared = cc
declared_within (s ∷ rest) zero k declared = omega arith
declared_within (s ∷ rest) (suc x) k declared = let within = declared_within rest x k declared in omega arith

-- a new stored value is a new value of its name
pub values-set : (stored : List StoredValue) (x : ℕ) (value : StoredValue) → x < length stored
    → values (set stored x value) ≡ put (values stored) x (held value)
values-set stored x value within =
    put_is (values stored) (values (set stored x value)) x (held value) (ap held (get_or-set_same stored x value Absent within))
    (λ (y : ℕ) (other : y ≡ x → ⊥). ap held (get_or-set_other stored x y value Absent other))

-- the sort of a name after a write, at that name and at another
sort_after : (stored : List StoredValue) (x : ℕ) (value : StoredValue) → x < length stored → sort value ≡ sorts stored x → (y : ℕ)
    → ((y ≡ x) ⊎ (y ≡ x → ⊥)) →
    sorts (set stored x value) y ≡ sorts stored y
sort_after stored x value within same y (inl here) =
    ap (sorts (set stored x value)) here ∙ ap sort (get_or-set_same stored x value Absent within) ∙ same ∙ ap (sorts stored) (sym here)
sort_after stored x value within same y (inr other) = ap sort (get_or-set_other stored x y value Absent other)

-- a new stored value of the same sort leaves the sorts
pub sorts-set : (stored : List StoredValue) (x : ℕ) (value : StoredValue) → x < length stored → sort value ≡ sorts stored x
    → sorts (set stored x value) ≡ sorts stored
sorts-set stored x value within same = fun_ext (λ (y : ℕ). sort_after stored x value within same y (cases_eq y x))
