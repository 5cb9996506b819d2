-- What comparisons of whole numbers tell.
use Rattle.sm_eval.proofs.Imports.{◌≡◌, ◌≤◌, ℤ, pos, Bool, true, false, Ordering, Less, Equal, Greater, to_z, of_z, refl, sym, ap, ◌∙◌, arith, ◌<ℤ◌, MatchOrdering, int_cmp, int_eq, ordering_index, Decides-int_eq, ints, to_z-of_z, w128}
use Rattle.std.specs.Cmp.{int_ranks}
use mir.Val.{SFits}

-- equal numbers
pub int_same : (x y : ℤ) → x ≡ y → int_eq x y ≡ true
int_same x y same = (Decides-int_eq x y).1 same

-- different numbers
pub int_differs : (x y : ℤ) → (x ≡ y → ⊥) → int_eq x y ≡ false
int_differs x y differs = by (int_eq x y) (Decides-int_eq x y).0
  where
    by : (b : Bool) → (b ≡ true → x ≡ y) → b ≡ false
    by true equal = absurd (differs (equal refl))
    by false equal = refl

-- no number is below itself
pub not_below_itself : (x y : ℤ) → x <ℤ y → x ≡ y → ⊥
not_below_itself x y below same = omega (arith, ints)

-- a smaller number comes no later among the three answers of a comparison
pub ranks_rise : (x y k : ℤ) → x <ℤ y → ordering_index (int_cmp x k) ≤ ordering_index (int_cmp y k)
ranks_rise x y k below = by (int_cmp x k) (int_ranks x k) (int_cmp y k) (int_ranks y k)
  where
    by : (a : Ordering) → MatchOrdering a (x <ℤ k) (x ≡ k) (k <ℤ x) → (b : Ordering) → MatchOrdering b (y <ℤ k) (y ≡ k) (k <ℤ y)
        → ordering_index a ≤ ordering_index b
    by Less a b e = omega arith
    by Equal a Less e = absurd (omega (arith, ints))
    by Equal a Equal e = omega arith
    by Equal a Greater e = omega arith
    by Greater a Less e = absurd (omega (arith, ints))
    by Greater a Equal e = absurd (omega (arith, ints))
    by Greater a Greater e = omega arith

-- a number whose bits are 0
pub zero_by_bits : (z : ℤ) → SFits w128 z → of_z w128 z ≡ 0 → z ≡ pos 0
zero_by_bits z fits none = sym (to_z-of_z w128 z fits) ∙ ap (to_z w128) none

-- a number whose bits aren't 0
pub other_by_bits : (z : ℤ) → (of_z w128 z ≡ 0 → ⊥) → z ≡ pos 0 → ⊥
other_by_bits z some same = some (ap (of_z w128) same)
