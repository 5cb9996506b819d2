-- Truth values, and tests of numbers that say what they test.
use Rattle.std.proofs.Common.{◌≡◌, ℕ, ℤ, Bool, true, false, ◌&&◌, ◌==◌, refl, ap, ◌∙◌, ◌-◌, sym, not, ◌||◌, arith, if◌then◌else◌, ◌<◌, ◌≤◌, nat_le, nat_lt}
use Rattle.std.specs.Ordering.{int_eq}
use Rattle.std.specs.Bool.{Decides}
use Rattle.std.proofs.lemmas.Bool.Decides.{Decides-eqb, Decides-int_eq, nat_tests}
use Rattle.std.specs.Prelude.{◌<ℤ◌}
use Rattle.std.proofs.lemmas.Int.{ints}

-- two parts are equal where their atoms and coefficients are
pub pair_decides : (p q : ℕ × ℤ) → Decides ((p.0 == q.0) && int_eq p.1 q.1) (p ≡ q)
pair_decides p q = by (p.0 == q.0) (int_eq p.1 q.1) (Decides-eqb p.0 q.0) (Decides-int_eq p.1 q.1)
  where
    by : (a b : Bool) → Decides a (p.0 ≡ q.0) → Decides b (p.1 ≡ q.1) → Decides (a && b) (p ≡ q)
    by true b e d = (
      λ (t : b ≡ true). ap (λ (n : ℕ). (n, p.1)) (e.0 refl) ∙ ap (λ (z : ℤ). (q.0, z)) (d.0 t),
      λ (both : p ≡ q). d.1 (ap (λ (r : ℕ × ℤ). r.1) both),
    )
    by false b e d = (
      λ (t : false ≡ true). absurd cc,
      λ (both : p ≡ q). e.1 (ap (λ (r : ℕ × ℤ). r.0) both),
    )

-- two tests that hold of the same numbers
pub same_tests : (b c : Bool) → (b ≡ true → c ≡ true) → (c ≡ true → b ≡ true) → b ≡ c
same_tests true c there back = sym (there refl)
same_tests false true there back = absurd (let no : false ≡ true = back refl in cc)
same_tests false false there back = refl

-- what is not true is false
pub not_true : (b : Bool) → not b ≡ true → b ≡ false
not_true true h = absurd cc
not_true false h = refl

-- both hold where they hold together
pub both_pass : (a b : Bool) → (a && b) ≡ true → (a ≡ true) × (b ≡ true)
both_pass true b e = (refl, e)
both_pass false b e = absurd cc

-- a test or false is the test
pub or_false : (a : Bool) → (a || false) ≡ a
or_false true = refl
or_false false = refl

-- a test or true is true
pub or_true : (a : Bool) → (a || true) ≡ true
or_true true = refl
or_true false = refl

-- a number is itself, by its test
pub itself : (n : ℕ) → (n == n) ≡ true
itself n = grind (arith, nat_tests)

-- a choice, by cases
pub either_way : (b : Bool) (x y z : ℤ) → (b ≡ true → x ≡ z) → (b ≡ false → y ≡ z) → (if b then x else y) ≡ z
either_way true x y z first second = first refl
either_way false x y z first second = second refl

-- tests that are joined by or, in any order
pub or_assoc : (a b c : Bool) → ((a || b) || c) ≡ (a || (b || c))
or_assoc true b c = refl
or_assoc false b c = refl

-- numbers of which neither is less are equal
pub neither_less : (u v : ℤ) → (u <ℤ v → ⊥) → (v <ℤ u → ⊥) → u ≡ v
neither_less u v low high = grind (arith, ints)

-- at most, by its test
pub le_from_test : (a b : ℕ) → nat_le a b ≡ true → a ≤ b
le_from_test a b h = grind (arith, nat_tests)

-- the test of what is at most another
pub le_true : (m n : ℕ) → m ≤ n → nat_le m n ≡ true
le_true m n h = grind (arith, nat_tests)

-- false is never true
pub never_true : {A : Type 0} → false ≡ true → A
never_true e = absurd cc

-- less, by its test
pub lt_from_test : (a b : ℕ) → nat_lt a b ≡ true → a < b
lt_from_test a b h = grind (arith, nat_tests)

-- equality of numbers, turned round
pub int_eq_sym : (y z : ℤ) → int_eq y z ≡ int_eq z y
int_eq_sym y z =
    let one = Decides-int_eq y z in
    let other = Decides-int_eq z y in
    same_tests (int_eq y z) (int_eq z y) (λ (e : int_eq y z ≡ true). other.1 (sym (one.0 e)))
    (λ (e : int_eq z y ≡ true). one.1 (sym (other.0 e)))
