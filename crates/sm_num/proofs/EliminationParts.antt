-- What is computed of two forms, its parts and its constant apart, and its multipliers: for the
-- theory of elimination, where atoms have values over a common denominator.
use Rattle.sm_num.proofs.Imports.{◌≡◌, ℕ, ◌/◌, ◌*◌, ◌<◌, ◌≤◌, ℤ, pos, negsuc, neg_ℤ, nat_abs, ◌+ℤ◌, ◌*ℤ◌, ◌<ℤ◌, Bool, true, false, not, ◌&&◌, ◌||◌, if◌then◌else◌, IsTrue, List, refl, sym, ap, ◌∙◌, ⊎_elim, arith, eq-zero-or-pos, le-div_iff_mul-le, mul-pos, and_parts, le_of_dvd, int_eq, Linear, sum_of_parts, coefficient, without, Kind, Le, Eq, Outcome, Fits, Leaves, formed, merged, combined_number, combined, gcd, is_equation, signs_alike, can_cancel, multipliers, kind_of_sum, floor_of, divisor_of_parts, divided_parts, divided, eliminated, same_atom}
use native.Mathlib.Nat.{pos_of_dvd_of_pos}
use Prim.Native.Nat.{◌∣◌}
use Rattle.sm_num.proofs.RingLemmas.{sums, one_mul, mul_assoc}
use Rattle.sm_num.proofs.OutcomeLemmas.{Gives, then_gives, formed_gives, IsSum, combined_number_gives}
use Rattle.sm_num.proofs.SameAtomLemmas.{zero_test}
use Rattle.sm_num.proofs.DivisionLemmas.{gcd_is, floor_by_zero, floor_exact, divisor_divides, divided_sum, undivided}
use Rattle.sm_num.proofs.FormValues.{merged_value}

-- what holds of a result for each value holds for all of them
pub gives_all : {S V : Type 0} (P : V → S → Type 0) (outcome : Outcome S) → ((v : V) → Gives (P v) outcome) →
    Gives (λ (s : S). (v : V) → P v s) outcome
gives_all P (Fits s) each = each
gives_all P (Leaves op y z) each = tt

-- a number of times h is p times f and q times g
pub record SumsTo {A : Type 0} (f g : Linear A) (p q : ℤ) (kind : Kind) (h : Linear A) : Type 0 where
  pub times : ℕ
  pub some : 0 < times
  pub parts : (v : A → ℤ) → pos times *ℤ sum_of_parts v h.parts ≡ (p *ℤ sum_of_parts v f.parts) +ℤ (q *ℤ sum_of_parts v g.parts)
  pub constant : pos times *ℤ h.constant ≡ (p *ℤ f.constant) +ℤ (q *ℤ g.constant)
  pub of_kind : h.kind ≡ kind

-- a form that is made of the sum of the parts is p times f and q times g, once
formed_sums_to : {A : Type 0} (f g : Linear A) (p q : ℤ) (kind : Kind) (parts : Outcome (List (A × ℤ))) →
    ((v : A → ℤ) → Gives (λ (ps : List (A × ℤ)). sum_of_parts v ps ≡ (p *ℤ sum_of_parts v f.parts) +ℤ (q *ℤ sum_of_parts v g.parts))
    parts) →
    Gives (SumsTo f g p q kind) (formed parts (combined_number p f.constant q g.constant) kind)
formed_sums_to {A} f g p q kind parts each =
    formed_gives (λ (ps : List (A × ℤ)). (v : A → ℤ) → sum_of_parts v ps ≡ (p *ℤ sum_of_parts v f.parts) +ℤ (q *ℤ sum_of_parts v g.parts))
    (IsSum p f.constant q g.constant) (SumsTo f g p q kind) parts (combined_number p f.constant q g.constant) kind
    (gives_all (λ (v : A → ℤ) (ps : List (A × ℤ)). sum_of_parts v ps ≡ (p *ℤ sum_of_parts v f.parts) +ℤ (q *ℤ sum_of_parts v g.parts)) parts
    each)
    (combined_number_gives p f.constant q g.constant)
    (λ ps c first second.
    record {
      times = 1;
      some = omega arith;
      parts = λ (v : A → ℤ). one_mul (sum_of_parts v ps) ∙ first v;
      constant = one_mul c ∙ second.0;
      of_kind = refl;
    })

-- by ascending atoms
pub combined_sums_to : (f g : Linear ℕ) (p q : ℤ) (kind : Kind) → Gives (SumsTo f g p q kind) (combined f p g q kind)
combined_sums_to f g p q kind = formed_sums_to f g p q kind (merged p q f.parts g.parts) (λ (v : ℕ → ℤ). merged_value v p q f.parts g.parts)

-- a form is its divided form a number of times
pub divided_times : {A : Type 0} (f : Linear A) →
    (d : ℕ) × (0 < d) × ((v : A → ℤ) → pos d *ℤ sum_of_parts v (divided f).parts ≡ sum_of_parts v f.parts) ×
    (pos d *ℤ (divided f).constant ≡ f.constant)
divided_times {A} f =
    let d = gcd (nat_abs f.constant) (divisor_of_parts f.parts) in
    let is = gcd_is (nat_abs f.constant) (divisor_of_parts f.parts) in
    ⊎_elim
    (λ (none : d ≡ 0). (
      1,
      omega arith,
      λ (v : A → ℤ). one_mul (sum_of_parts v (divided_parts d f.parts)) ∙ ap (λ (x : ℕ). sum_of_parts v (divided_parts x f.parts)) none
          ∙ ap (sum_of_parts v) (undivided f.parts),
      one_mul (floor_of f.constant d) ∙ ap (floor_of f.constant) none ∙ floor_by_zero f.constant,
    ))
    (λ (some : 0 < d). (
      d,
      some,
      λ (v : A → ℤ). sym (divided_sum v d f.parts some (divisor_divides d f.parts is.1)),
      floor_exact f.constant
          d is.0 some,
    ))
    (eq-zero-or-pos d)

-- a form divided still sums
divided_sums_to : {A : Type 0} (f g : Linear A) (p q : ℤ) (kind : Kind) (h : Linear A) → SumsTo f g p q kind h →
    SumsTo f g p q kind (divided h)
divided_sums_to {A} f g p q kind h sum =
    let by = divided_times h in
    let both = mul-pos sum.some by.1 in
    record {
      times = sum.times * by.0;
      some = both;
      parts = λ (v : A → ℤ). mul_assoc (pos sum.times) (pos by.0) (sum_of_parts v (divided h).parts)
          ∙ ap (λ (x : ℤ). pos sum.times *ℤ x) (by.2 v) ∙ sum.parts v;
      constant = mul_assoc (pos sum.times) (pos by.0) (divided h).constant ∙ ap (λ (x : ℤ). pos sum.times *ℤ x) by.3 ∙ sum.constant;
      of_kind = sum.of_kind;
    }

pub eliminated_sums_to : (f g : Linear ℕ) (t : ℕ) →
    let m = multipliers (coefficient same_atom t f.parts) (coefficient same_atom t g.parts) g.kind in
    Gives (SumsTo (without same_atom t f) (without same_atom t g) m.0 m.1 (kind_of_sum f.kind g.kind)) (eliminated f g t)
eliminated_sums_to f g t =
    let m = multipliers (coefficient same_atom t f.parts) (coefficient same_atom t g.parts) g.kind in
    let kind = kind_of_sum f.kind g.kind in
    let first = without same_atom t f in
    let second = without same_atom t g in
    then_gives (SumsTo first second m.0 m.1 kind) (SumsTo first second m.0 m.1 kind) (combined first m.0 second m.1 kind)
    (λ h. Fits (divided h))
    (combined_sums_to first second m.0 m.1 kind)
    (λ h sum. divided_sums_to first second m.0 m.1 kind h sum)

-- an atom that can be cancelled has coefficients that aren't 0, of one sign only where a form is an equation
pub can_cancel_gives : {A : Type 0} (same : A → A → Bool) (f g : Linear A) (t : A) → IsTrue (can_cancel same f g t) →
    let a = coefficient same t f.parts in
    let b = coefficient same t g.parts in
    (a ≡ pos 0 → ⊥) × (b ≡ pos 0 → ⊥) × IsTrue (is_equation f.kind || (is_equation g.kind || not (signs_alike a b)))
can_cancel_gives same f g t cancels =
    let a = coefficient same t f.parts in
    let b = coefficient same t g.parts in
    let first = and_parts (not (int_eq a (pos 0)))
    (not (int_eq b (pos 0)) && (is_equation f.kind || (is_equation g.kind || not (signs_alike a b)))) cancels in
    let second = and_parts (not (int_eq b (pos 0))) (is_equation f.kind || (is_equation g.kind || not (signs_alike a b))) first.1 in (
      λ (zero : a ≡ pos 0). not_not (int_eq a (pos 0)) first.0 (zero_test a zero),
      λ (zero : b ≡ pos 0). not_not (int_eq b (pos 0)) second.0
          (zero_test b zero),
      second.1,
    )
  where
    not_not : (b : Bool) → not b ≡ true → b ≡ true → ⊥
    not_not true one other = absurd cc
    not_not false one other = absurd cc

-- the size of a number that isn't 0 divided by what divides it
quotient_some : (d : ℕ) (z : ℤ) → d ∣ nat_abs z → (z ≡ pos 0 → ⊥) → 0 < nat_abs z / d
quotient_some d z divides some =
    let size : 0 < nat_abs z = sized z some in
    let above : 0 < d = pos_of_dvd_of_pos divides size in
    let most : d ≤ nat_abs z = le_of_dvd size divides in
    (le-div_iff_mul-le above).1 (omega arith)
  where
    sized : (z : ℤ) → (z ≡ pos 0 → ⊥) → 0 < nat_abs z
    sized (pos n) some = ⊎_elim (λ (e : n ≡ 0). absurd (some (ap pos e))) (λ (h : 0 < n). h) (eq-zero-or-pos n)
    sized (negsuc n) some = omega arith

-- the multiplier of a bound is above 0, and so is the first where the second form is an equation
pub multipliers_positive : (a b : ℤ) (first second : Kind) → (a ≡ pos 0 → ⊥) → (b ≡ pos 0 → ⊥) →
    IsTrue (is_equation first || (is_equation second || not (signs_alike a b))) →
    (first ≡ Le → pos 0 <ℤ (multipliers a b second).0) × (second ≡ Le → pos 0 <ℤ (multipliers a b second).1) ×
    (second ≡ Eq → pos 0 <ℤ (multipliers a b second).0)
multipliers_positive a b first second some other cancels =
    let is = gcd_is (nat_abs a) (nat_abs b) in
    by first second (signs_alike a b) (nat_abs b / gcd (nat_abs a) (nat_abs b)) (nat_abs a / gcd (nat_abs a) (nat_abs b))
    (quotient_some (gcd (nat_abs a) (nat_abs b)) b is.1 other) (quotient_some (gcd (nat_abs a) (nat_abs b)) a is.0 some) cancels
  where
    above : (n : ℕ) → 0 < n → pos 0 <ℤ pos n
    above n h = omega (arith, sums)

    by : (first second : Kind) (s : Bool) (p q : ℕ) → 0 < p → 0 < q → IsTrue (is_equation first || (is_equation second || not s)) →
        let m : ℤ × ℤ = if s then (if is_equation second then (pos p, neg_ℤ (pos q)) else (neg_ℤ (pos p), pos q)) else (pos p, pos q) in
        (first ≡ Le → pos 0 <ℤ m.0) × (second ≡ Le → pos 0 <ℤ m.1) × (second ≡ Eq → pos 0 <ℤ m.0)
    by Le Le true p q one two e = absurd cc
    by Le Eq true p q one two e = (λ (x : Le ≡ Le). above p one, λ (x : Eq ≡ Le). absurd cc, λ (x : Eq ≡ Eq). above p one)
    by Eq Le true p q one two e = (λ (x : Eq ≡ Le). absurd cc, λ (x : Le ≡ Le). above q two, λ (x : Le ≡ Eq). absurd cc)
    by Eq Eq true p q one two e = (λ (x : Eq ≡ Le). absurd cc, λ (x : Eq ≡ Le). absurd cc, λ (x : Eq ≡ Eq). above p one)
    by first second false p q one two e =
        (λ (x : first ≡ Le). above p one, λ (x : second ≡ Le). above q two, λ (x : second ≡ Eq). above p one)
