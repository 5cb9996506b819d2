-- Marks of facts, set and taken off.
use Rattle.sm_trim.proofs.Imports.{◌≡◌, ◌<◌, ◌≤◌, ◌+◌, ◌-◌, ℕ, suc, Bool, true, false, ◌||◌, nat_lt, refl, ap, sym, ◌∙◌, subst, arith, ltb-false, ltb-true, Marks, some_pass, AreMarks, MarksMore}

-- where facts that are named are marked too, the marks are those of what needs these as well
pub marks_more : (at : ℕ) (named needed : ℕ → Bool) (m k : Marks) → AreMarks at needed m → MarksMore named m k →
    AreMarks at (λ (n : ℕ). named n || needed n) k
marks_more at named needed m k marks more = (
  more.0 ∙ marks.0,
  λ (n : ℕ) (less : n < at).
      more.1 n (let within : n < m.facts = let l = marks.0 in omega arith in within) ∙ ap (λ (b : Bool). named n || b) (marks.1 n less),
)
  where
    assoc : (a b c : Bool) → (a || (b || c)) ≡ ((a || b) || c)
    assoc true b c = refl
    assoc false b c = refl

-- all below a bound
pub below_more : (n old end : ℕ) (named : Bool) → old < end → (nat_lt n end || named) ≡ (nat_lt n end || (nat_lt n old || named))
below_more n old end named less = of (nat_lt n old) (nat_lt n end) refl refl
  where
    of : (a b : Bool) → nat_lt n old ≡ a → nat_lt n end ≡ b → (b || named) ≡ (b || (a || named))
    of a true x y = refl
    of false false x y = refl
    of true false x y =
        let low : n < old = ltb-true n old x in
        let high : end ≤ n = ltb-false n end y in absurd (omega (arith, low, high, less))

-- after some marks are taken off: whether one was set, and those that are left
abbrev pub AreTaken : ℕ → ℕ → (ℕ → Bool) → Bool → Marks → Type 0
AreTaken k at needed one marks = (one ≡ some_pass k at needed) × AreMarks at needed marks

-- one mark more is taken off
pub taken_more : (count left at : ℕ) (needed : ℕ → Bool) (one b : Bool) (m k : Marks) → 0 < left → left ≤ count →
    AreTaken (count - left) (at + left) needed one m →
    ((a : ℕ) (f : ℕ → Bool) → AreMarks (suc a) f m → (b ≡ f a) × AreMarks a f k) →
    AreTaken (count - (left - 1)) (at + (left - 1)) needed (b || one) k
taken_more count left at needed one b xs ys some within taken take =
    let m = at + (left - 1) in
    let here : at + left ≡ suc m = omega arith in
    let more : count - (left - 1) ≡ suc (count - left) = omega arith in
    let last = take m needed (subst (λ (n : ℕ). AreMarks n needed xs) here taken.1) in (
      ap (λ (x : Bool). x || one) last.0
          ∙ ap (λ (x : Bool). needed m || x) (taken.0 ∙ ap (λ (n : ℕ). some_pass (count - left) n needed) here)
          ∙ ap (λ (k : ℕ). some_pass k m needed) (sym more),
      last.1,
    )

-- all are taken off
pub all_taken : (count left at : ℕ) (needed : ℕ → Bool) (one : Bool) (m : Marks) → left ≤ 0 →
    AreTaken (count - left) (at + left) needed one m → AreTaken count at needed one m
all_taken count left at needed one xs none taken =
    let a : count - left ≡ count = omega arith in
    let b : at + left ≡ at = omega arith in
    subst (λ (k : ℕ). AreTaken k at needed one xs) a (subst (λ (n : ℕ). AreTaken (count - left) n needed one xs) b taken)
