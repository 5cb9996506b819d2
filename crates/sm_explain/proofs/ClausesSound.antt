-- Words are said exactly where a clause fails.
use Rattle.sm_explain.proofs.Imports.{◌≡◌, ◌↔◌, ℤ, Bool, true, false, not, ◌&&◌, refl, sym, ◌∙◌, inl, inr, ⊎_elim, int_eq, Decides-int_eq, Decides-not, Decides-and, Decides-like, not_from_Decides, Keeps, KeepsChange, AddsNothing, agree, loses_change, adds_change}
use Rattle.sm_explain.specs.Laws.{ClausesFail}

-- a change is lost where neither part of the clause holds
lost_is : (o v m : ℤ) → (loses_change o v m ≡ true) ↔ (¬ KeepsChange o v m)
lost_is o v m =
    Decides-like (loses_change o v m)
    (λ (h : (¬ (o ≡ v)) × (¬ (m ≡ v))) (k : KeepsChange o v m). ⊎_elim (λ (e : o ≡ v). h.0 e) (λ (e : m ≡ v). h.1 e) k)
    (λ (h : ¬ KeepsChange o v m). (λ (e : o ≡ v). h (inl e), λ (e : m ≡ v). h (inr e)))
    (Decides-and (not (int_eq o v)) (not (int_eq m v))
    (Decides-not (int_eq o v) (Decides-int_eq o v)) (Decides-not (int_eq m v) (Decides-int_eq m v)))

-- a change is added where two agree and the third doesn't
split : (o a b m : ℤ) → ¬ AddsNothing o a b m → (o ≡ a) × (a ≡ b) × (¬ (m ≡ o))
split o a b m h = by (int_eq o a) refl (int_eq a b) refl
  where
    by : (p : Bool) → int_eq o a ≡ p → (q : Bool) → int_eq a b ≡ q → (o ≡ a) × (a ≡ b) × (¬ (m ≡ o))
    by true p true q =
        ((Decides-int_eq o a).0 p, (Decides-int_eq a b).0 q, λ (e : m ≡ o). h (λ (first : o ≡ a) (second : a ≡ b). e))
    by true p false q =
        absurd (h (λ (first : o ≡ a) (second : a ≡ b). absurd (not_from_Decides (int_eq a b) (Decides-int_eq a b) q second)))
    by false p q r =
        absurd (h (λ (first : o ≡ a) (second : a ≡ b). absurd (not_from_Decides (int_eq o a) (Decides-int_eq o a) p first)))

added_is : (o a b m : ℤ) → (adds_change o a b m ≡ true) ↔ (¬ AddsNothing o a b m)
added_is o a b m =
    Decides-like (adds_change o a b m)
    (λ (h : ((o ≡ a) × (a ≡ b)) × (¬ (m ≡ o))) (k : AddsNothing o a b m). h.1 (k h.0.0 h.0.1))
    (λ (h : ¬ AddsNothing o a b m). let parts = split o a b m h in ((parts.0, parts.1), parts.2))
    (Decides-and (int_eq o a && int_eq a b) (not (int_eq m o))
    (Decides-and (int_eq o a) (int_eq a b) (Decides-int_eq o a) (Decides-int_eq a b)) (Decides-not (int_eq m o) (Decides-int_eq m o)))

-- four equal values keep everything
agreed_is : (o a b m : ℤ) → agree o a b m ≡ true → Keeps o a b m
agreed_is o a b m is =
    let same =
    (Decides-and (int_eq o a && int_eq a b) (int_eq b m)
    (Decides-and (int_eq o a) (int_eq a b) (Decides-int_eq o a) (Decides-int_eq a b)) (Decides-int_eq b m)).0 is in
    record {
      change_of_a = inl same.0.0;
      change_of_b = inl (same.0.0 ∙ same.0.1);
      no_other = λ (e : o ≡ a) (f : a ≡ b). sym same.1 ∙ sym f ∙ sym e;
    }

pub clauses_are : (o a b m : ℤ) → ClausesFail o a b m
clauses_are o a b m = record {
  of_a = lost_is o a m;
  of_b = lost_is o b m;
  no_other = added_is o a b m;
  agreed = agreed_is o a b m;
}
