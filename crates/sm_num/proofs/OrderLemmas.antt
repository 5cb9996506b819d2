-- By ascending atoms and over any atoms, and of forms that are alike, sums come out alike.
use Rattle.sm_num.proofs.Imports.{◌≡◌, ◌≤◌, ℕ, suc, ◌==◌, nat_lt, ℤ, pos, Bool, true, false, not, if◌then◌else◌, List, [], ◌∷◌, filter, refl, sym, ap, subst, ◌∙◌, arith, ltb-true, ltb-false, eqb-true, eqb-false, int_eq, Linear, coefficient, parts_without, without, AreParts, IsKept, Kind, Outcome, computed, combined_number, led_by, merged, merged_part, formed, joined_parts, combined, combination, Mul, multipliers, kind_of_sum, then_divided, eliminated, elimination, same_atom, AreAlike, ComeOutAlike}
use Rattle.sm_num.proofs.OutcomeLemmas.{Gives, gives_more}
use Rattle.sm_num.proofs.SameAtomLemmas.{IsSound, IsReflexive, AreReduced, same_atom_sound, same_atom_reflexive, coefficient_past, coefficient_filter}
use Rattle.sm_num.proofs.ResultsReduced.{IsReduced, without_reduced, combination_reduced}
use Rattle.sm_num.proofs.KeptLemmas.{parts_reduced, without_kept, combined_kept}
use Rattle.sm_num.proofs.AlikeLemmas.{product_alone, other_product_alone, nothing_combined, ComesOut, comes_out_at, led_comes_out, summed, scaled_comes_out, combination_comes_out, formed_alike}
use Rattle.sm_num.proofs.AlikeDivided.{then_divided_alike}
use Rattle.sm_num.proofs.KeptForms.{coefficient_below, coefficient_first}

merged_part_comes_out : (least : ℕ) (p q : ℤ) (f : ℕ × ℤ) (fs gs : List (ℕ × ℤ)) → AreParts f.0 (f ∷ fs) → AreParts least gs →
    ((rs : List (ℕ × ℤ)) → AreParts (suc f.0) rs → ComesOut same_atom (summed same_atom p q fs rs) (merged p q fs rs)) →
    ComesOut same_atom (summed same_atom p q (f ∷ fs) gs) (merged_part p q f (merged p q fs) gs)
merged_part_comes_out least p q f fs [] first second recurse =
    led_comes_out same_atom same_atom_sound (summed same_atom p q (f ∷ fs) []) (summed same_atom p q fs []) f.0 (computed Mul p f.1)
    (merged p q fs [])
    (product_alone p f.1 q ∙ ap (λ (y : ℤ). combined_number p y q (pos 0)) (sym (coefficient_first f.0 f.0 f fs first refl)))
    (ap (λ (y : ℤ). combined_number p y q (pos 0)) (coefficient_below f.0 (suc f.0) fs (omega arith) first.3) ∙ nothing_combined p q)
    (λ (t : ℕ) (e : same_atom t f.0 ≡ false). ap (λ (y : ℤ). combined_number p y q (pos 0)) (sym (coefficient_past same_atom t f fs e)))
    (recurse [] tt)
merged_part_comes_out least p q f fs (g ∷ gs) first second recurse =
    by (nat_lt g.0 f.0) (g.0 == f.0) refl refl (merged_part_comes_out (suc g.0) p q f fs gs first second.3 recurse)
  where
    by : (b c : Bool) → nat_lt g.0 f.0 ≡ b → (g.0 == f.0) ≡ c →
        ComesOut same_atom (summed same_atom p q (f ∷ fs) gs) (merged_part p q f (merged p q fs) gs) →
        ComesOut same_atom (summed same_atom p q (f ∷ fs) (g ∷ gs))
        (if b then led_by g.0 (computed Mul q g.1) (merged_part p q f (merged p q fs) gs)
        else if c then led_by f.0 (combined_number p f.1 q g.1) (merged p q fs gs)
        else led_by f.0 (computed Mul p f.1) (merged p q fs (g ∷ gs)))
    by true c below at rest =
        let none = coefficient_below g.0 f.0 (f ∷ fs) (ltb-true g.0 f.0 below) first in
        led_comes_out same_atom same_atom_sound (summed same_atom p q (f ∷ fs) (g ∷ gs)) (summed same_atom p q (f ∷ fs) gs) g.0
        (computed Mul q g.1) (merged_part p q f (merged p q fs) gs)
        (other_product_alone p q g.1 ∙ ap (λ (y : ℤ). combined_number p y q g.1) (sym none)
        ∙ ap (combined_number p (coefficient same_atom g.0 (f ∷ fs)) q) (sym (coefficient_first g.0 least g gs second refl)))
        (ap (λ (y : ℤ). combined_number p y q (coefficient same_atom g.0 gs)) none ∙ ap (combined_number p (pos 0) q)
        (coefficient_below g.0 (suc g.0) gs (omega arith) second.3) ∙ nothing_combined p q)
        (λ (t : ℕ) (e : same_atom t g.0 ≡ false). ap (combined_number p (coefficient same_atom t (f ∷ fs)) q)
        (sym (coefficient_past same_atom t g gs e)))
        rest
    by false true below at rest =
        let equal = eqb-true g.0 f.0 at in
        let later = subst (λ (x : ℕ). AreParts (suc x) gs) equal second.3 in
        led_comes_out same_atom same_atom_sound (summed same_atom p q (f ∷ fs) (g ∷ gs)) (summed same_atom p q fs gs) f.0
        (combined_number p f.1 q g.1) (merged p q fs gs)
        (ap (λ (y : ℤ). combined_number p y q g.1) (sym (coefficient_first f.0 f.0 f fs first refl))
        ∙ ap (combined_number p (coefficient same_atom f.0 (f ∷ fs)) q) (sym (coefficient_first f.0 least g gs second (sym equal))))
        (ap (λ (y : ℤ). combined_number p y q (coefficient same_atom f.0 gs)) (coefficient_below f.0 (suc f.0) fs (omega arith) first.3)
        ∙ ap (combined_number p (pos 0) q) (coefficient_below f.0 (suc f.0) gs (omega arith) later) ∙ nothing_combined p q)
        (λ (t : ℕ) (e : same_atom t f.0 ≡ false).
        ap (λ (y : ℤ). combined_number p y q (coefficient same_atom t gs)) (sym (coefficient_past same_atom t f fs e))
        ∙ ap (combined_number p (coefficient same_atom t (f ∷ fs)) q)
        (sym (coefficient_past same_atom t g gs (subst (λ (x : ℕ). same_atom t x ≡ false) (sym equal) e))))
        (recurse gs later)
    by false false below at rest =
        let above = ltb-false g.0 f.0 below in
        let other = eqb-false g.0 f.0 at in
        let next : suc f.0 ≤ g.0 = omega arith in
        let later : AreParts (suc f.0) (g ∷ gs) = (next, second.1, second.2, second.3) in
        let none = coefficient_below f.0 (suc f.0) (g ∷ gs) (omega arith) later in
        led_comes_out same_atom same_atom_sound (summed same_atom p q (f ∷ fs) (g ∷ gs)) (summed same_atom p q fs (g ∷ gs)) f.0
        (computed Mul p f.1) (merged p q fs (g ∷ gs))
        (product_alone p f.1 q ∙ ap (λ (y : ℤ). combined_number p y q (pos 0)) (sym (coefficient_first f.0 f.0 f fs first refl))
        ∙ ap (combined_number p (coefficient same_atom f.0 (f ∷ fs)) q) (sym none))
        (ap (λ (y : ℤ). combined_number p y q (coefficient same_atom f.0 (g ∷ gs))) (coefficient_below f.0 (suc f.0) fs (omega arith) first.3)
        ∙ ap (combined_number p (pos 0) q) none ∙ nothing_combined p q)
        (λ (t : ℕ) (e : same_atom t f.0 ≡ false). ap (λ (y : ℤ). combined_number p y q (coefficient same_atom t (g ∷ gs)))
        (sym (coefficient_past same_atom t f fs e)))
        (recurse (g ∷ gs) later)

-- parts merged by ascending atom
pub merged_comes_out : (least : ℕ) (p q : ℤ) (fs gs : List (ℕ × ℤ)) → AreParts least fs → AreParts least gs →
    ComesOut same_atom (summed same_atom p q fs gs) (merged p q fs gs)
merged_comes_out least p q [] gs first second =
    scaled_comes_out same_atom same_atom_sound same_atom_reflexive p q gs (parts_reduced least gs second)
merged_comes_out least p q (f ∷ fs) gs first second =
    merged_part_comes_out least p q f fs gs (omega arith, first.1, first.2, first.3) second
    (λ (rs : List (ℕ × ℤ)). merged_comes_out (suc f.0) p q fs rs first.3)

-- by ascending atoms and in the order of the parts sums of kept forms come out alike
pub combined_alike : (f g : Linear ℕ) (p q : ℤ) (kind : Kind) → IsKept f → IsKept g →
    ComeOutAlike same_atom (combined f p g q kind) (combination same_atom f p g q kind)
combined_alike f g p q kind first second =
    formed_alike same_atom (summed same_atom p q f.parts g.parts) (merged p q f.parts g.parts)
    (joined_parts same_atom p f.parts q g.parts (filter (λ r. int_eq (coefficient same_atom r.0 f.parts) (pos 0)) g.parts))
    (combined_number p f.constant q g.constant) kind
    (merged_comes_out 0 p q f.parts g.parts first.parts second.parts)
    (combination_comes_out same_atom same_atom_sound same_atom_reflexive p q f.parts g.parts (parts_reduced 0 f.parts first.parts)
    (parts_reduced 0 g.parts second.parts))

-- where an atom cancels, sums by ascending atoms and in the order of the parts come out alike
pub eliminated_alike : (f g : Linear ℕ) (t : ℕ) → IsKept f → IsKept g →
    ComeOutAlike same_atom (eliminated f g t) (elimination same_atom f g t)
eliminated_alike f g t first second =
    let m = multipliers (coefficient same_atom t f.parts) (coefficient same_atom t g.parts) g.kind in
    let kind = kind_of_sum f.kind g.kind in
    let one = without_kept t f first in
    let other = without_kept t g second in
    then_divided_alike same_atom same_atom_sound same_atom_reflexive (combined (without same_atom t f) m.0 (without same_atom t g) m.1 kind)
    (combination same_atom (without same_atom t f) m.0 (without same_atom t g) m.1 kind)
    (gives_more IsKept (λ (h : Linear ℕ). AreReduced same_atom h.parts)
    (combined (without same_atom t f) m.0 (without same_atom t g) m.1 kind)
    (combined_kept (without same_atom t f) (without same_atom t g) m.0 m.1 kind one other)
    (λ (h : Linear ℕ) (kept : IsKept h). parts_reduced 0 h.parts kept.parts))
    (gives_more (IsReduced same_atom) (λ (h : Linear ℕ). AreReduced same_atom h.parts)
    (combination same_atom (without same_atom t f) m.0 (without same_atom t g) m.1 kind)
    (combination_reduced same_atom same_atom_sound same_atom_reflexive (without same_atom t f) (without same_atom t g) m.0 m.1 kind
    (parts_reduced 0 (parts_without same_atom t f.parts) one.parts) (parts_reduced 0 (parts_without same_atom t g.parts) other.parts))
    (λ (h : Linear ℕ) (reduced : IsReduced same_atom h). reduced.parts))
    (combined_alike (without same_atom t f) (without same_atom t g) m.0 m.1 kind one other)

module _ {A : Type 0} (same : A → A → Bool) (sound : IsSound same) (reflexive : IsReflexive same) where
  -- sums of forms that are alike come out alike, over any atoms
  pub combination_alike : (f f' g g' : Linear A) (p q : ℤ) (kind : Kind) → AreReduced same f.parts → AreReduced same f'.parts →
      AreReduced same g.parts → AreReduced same g'.parts →
      AreAlike same f f' → AreAlike same g g' → ComeOutAlike same (combination same f p g q kind) (combination same f' p g' q kind)
  combination_alike f f' g g' p q kind one other first second alike like =
      let parts = joined_parts same p f'.parts q g'.parts (filter (λ r. int_eq (coefficient same r.0 f'.parts) (pos 0)) g'.parts) in
      let constants : combined_number p f.constant q g.constant ≡ combined_number p f'.constant q g'.constant =
      ap (λ (y : ℤ). combined_number p y q g.constant) alike.constant ∙ ap (combined_number p f'.constant q) like.constant in
      subst (λ (constant : Outcome ℤ). ComeOutAlike same (combination same f p g q kind) (formed parts constant kind)) constants
      (formed_alike same (summed same p q f.parts g.parts)
      (joined_parts same p f.parts q g.parts (filter (λ r. int_eq (coefficient same r.0 f.parts) (pos 0)) g.parts)) parts
      (combined_number p f.constant q g.constant) kind
      (combination_comes_out same sound reflexive p q f.parts g.parts one first)
      (comes_out_at same (summed same p q f'.parts g'.parts) (summed same p q f.parts g.parts) parts
      (λ (t : A).
      sym (ap (λ (y : ℤ). combined_number p y q (coefficient same t g.parts)) (alike.coefficients t)
      ∙ ap (combined_number p (coefficient same t f'.parts) q) (like.coefficients t)))
      (combination_comes_out same sound reflexive p q f'.parts g'.parts other second)))

  -- forms that are alike are alike without an atom
  pub without_alike : (t : A) (f g : Linear A) → AreAlike same f g → AreAlike same (without same t f) (without same t g)
  without_alike t f g alike =
      record {
        kind = alike.kind;
        constant = alike.constant;
        coefficients = λ (a : A).
            coefficient_filter same sound (λ (x : A). not (same t x)) a f.parts
            ∙ ap (λ (z : ℤ). if not (same t a) then z else pos 0) (alike.coefficients a)
            ∙ sym (coefficient_filter same sound (λ (x : A). not (same t x)) a g.parts);
      }

  -- sums of forms that are alike come out alike where an atom cancels, over any atoms
  pub elimination_alike : (f f' g g' : Linear A) (t : A) → AreReduced same f.parts → AreReduced same f'.parts → AreReduced same g.parts →
      AreReduced same g'.parts →
      AreAlike same f f' → AreAlike same g g' → ComeOutAlike same (elimination same f g t) (elimination same f' g' t)
  elimination_alike f f' g g' t one other first second alike like =
      let m = multipliers (coefficient same t f.parts) (coefficient same t g.parts) g.kind in
      let kind = kind_of_sum f.kind g.kind in
      let rest : (x y : ℤ) (k l : Kind) → Outcome (Linear A) = λ (x y : ℤ) (k l : Kind).
      then_divided (combination same (without same t f') (multipliers x y l).0 (without same t g') (multipliers x y l).1
      (kind_of_sum k l)) in
      let same_numbers : rest (coefficient same t f.parts) (coefficient same t g.parts) f.kind g.kind ≡ elimination same f' g' t =
      ap (λ (x : ℤ). rest x (coefficient same t g.parts) f.kind g.kind) (alike.coefficients t)
      ∙ ap (λ (y : ℤ). rest (coefficient same t f'.parts) y f.kind g.kind) (like.coefficients t)
      ∙ ap (λ (k : Kind). rest (coefficient same t f'.parts) (coefficient same t g'.parts) k g.kind) alike.kind
      ∙ ap (λ (l : Kind). rest (coefficient same t f'.parts) (coefficient same t g'.parts) f'.kind l) like.kind in
      let reduced : (h k : Linear A) → AreReduced same h.parts → AreReduced same k.parts →
      Gives (λ (r : Linear A). AreReduced same r.parts) (combination same (without same t h) m.0 (without same t k) m.1 kind) =
      λ (h k : Linear A) (a : AreReduced same h.parts) (b : AreReduced same k.parts).
      gives_more (IsReduced same) (λ (r : Linear A). AreReduced same r.parts)
      (combination same (without same t h) m.0 (without same t k) m.1 kind)
      (combination_reduced same sound reflexive (without same t h) (without same t k) m.0 m.1 kind (without_reduced same t h a)
      (without_reduced same t k b))
      (λ (r : Linear A) (is : IsReduced same r). is.parts) in
      subst (ComeOutAlike same (elimination same f g t)) same_numbers
      (then_divided_alike same sound reflexive (combination same (without same t f) m.0 (without same t g) m.1 kind)
      (combination same (without same t f') m.0 (without same t g') m.1 kind)
      (reduced f g one first) (reduced f' g' other second)
      (combination_alike (without same t f) (without same t f') (without same t g) (without same t g') m.0 m.1 kind
      (without_reduced same t f one) (without_reduced same t f' other)
      (without_reduced same t g first) (without_reduced same t g' second) (without_alike t f f' alike) (without_alike t g g' like)))
