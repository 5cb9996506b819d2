-- What a line of arithmetic adds holds wherever the facts do.
use Rattle.sm_theory.proofs.Imports.{◌≡◌, ℤ, pos, negsuc, ◌+ℤ◌, ◌-ℤ◌, ◌*ℤ◌, Bool, true, false, ◌&&◌, not, if◌then◌else◌, IsTrue, Some, None, List, refl, sym, ap, subst, ◌∙◌, arith, ◌≤ℤ◌, ◌<ℤ◌, int_eq, and_parts, Decides-int_eq, Sorts, Num, Arr, fits_form, Linear, Satisfies, HoldsAt, sum_of_parts, Kind, Outcome, Fits, Leaves, then_with, computed, formed, can_cancel, elimination, tightened, is_contradictory, value_of_form, sums, one_mul, mul-neg_left, Gives, gives_more, gives_both, gives_fits, then_gives, computed_gives, AreReduced, combination_gives_value, Tree, Structure, same_tree, Assertion, Yes, No, Ne, Le, Lt, And, Or, Holds, BranchFact, Formal, Sum, IsFact, AreFacts, number_meant, linear_of, CertificateLine, Same, Apart, Lin, Elim, Tight, followed, formula_at, form_at, formula_if, is_numeric, same_parts, compared_forms, form_fact, difference, one_more, form_of_comparison, cancelled, arithmetic_adds, AreFactsSorted, IsLineSorted}
use Rattle.sm_num.specs.declared.op.Op.TheVariants as op
use Rattle.sm_num.specs.declared.kind.Kind.TheVariants as kind
use Rattle.sm_num.proofs.EliminationSound.{elimination_holds}
use Rattle.sm_num.proofs.TighteningSound.{tighten_means, contradictory_never}
use Rattle.sm_term.specs.Assertions.{Eq}
use Rattle.sm_theory.proofs.FactsLemmas.{fact_holds, fact_is_sorted, followed_from, formula_stands, form_stands}
use Rattle.sm_theory.proofs.LinearTermsLemmas.{linear_reduced, linear_value}
use Rattle.sm_theory.proofs.LinearSameTree.{tree_sound, tree_reflexive}
use Rattle.sm_theory.proofs.LinearAlikeLemmas.{alike_sum, same_parts_alike, once_reduced}
use Rattle.sm_theory.proofs.EqualityLemmas.{formula_if_from}

-- a form that was added was computed
pub form_fact_is : (outcome : Outcome (Linear Tree)) (k : BranchFact) → form_fact outcome ≡ Some k →
    (h : Linear Tree) × (outcome ≡ Fits h) × (Sum h ≡ k)
form_fact_is (Fits h) k e = let same : Sum h ≡ k = cc in (h, refl, same)
form_fact_is (Leaves operation y z) k e = absurd cc

-- what two terms passed that were compared
pub record ArePassed (sorts : Sorts) (t u : Tree) (test : ℤ → ℤ → Bool) : Type 0 where
  pub first : is_numeric sorts t ≡ true
  pub second : is_numeric sorts u ≡ true
  pub parts : same_parts (linear_of t) (linear_of u) ≡ true
  pub constants : test (linear_of t).constant (linear_of u).constant ≡ true

pub compared_passes : (sorts : Sorts) (t u : Tree) (test : ℤ → ℤ → Bool) → compared_forms sorts t u test ≡ true → ArePassed sorts t u test
compared_passes sorts t u test e =
    let a = and_parts (is_numeric sorts t)
    (is_numeric sorts u && (same_parts (linear_of t) (linear_of u) && test (linear_of t).constant (linear_of u).constant)) e in
    let b = and_parts (is_numeric sorts u) (same_parts (linear_of t) (linear_of u) && test (linear_of t).constant (linear_of u).constant) a.1
    in
    let c = and_parts (same_parts (linear_of t) (linear_of u)) (test (linear_of t).constant (linear_of u).constant) b.1 in
    record { first = a.0; second = b.0; parts = c.0; constants = c.1 }

-- the kind of parts with a constant
formed_kind : (parts : Outcome (List (Tree × ℤ))) (constant : Outcome ℤ) (k : Kind) →
    Gives (λ (h : Linear Tree). h.kind ≡ k) (formed parts constant k)
formed_kind (Fits ps) (Fits c) k = refl
formed_kind (Fits ps) (Leaves operation y z) k = tt
formed_kind (Leaves operation y z) constant k = tt

module _ (m : Structure) where
  -- the sums of the parts of two terms whose parts are the same
  sums_of_parts : (t u : Tree) → same_parts (linear_of t) (linear_of u) ≡ true →
      sum_of_parts (number_meant m) (linear_of t).parts ≡ sum_of_parts (number_meant m) (linear_of u).parts
  sums_of_parts t u same =
      let first = (linear_reduced t).parts in
      let second = (linear_reduced u).parts in
      alike_sum same_tree (number_meant m) tree_sound tree_reflexive (linear_of t).parts (linear_of u).parts first second
      (same_parts_alike (linear_of t) (linear_of u) first second same)

  -- terms of one form are equal numbers
  pub same_holds : (sorts : Sorts) (t u : Tree) → compared_forms sorts t u int_eq ≡ true → number_meant m t ≡ number_meant m u
  same_holds sorts t u e =
      let passed = compared_passes sorts t u int_eq e in
      let parts = sums_of_parts t u passed.parts in
      let constants = (Decides-int_eq (linear_of t).constant (linear_of u).constant).0 passed.constants in
      let left = linear_value m t in
      let right = linear_value m u in
      omega (arith, sums)

  -- terms whose forms differ in the constant alone aren't
  pub apart_holds : (sorts : Sorts) (t u : Tree) → compared_forms sorts t u (λ (y z : ℤ). not (int_eq y z)) ≡ true →
      number_meant m t ≡ number_meant m u → ⊥
  apart_holds sorts t u e equal =
      let passed = compared_passes sorts t u (λ (y z : ℤ). not (int_eq y z)) e in
      let parts = sums_of_parts t u passed.parts in
      let left = linear_value m t in
      let right = linear_value m u in
      let constants : (linear_of t).constant ≡ (linear_of u).constant = omega (arith, sums) in
      contrary (int_eq (linear_of t).constant (linear_of u).constant)
      ((Decides-int_eq (linear_of t).constant (linear_of u).constant).1 constants) passed.constants
    where
      contrary : (b : Bool) → b ≡ true → not b ≡ true → ⊥
      contrary true e f = absurd cc
      contrary false e f = absurd cc

  -- what a difference says
  abbrev IsDifference : Tree → Tree → Kind → Linear Tree → Type 0
  IsDifference t u k h = (h.kind ≡ k) × (value_of_form (number_meant m) h ≡ number_meant m t -ℤ number_meant m u)

  difference_gives : (t u : Tree) (k : Kind) → Gives (IsDifference t u k) (difference t u k)
  difference_gives t u k =
      gives_both (λ (h : Linear Tree). h.kind ≡ k) _ (difference t u k) (formed_kind _ _ k)
      (gives_more _ _ (difference t u k) (combination_gives_value (number_meant m) same_tree tree_sound (linear_of t) (linear_of u) (pos 1)
      (negsuc 0) k (linear_reduced t).parts)
      (λ (h : Linear Tree) (e : value_of_form (number_meant m) h ≡ (pos 1 *ℤ value_of_form (number_meant m) (linear_of t)) +ℤ
      (negsuc 0 *ℤ value_of_form (number_meant m) (linear_of u))).
      e ∙ less (value_of_form (number_meant m) (linear_of t)) (value_of_form (number_meant m) (linear_of u)) (number_meant m t)
      (number_meant m u) (linear_value m t) (linear_value m u)))
    where
      less : (x y r s : ℤ) → x ≡ r → y ≡ s → (pos 1 *ℤ x) +ℤ (negsuc 0 *ℤ y) ≡ r -ℤ s
      less x y r s first second = let one = one_mul x in let other = mul-neg_left (pos 1) y in let back = one_mul y in omega (arith, sums)

  -- a form with its constant one more
  one_more_gives : (f : Linear Tree) → Gives (λ (h : Linear Tree). (h.kind ≡ f.kind) ×
      (value_of_form (number_meant m) h ≡ value_of_form (number_meant m) f +ℤ pos 1)) (one_more f)
  one_more_gives f =
      then_gives (λ (c : ℤ). (c ≡ f.constant +ℤ pos 1) × IsTrue (fits_form c))
      (λ (h : Linear Tree). (h.kind ≡ f.kind) × (value_of_form (number_meant m) h ≡ value_of_form (number_meant m) f +ℤ pos 1))
      (computed op.Add f.constant (pos 1)) _ (computed_gives op.Add f.constant (pos 1))
      (λ (c : ℤ) (number : (c ≡ f.constant +ℤ pos 1) × IsTrue (fits_form c)). let is = number.0 in (refl, omega (arith, sums)))

  -- a form of a kind whose value is known holds where the value is as the kind says
  holds_by : (h : Linear Tree) (k : Kind) (x : ℤ) → h.kind ≡ k → value_of_form (number_meant m) h ≡ x → Satisfies k x →
      HoldsAt (number_meant m) h
  holds_by h k x kind value is = subst (λ (j : Kind). Satisfies j (value_of_form (number_meant m) h)) (sym kind)
      (subst (Satisfies k) (sym value) is)

  -- a difference that was added holds where it is as its kind says
  difference_holds : (t u : Tree) (kd : Kind) (k : BranchFact) → form_fact (difference t u kd) ≡ Some k →
      Satisfies kd (number_meant m t -ℤ number_meant m u) → IsFact m k
  difference_holds t u kd k e is =
      let p = form_fact_is (difference t u kd) k e in
      let given = gives_fits (IsDifference t u kd) (difference t u kd) p.0 (difference_gives t u kd) p.1 in
      subst (IsFact m) p.2 (holds_by p.0 kd (number_meant m t -ℤ number_meant m u) given.0 given.1 is)

  -- so does one with 1 more of a number that is less
  strict_holds : (t u : Tree) (k : BranchFact) → form_fact (then_with (difference t u kind.Le) one_more) ≡ Some k →
      number_meant m t <ℤ number_meant m u → IsFact m k
  strict_holds t u k e less =
      let p = form_fact_is (then_with (difference t u kind.Le) one_more) k e in
      let x = number_meant m t -ℤ number_meant m u in
      let given =
      gives_fits (λ (h : Linear Tree). (h.kind ≡ kind.Le) × (value_of_form (number_meant m) h ≡ x +ℤ pos 1))
      (then_with (difference t u kind.Le) one_more) p.0
      (then_gives (IsDifference t u kind.Le) _ (difference t u kind.Le) one_more (difference_gives t u kind.Le)
      (λ (f : Linear Tree) (is : IsDifference t u kind.Le f).
      gives_more _ _ (one_more f) (one_more_gives f)
      (λ (h : Linear Tree) (more : (h.kind ≡ f.kind) × (value_of_form (number_meant m) h ≡ value_of_form (number_meant m) f +ℤ pos 1)).
      (more.0 ∙ is.0, more.1 ∙ ap (λ (y : ℤ). y +ℤ pos 1) is.1))))
      p.1 in
      subst (IsFact m) p.2 (holds_by p.0 kind.Le (x +ℤ pos 1) given.0 given.1 (omega (arith, sums)))

  -- the form of a comparison holds where the comparison does
  pub comparison_holds : (f : Assertion) (k : BranchFact) → form_of_comparison f ≡ Some k → Holds m f → IsFact m k
  comparison_holds Yes k e h = absurd cc
  comparison_holds No k e h = absurd cc
  comparison_holds (Eq Num t u) k e h = difference_holds t u kind.Eq k e (nothing_less (number_meant m t) (number_meant m u) h)
    where
      nothing_less : (x y : ℤ) → x ≡ y → x -ℤ y ≡ pos 0
      nothing_less x y same = omega (arith, sums)
  comparison_holds (Eq Arr t u) k e h = absurd cc
  comparison_holds (Ne sort t u) k e h = absurd cc
  comparison_holds (Le t u) k e h = difference_holds t u kind.Le k e (at_most (number_meant m t) (number_meant m u) h)
    where
      at_most : (x y : ℤ) → x ≤ℤ y → (x -ℤ y) ≤ℤ pos 0
      at_most x y less = omega (arith, sums)
  comparison_holds (Lt t u) k e h = strict_holds t u k e h
  comparison_holds (And p q) k e h = absurd cc
  comparison_holds (Or p q) k e h = absurd cc

  -- the sum of two forms that hold, in which a term cancels, holds
  pub cancelled_holds : (t : Tree) (f g : Linear Tree) (k : BranchFact) → AreReduced same_tree f.parts → cancelled t f g ≡ Some k →
      IsFact m (Sum f) → IsFact m (Sum g) → IsFact m k
  cancelled_holds t f g k reduced e first second = by (can_cancel same_tree f g t) refl e
    where
      by : (b : Bool) → can_cancel same_tree f g t ≡ b → (if b then form_fact (elimination same_tree f g t) else None) ≡ Some k → IsFact m k
      by true cancels e =
          let p = form_fact_is (elimination same_tree f g t) k e in
          subst (IsFact m) p.2 (elimination_holds (number_meant m) same_tree tree_sound f g p.0 t reduced cancels first second p.1)
      by false cancels e = absurd cc

  -- a form that is a contradiction never holds
  pub contradiction_fails : (f : Linear Tree) → IsTrue (is_contradictory f) → IsFact m (Sum f) → ⊥
  contradiction_fails f e h = contradictory_never (number_meant m) f e h

-- what a line of arithmetic adds holds wherever the facts do
pub arithmetic_holds : (sorts : Sorts) (m : Structure) (facts : List BranchFact) (line : CertificateLine) (k : BranchFact) →
    AreFactsSorted sorts facts → IsLineSorted sorts line → arithmetic_adds sorts facts line ≡ Some k → AreFacts m facts → IsFact m k
arithmetic_holds sorts m facts (Same t u) k sorted terms e all =
    let p = formula_if_from (compared_forms sorts t u int_eq) (Eq Num t u) k e in
    subst (IsFact m) p.1 (same_holds m sorts t u p.0)
arithmetic_holds sorts m facts (Apart t u) k sorted terms e all =
    let p = formula_if_from (compared_forms sorts t u (λ (y z : ℤ). not (int_eq y z))) (Ne Num t u) k e in
    subst (IsFact m) p.1 (apart_holds m sorts t u p.0)
arithmetic_holds sorts m facts (Lin n) k sorted terms e all =
    let p = followed_from (formula_at facts n) form_of_comparison k e in
    comparison_holds m p.0 k p.2 (fact_holds m facts n (Formal p.0) all (formula_stands facts n p.0 p.1))
arithmetic_holds sorts m facts (Elim i j t) k sorted terms e all =
    let p = followed_from (form_at facts i) (λ (f : Linear Tree). followed (form_at facts j) (cancelled t f)) k e in
    let q = followed_from (form_at facts j) (cancelled t p.0) k p.2 in
    let first = form_stands facts i p.0 p.1 in
    let second = form_stands facts j q.0 q.1 in
    cancelled_holds m t p.0 q.0 k (once_reduced p.0.parts (fact_is_sorted sorts facts i (Sum p.0) sorted first).1) q.2
    (fact_holds m facts i (Sum p.0) all first) (fact_holds m facts j (Sum q.0) all second)
arithmetic_holds sorts m facts (Tight n) k sorted terms e all =
    let p = followed_from (form_at facts n) (λ (f : Linear Tree). Some (Sum (tightened f))) k e in
    let same : Sum (tightened p.0) ≡ k = some_is (Sum (tightened p.0)) k p.2 in
    subst (IsFact m) same ((tighten_means (number_meant m) p.0).0 (fact_holds m facts n (Sum p.0) all (form_stands facts n p.0 p.1)))
  where
    some_is : (j k : BranchFact) → Some j ≡ Some k → j ≡ k
    some_is j k e = cc
arithmetic_holds sorts m facts line k sorted terms e all = absurd cc
