-- What the comparison of two terms' forms makes of them.
use Rattle.sm_lia.proofs.Imports.{◌≡◌, ◌<◌, ℕ, ℤ, Bool, true, false, ◌&&◌, not, if◌then◌else◌, List, length, Some, None, refl, sym, ap, subst, ◌∙◌, ⊎_elim, Linear, Tree, tree_at, linear_of, is_numeric, same_parts, compared_forms, IsKeptFor, StandsIf, same_parts_stand}
use Rattle.std.specs.Ordering.{int_eq}
use Rattle.std.specs.Bool.{Decides}
use Rattle.std.proofs.lemmas.Bool.{cases_Bool}
use Rattle.std.proofs.lemmas.Bool.Decides.{Decides-int_eq}
use Rattle.sm_syntax.specs.text.Sorts.{Sorts}
use Rattle.sm_syntax.specs.declared.tree.Sort.TheVariants.{Num}
use Rattle.sm_syntax.specs.declared.tree.Sort.{Sort}
use Rattle.sm_term.specs.declared.formula.Formula.TheVariants as formula
use Rattle.sm_term.specs.Assertions.{Eq, Ne}
use Rattle.sm_term.specs.declared.term.TermId.{TermId}
use Rattle.sm_theory.specs.declared.fact.Fact.TheVariants as fact
use Rattle.sm_theory.specs.Equality.{formula_if}
use Rattle.sm_theory.proofs.ArithmeticKept.{number_is}
use Rattle.sm_lia.specs.declared.comparing.Comparison.{Comparison}
use Rattle.sm_lia.specs.declared.comparing.Comparison.TheVariants.{Equal, Unequal, Other}
use Rattle.sm_lia.specs.Comparing.{form_comparison, term_comparison}

-- a comparison by the answers to its tests
abbrev how : Bool → Bool → Bool → Bool → Comparison
how a b p e = if a && b then (if p then (if e then Equal else Unequal) else Other) else Other

equal_passes : (a b p e : Bool) → how a b p e ≡ Equal → (a ≡ true) × (a && (b && (p && e)) ≡ true)
equal_passes true true true true h = (refl, refl)
equal_passes true true true false h = absurd cc
equal_passes true true false e h = absurd cc
equal_passes true false p e h = absurd cc
equal_passes false b p e h = absurd cc

else_fails : (a b p e : Bool) → (how a b p e ≡ Equal → ⊥) → a && (b && (p && e)) ≡ false
else_fails true true true true h = absurd (h refl)
else_fails true true true false h = refl
else_fails true true false e h = refl
else_fails true false p e h = refl
else_fails false b p e h = refl

unequal_passes : (a b p e : Bool) → how a b p e ≡ Unequal → (a ≡ true) × (a && (b && (p && not e)) ≡ true)
unequal_passes true true true false h = (refl, refl)
unequal_passes true true true true h = absurd cc
unequal_passes true true false e h = absurd cc
unequal_passes true false p e h = absurd cc
unequal_passes false b p e h = absurd cc

else_not : (a b p e : Bool) → (how a b p e ≡ Unequal → ⊥) → a && (b && (p && not e)) ≡ false
else_not true true true false h = absurd (h refl)
else_not true true true true h = refl
else_not true true false e h = refl
else_not true false p e h = refl
else_not false b p e h = refl

module _ (sorts : Sorts) (trees : List Tree) (t u : TermId) where
  abbrev first : Tree
  first = tree_at trees t.0

  abbrev second : Tree
  second = tree_at trees u.0

  abbrev equal : Bool
  equal = int_eq (linear_of first).constant (linear_of second).constant

  abbrev parts : Bool
  parts = same_parts (linear_of first) (linear_of second)

  -- what is added where they are equal
  pub equal_made : t.0 < length trees → u.0 < length trees → term_comparison sorts first second ≡ Equal →
      StandsIf sorts trees (Some (fact.Form (formula.Eq t u))) (formula_if (compared_forms sorts first second int_eq) (Eq Num first second))
  equal_made v w h =
      let p = equal_passes (is_numeric sorts first) (is_numeric sorts second) parts equal h in
      subst (λ (b : Bool). StandsIf sorts trees (Some (fact.Form (formula.Eq t u))) (formula_if b (Eq Num first second))) (sym p.1)
      ((v, w), ap (λ (s : Sort). Eq s first second) (number_is sorts first p.0))

  -- nothing is added where they aren't
  pub equal_none : (term_comparison sorts first second ≡ Equal → ⊥) →
      StandsIf sorts trees None (formula_if (compared_forms sorts first second int_eq) (Eq Num first second))
  equal_none h =
      subst (λ (b : Bool). StandsIf sorts trees None (formula_if b (Eq Num first second)))
      (sym (else_fails (is_numeric sorts first) (is_numeric sorts second) parts equal h)) tt

  -- what is added where the constants alone differ
  pub unequal_made : t.0 < length trees → u.0 < length trees → term_comparison sorts first second ≡ Unequal →
      StandsIf sorts trees (Some (fact.Form (formula.Ne t u)))
      (formula_if (compared_forms sorts first second (λ (y z : ℤ). not (int_eq y z))) (Ne Num first second))
  unequal_made v w h =
      let p = unequal_passes (is_numeric sorts first) (is_numeric sorts second) parts equal h in
      subst (λ (b : Bool). StandsIf sorts trees (Some (fact.Form (formula.Ne t u))) (formula_if b (Ne Num first second))) (sym p.1)
      ((v, w), ap (λ (s : Sort). Ne s first second) (number_is sorts first p.0))

  -- nothing is added where they don't
  pub unequal_none : (term_comparison sorts first second ≡ Unequal → ⊥) →
      StandsIf sorts trees None (formula_if (compared_forms sorts first second (λ (y z : ℤ). not (int_eq y z))) (Ne Num first second))
  unequal_none h =
      subst (λ (b : Bool). StandsIf sorts trees None (formula_if b (Ne Num first second)))
      (sym (else_not (is_numeric sorts first) (is_numeric sorts second) parts equal h)) tt

module _ (trees : List Tree) (f g : Linear ℕ) (h i : Linear Tree) (first : IsKeptFor trees f h) (second : IsKeptFor trees g i) where
  -- one list of parts, or two
  pub parts_equal : f.parts ≡ g.parts → same_parts h i ≡ true
  parts_equal e = (same_parts_stand trees f g h i first second).1 e

  pub parts_unequal : (f.parts ≡ g.parts → ⊥) → same_parts h i ≡ false
  parts_unequal e =
      ⊎_elim
      (λ (s : same_parts h i ≡ true). absurd (e ((same_parts_stand trees f g h i first second).0 s)))
      (λ (s : same_parts h i ≡ false). s)
      (cases_Bool (same_parts h i))

  -- other parts
  pub compare_other : (f.parts ≡ g.parts → ⊥) → Other ≡ form_comparison h i
  compare_other e =
      ap (λ (b : Bool). if b then (if int_eq h.constant i.constant then Equal else Unequal) else Other) (sym (parts_unequal e))

  -- one list of parts, and one constant
  pub compare_equal : f.parts ≡ g.parts → f.constant ≡ g.constant → Equal ≡ form_comparison h i
  compare_equal e c =
      let constants : h.constant ≡ i.constant = sym first.stands.constant ∙ c ∙ second.stands.constant in
      ap (λ (b : Bool). if b then Equal else Unequal) (sym (equal_told constants))
      ∙ ap (λ (b : Bool). if b then (if int_eq h.constant i.constant then Equal else Unequal) else Other) (sym (parts_equal e))
    where
      equal_told : h.constant ≡ i.constant → int_eq h.constant i.constant ≡ true
      equal_told d = (Decides-int_eq h.constant i.constant).1 d

  -- one list of parts, and another constant
  pub compare_unequal : f.parts ≡ g.parts → (f.constant ≡ g.constant → ⊥) → Unequal ≡ form_comparison h i
  compare_unequal e c =
      ap (λ (b : Bool). if b then Equal else Unequal) (sym other)
      ∙ ap (λ (b : Bool). if b then (if int_eq h.constant i.constant then Equal else Unequal) else Other) (sym (parts_equal e))
    where
      other : int_eq h.constant i.constant ≡ false
      other =
          ⊎_elim
          (λ (d : int_eq h.constant i.constant ≡ true).
          absurd (c (first.stands.constant
          ∙ (Decides-int_eq h.constant i.constant).0 d
          ∙ sym second.stands.constant)))
          (λ (d : int_eq h.constant i.constant ≡ false). d)
          (cases_Bool (int_eq h.constant i.constant))

-- two numbers compare as their forms do
pub both_numbers : (sorts : Sorts) (t u : Tree) (c : Comparison) → is_numeric sorts t ≡ true → is_numeric sorts u ≡ true →
    c ≡ form_comparison (linear_of t) (linear_of u) → c ≡ term_comparison sorts t u
both_numbers sorts t u c one other e =
    e ∙ ap (λ (b : Bool). if b then form_comparison (linear_of t) (linear_of u) else Other)
    (sym (ap (λ (b : Bool). b && is_numeric sorts u) one ∙ other))
