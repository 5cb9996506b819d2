-- Tests of atoms: what one that tells apart gives, and coefficients by it.
use Rattle.sm_num.proofs.Imports.{◌≡◌, ℤ, pos, ◌+ℤ◌, Bool, true, false, not, if◌then◌else◌, IsTrue, List, [], ◌∷◌, filter, refl, sym, ap, subst, ◌∙◌, ⊎_elim, arith, cases_Bool, eqb-true, eq-eqb, int_eq, Decides-int_eq, coefficient, parts_without, same_atom}
use Rattle.sm_num.proofs.RingLemmas.{sums}
use Rattle.sm_num.proofs.OutcomeLemmas.{Each}

-- a test is true of one atom alone
abbrev pub IsSound : {A : Type 0} → (A → A → Bool) → Type 0
IsSound {A} same = (a b : A) → IsTrue (same a b) → a ≡ b

-- a test is true of an atom and itself
abbrev pub IsReflexive : {A : Type 0} → (A → A → Bool) → Type 0
IsReflexive {A} same = (a : A) → IsTrue (same a a)

-- no part is at the atom
abbrev pub IsApart : {A : Type 0} → (A → A → Bool) → A → List (A × ℤ) → Type 0
IsApart same a ps = Each (λ r. same a r.0 ≡ false) ps

-- each atom stands once, with a coefficient that isn't 0
abbrev pub AreReduced : {A : Type 0} → (A → A → Bool) → List (A × ℤ) → Type 0
AreReduced same [] = Unit {0}
AreReduced same (p ∷ ps) = (p.1 ≡ pos 0 → ⊥) × IsApart same p.0 ps × AreReduced same ps

-- numbers of atoms are told apart
pub same_atom_sound : IsSound same_atom
same_atom_sound a b e = eqb-true a b e

pub same_atom_reflexive : IsReflexive same_atom
same_atom_reflexive a = eq-eqb a a refl

-- true and false are two
pub not_both : (b : Bool) → b ≡ true → b ≡ false → ⊥
not_both b first second = absurd cc

-- whether a number is 0, and its test
pub zero_test : (z : ℤ) → z ≡ pos 0 → int_eq z (pos 0) ≡ true
zero_test z = (Decides-int_eq z (pos 0)).1

pub other_test : (z : ℤ) → (z ≡ pos 0 → ⊥) → int_eq z (pos 0) ≡ false
other_test z some = ⊎_elim (λ (e : int_eq z (pos 0) ≡ true). absurd (some ((Decides-int_eq z (pos 0)).0 e)))
    (λ (e : int_eq z (pos 0) ≡ false). e) (cases_Bool (int_eq z (pos 0)))

pub other_tested : (z : ℤ) → int_eq z (pos 0) ≡ false → z ≡ pos 0 → ⊥
other_tested z e zero = not_both (int_eq z (pos 0)) (zero_test z zero) e

module _ {A : Type 0} (same : A → A → Bool) where
  -- the test goes both ways
  pub same_turned : IsSound same → (a b : A) → same a b ≡ true → same b a ≡ true
  same_turned sound a b e =
      let equal = sound a b e in
      let self = subst (λ (x : A). same a x ≡ true) (sym equal) e in
      subst (λ (x : A). same x a ≡ true) equal self

  pub apart_turned : IsSound same → (a b : A) → same a b ≡ false → same b a ≡ false
  apart_turned sound a b e =
      ⊎_elim (λ (t : same b a ≡ true). absurd (not_both (same a b) (same_turned sound b a t) e)) (λ (f : same b a ≡ false). f)
      (cases_Bool (same b a))

  -- a coefficient, by whether the first part is at the atom
  pub coefficient_here : (a : A) (p : A × ℤ) (ps : List (A × ℤ)) → same a p.0 ≡ true →
      coefficient same a (p ∷ ps) ≡ p.1 +ℤ coefficient same a ps
  coefficient_here a p ps e = ap (λ (b : Bool). if b then p.1 +ℤ coefficient same a ps else coefficient same a ps) e

  pub coefficient_past : (a : A) (p : A × ℤ) (ps : List (A × ℤ)) → same a p.0 ≡ false → coefficient same a (p ∷ ps) ≡ coefficient same a ps
  coefficient_past a p ps e = ap (λ (b : Bool). if b then p.1 +ℤ coefficient same a ps else coefficient same a ps) e

  -- no part, no coefficient
  pub apart_zero : (a : A) (ps : List (A × ℤ)) → IsApart same a ps → coefficient same a ps ≡ pos 0
  apart_zero a [] apart = refl
  apart_zero a (p ∷ ps) apart = coefficient_past a p ps apart.0 ∙ apart_zero a ps apart.1

  -- the coefficient of the one part at an atom
  pub coefficient_one : (a : A) (p : A × ℤ) (ps : List (A × ℤ)) → IsSound same → IsApart same p.0 ps → same a p.0 ≡ true →
      coefficient same a (p ∷ ps) ≡ p.1
  coefficient_one a p ps sound apart e =
      let equal = sound a p.0 e in
      let none = subst (λ (x : A). coefficient same x ps ≡ pos 0) (sym equal) (apart_zero p.0 ps apart) in
      let here = coefficient_here a p ps e in
      omega (arith, sums)

  -- parts at which a test of atoms is true have the coefficients at those atoms
  pub coefficient_filter : IsSound same → (test : A → Bool) (a : A) (ps : List (A × ℤ)) →
      coefficient same a (filter (λ r. test r.0) ps) ≡ (if test a then coefficient same a ps else pos 0)
  coefficient_filter sound test a [] = by (test a)
    where
      by : (b : Bool) → pos 0 ≡ (if b then pos 0 else pos 0)
      by true = refl
      by false = refl
  coefficient_filter sound test a (p ∷ ps) = by (test p.0) (same a p.0) refl refl (coefficient_filter sound test a ps)
    where
      by : (b c : Bool) → test p.0 ≡ b → same a p.0 ≡ c →
          coefficient same a (filter (λ r. test r.0) ps) ≡ (if test a then coefficient same a ps else pos 0) →
          coefficient same a (if b then p ∷ filter (λ r. test r.0) ps else filter (λ r. test r.0) ps)
          ≡ (if test a then (if c then p.1 +ℤ coefficient same a ps else coefficient same a ps) else pos 0)
      by true true t s rest =
          let equal = sound a p.0 s in
          let passes = subst (λ (x : A). test x ≡ true) (sym equal) t in
          let here = coefficient_here a p (filter (λ r. test r.0) ps) s in
          here ∙ ap (λ (x : ℤ). p.1 +ℤ x) rest ∙ ap (λ (b : Bool). p.1 +ℤ (if b then coefficient same a ps else pos 0)) passes
          ∙ ap (λ (b : Bool). if b then p.1 +ℤ coefficient same a ps else pos 0) (sym passes)
      by true false t s rest = coefficient_past a p (filter (λ r. test r.0) ps) s ∙ rest
      by false true t s rest =
          let equal = sound a p.0 s in
          let fails = subst (λ (x : A). test x ≡ false) (sym equal) t in
          rest ∙ ap (λ (b : Bool). if b then coefficient same a ps else pos 0) fails
          ∙ ap (λ (b : Bool). if b then p.1 +ℤ coefficient same a ps else pos 0) (sym fails)
      by false false t s rest = rest

  -- a fact of each part stays where parts go
  pub each_filter : (P : A × ℤ → Type 0) (test : A × ℤ → Bool) (ps : List (A × ℤ)) → Each P ps → Each P (filter test ps)
  each_filter P test [] each = tt
  each_filter P test (p ∷ ps) each = by (test p) (each_filter P test ps each.1)
    where
      by : (b : Bool) → Each P (filter test ps) → Each P (if b then p ∷ filter test ps else filter test ps)
      by true rest = (each.0, rest)
      by false rest = rest

  -- reduced parts stay reduced where parts go
  pub reduced_filter : (test : A × ℤ → Bool) (ps : List (A × ℤ)) → AreReduced same ps → AreReduced same (filter test ps)
  reduced_filter test [] reduced = tt
  reduced_filter test (p ∷ ps) reduced = by (test p) (reduced_filter test ps reduced.2)
    where
      by : (b : Bool) → AreReduced same (filter test ps) → AreReduced same (if b then p ∷ filter test ps else filter test ps)
      by true rest = (reduced.0, each_filter (λ r. same p.0 r.0 ≡ false) test ps reduced.1, rest)
      by false rest = rest

  -- what is without an atom is apart from it
  pub without_apart : (a : A) (ps : List (A × ℤ)) → IsApart same a (parts_without same a ps)
  without_apart a [] = tt
  without_apart a (p ∷ ps) = by (same a p.0) refl (without_apart a ps)
    where
      by : (b : Bool) → same a p.0 ≡ b → IsApart same a (parts_without same a ps) →
          IsApart same a (if not b then p ∷ parts_without same a ps else parts_without same a ps)
      by true e rest = rest
      by false e rest = (e, rest)

  -- facts of each part
  pub each_more : (P Q : A × ℤ → Type 0) → ((r : A × ℤ) → P r → Q r) → (ps : List (A × ℤ)) → Each P ps → Each Q ps
  each_more P Q step [] each = tt
  each_more P Q step (p ∷ ps) each = (step p each.0, each_more P Q step ps each.1)

  -- a reduced form has a part at an atom exactly where the coefficient isn't 0
  pub zero_apart : IsSound same → (a : A) (ps : List (A × ℤ)) → AreReduced same ps → coefficient same a ps ≡ pos 0 → IsApart same a ps
  zero_apart sound a [] reduced zero = tt
  zero_apart sound a (p ∷ ps) reduced zero =
      ⊎_elim
      (λ (e : same a p.0 ≡ true). absurd (reduced.0 (sym (coefficient_one a p ps sound reduced.1 e) ∙ zero)))
      (λ (e : same a p.0 ≡ false). (e, zero_apart sound a ps reduced.2 (sym (coefficient_past a p ps e) ∙ zero)))
      (cases_Bool (same a p.0))
