-- The terms of formulas have one place each.
use Rattle.sm_theory.proofs.Imports.{◌≡◌, ◌⊎◌, ℕ, zero, suc, Bool, true, false, ◌||◌, if◌then◌else◌, List, [], ◌∷◌, ◌++◌, length, inl, inr, refl, subst, sym, ap, ◌∙◌, ⊎_elim, list_any, Tree, Lit, Start, Havoc, Slot, Cell, Read, Write, Neg, Add, Sub, Mul, Fun, Arguments, Over, Given, Assertion, Yes, No, Ne, Le, Lt, And, Or, same_tree, is_among, with_term, with_arguments, with_formula, with_formulas, all_terms, StandsAt, HaveOnePlace}
use Rattle.sm_term.specs.Assertions.{Eq}
use Rattle.sm_theory.specs.TermsOfFormulas.{put}
use Rattle.sm_theory.proofs.LinearSameTree.{tree_reflexive}

-- what has a place is among the terms
pub place_among : (terms : List Tree) (i : ℕ) (t : Tree) → StandsAt terms i t → is_among terms t ≡ true
place_among [] i t e = absurd cc
place_among (u ∷ us) zero t e =
    let same : u ≡ t = cc in
    ap (λ (b : Bool). b || list_any (same_tree t) us) (subst (λ (v : Tree). same_tree t v ≡ true) (sym same) (tree_reflexive t))
place_among (u ∷ us) (suc i) t e = by (same_tree t u) (place_among us i t e)
  where
    by : (b : Bool) → is_among us t ≡ true → (b || list_any (same_tree t) us) ≡ true
    by true there = refl
    by false there = there

-- of terms and a last one, what stands somewhere stands among the first or is the last
first_or_last : (terms : List Tree) (t : Tree) (i : ℕ) (u : Tree) → StandsAt (terms ++ t ∷ []) i u →
    (StandsAt terms i u) ⊎ ((i ≡ length terms) × (t ≡ u))
first_or_last [] t zero u e = inr (refl, cc)
first_or_last [] t (suc i) u e = absurd cc
first_or_last (v ∷ vs) t zero u e = inl e
first_or_last (v ∷ vs) t (suc i) u e =
    ⊎_elim (λ (there : StandsAt vs i u). inl there) (λ (last : (i ≡ length vs) × (t ≡ u)). inr (ap suc last.0, last.1))
    (first_or_last vs t i u e)

-- a term that is put behind others
put_places : (t : Tree) (seen : List Tree) → HaveOnePlace seen → HaveOnePlace (put t seen)
put_places t seen distinct = by (is_among seen t) refl
  where
    never : is_among seen t ≡ false → (i : ℕ) (u : Tree) → StandsAt seen i u → t ≡ u → ⊥
    never e i u there same =
        let among : is_among seen t ≡ true = place_among seen i t (subst (λ (v : Tree). StandsAt seen i v) (sym same) there) in
        let wrong : true ≡ false = sym among ∙ e in
        absurd cc

    last : is_among seen t ≡ false → HaveOnePlace (seen ++ t ∷ [])
    last e i j u first second =
        ⊎_elim
        (λ (a : StandsAt seen i u).
        ⊎_elim (λ (b : StandsAt seen j u). distinct i j u a b)
        (λ (b : (j ≡ length seen) × (t ≡ u)). absurd (never e i u a b.1)) (first_or_last seen t j u second))
        (λ (a : (i ≡ length seen) × (t ≡ u)).
        ⊎_elim (λ (b : StandsAt seen j u). absurd (never e j u b a.1))
        (λ (b : (j ≡ length seen) × (t ≡ u)). a.0 ∙ sym b.0) (first_or_last seen t j u second))
        (first_or_last seen t i u first)

    by : (b : Bool) → is_among seen t ≡ b → HaveOnePlace (if b then seen else seen ++ t ∷ [])
    by true e = distinct
    by false e = last e

mutual
  -- a term that is put after its arguments
  with_term_places : (t : Tree) (seen : List Tree) → HaveOnePlace seen → HaveOnePlace (with_term t seen)
  with_term_places (Lit z) seen distinct = put_places (Lit z) seen distinct
  with_term_places (Start x) seen distinct = put_places (Start x) seen distinct
  with_term_places (Havoc k c x) seen distinct = put_places (Havoc k c x) seen distinct
  with_term_places (Slot c x) seen distinct = put_places (Slot c x) seen distinct
  with_term_places Cell seen distinct = put_places Cell seen distinct
  with_term_places (Read a i) seen distinct =
      put_places (Read a i) (with_term i (with_term a seen)) (with_term_places i (with_term a seen) (with_term_places a seen distinct))
  with_term_places (Write a i e) seen distinct =
      put_places (Write a i e) (with_term e (with_term i (with_term a seen)))
      (with_term_places e (with_term i (with_term a seen)) (with_term_places i (with_term a seen) (with_term_places a seen distinct)))
  with_term_places (Neg t) seen distinct = put_places (Neg t) (with_term t seen) (with_term_places t seen distinct)
  with_term_places (Add t u) seen distinct =
      put_places (Add t u) (with_term u (with_term t seen)) (with_term_places u (with_term t seen) (with_term_places t seen distinct))
  with_term_places (Sub t u) seen distinct =
      put_places (Sub t u) (with_term u (with_term t seen)) (with_term_places u (with_term t seen) (with_term_places t seen distinct))
  with_term_places (Mul t u) seen distinct =
      put_places (Mul t u) (with_term u (with_term t seen)) (with_term_places u (with_term t seen) (with_term_places t seen distinct))
  with_term_places (Fun c x args) seen distinct =
      put_places (Fun c x args) (with_arguments args seen) (with_arguments_places args seen distinct)

  -- arguments
  with_arguments_places : (args : Arguments) (seen : List Tree) → HaveOnePlace seen → HaveOnePlace (with_arguments args seen)
  with_arguments_places Over seen distinct = distinct
  with_arguments_places (Given x t rest) seen distinct =
      with_arguments_places rest (with_term t seen) (with_term_places t seen distinct)

-- two terms
two_places : (t u : Tree) (seen : List Tree) → HaveOnePlace seen → HaveOnePlace (with_term u (with_term t seen))
two_places t u seen distinct = with_term_places u (with_term t seen) (with_term_places t seen distinct)

-- the terms of a formula
with_formula_places : (f : Assertion) (seen : List Tree) → HaveOnePlace seen → HaveOnePlace (with_formula f seen)
with_formula_places Yes seen distinct = distinct
with_formula_places No seen distinct = distinct
with_formula_places (Eq sort t u) seen distinct = two_places t u seen distinct
with_formula_places (Ne sort t u) seen distinct = two_places t u seen distinct
with_formula_places (Le t u) seen distinct = two_places t u seen distinct
with_formula_places (Lt t u) seen distinct = two_places t u seen distinct
with_formula_places (And p q) seen distinct = with_formula_places q (with_formula p seen) (with_formula_places p seen distinct)
with_formula_places (Or p q) seen distinct = with_formula_places q (with_formula p seen) (with_formula_places p seen distinct)

-- of formulas
with_formulas_places : (fs : List Assertion) (seen : List Tree) → HaveOnePlace seen → HaveOnePlace (with_formulas fs seen)
with_formulas_places [] seen distinct = distinct
with_formulas_places (f ∷ fs) seen distinct = with_formulas_places fs (with_formula f seen) (with_formula_places f seen distinct)

-- none has two
pub all_terms_places : (fs : List Assertion) → HaveOnePlace (all_terms fs)
all_terms_places fs = with_formulas_places fs [] (λ i j t first second. absurd cc)
