-- Which terms formulas name: those of more formulas behind them, and a term that is equal to itself.
use Rattle.sm_certify.proofs.Imports.{◌≡◌, ℕ, suc, ◌+◌, ◌<◌, Bool, true, false, ◌||◌, List, [], ◌∷◌, ◌++◌, length, take, Some, slice_get, refl, sym, ap, ◌∙◌, arith, ⊎_elim, pos, list_any, cases_Bool, take_more, length-take-le, get_or-take, slice_get_within, slice_get-get_or, get_or_from_slice_get, Sort, Assertion, arguments_of, same_tree, AreApart, tree_at, AreBefore, TermId, Tree, Lit, same_tree_is, is_among, put, with_term, with_formula, with_formulas, there_among, IsClosed, AllAmong, with_terms, with_term_is, among_with_term, closed_with_term, same_with_term, put_new, FormulaAmong, FormulasAmong}
use Rattle.sm_term.specs.Assertions.{Yes, No, Eq, Ne, Le, Lt, And, Or}
use Rattle.sm_euf.specs.Arguments.{trees_of}

-- formulas behind others
pub with_formulas-append : (fs gs : List Assertion) (seen : List Tree) → with_formulas (fs ++ gs) seen ≡ with_formulas gs (with_formulas fs seen)
with_formulas-append [] gs seen = refl
with_formulas-append (f ∷ fs) gs seen = with_formulas-append fs gs (with_formula f seen)

-- two terms that are there
pub same_with_two : (t u : Tree) (seen : List Tree) → IsClosed seen → is_among seen t ≡ true → is_among seen u ≡ true →
    with_term u (with_term t seen) ≡ seen
same_with_two t u seen closed one other = ap (with_term u) (same_with_term t seen closed one) ∙ same_with_term u seen closed other

-- a formula whose terms are there
pub same_with_formula : (f : Assertion) (seen : List Tree) → IsClosed seen → FormulaAmong seen f → with_formula f seen ≡ seen
same_with_formula Yes seen closed h = refl
same_with_formula No seen closed h = refl
same_with_formula (Eq sort t u) seen closed h = same_with_two t u seen closed h.0 h.1
same_with_formula (Ne sort t u) seen closed h = same_with_two t u seen closed h.0 h.1
same_with_formula (Le t u) seen closed h = same_with_two t u seen closed h.0 h.1
same_with_formula (Lt t u) seen closed h = same_with_two t u seen closed h.0 h.1
same_with_formula (And p q) seen closed h =
    ap (with_formula q) (same_with_formula p seen closed h.0) ∙ same_with_formula q seen closed h.1
same_with_formula (Or p q) seen closed h =
    ap (with_formula q) (same_with_formula p seen closed h.0) ∙ same_with_formula q seen closed h.1

-- formulas whose terms are there
pub same_with_formulas : (fs : List Assertion) (seen : List Tree) → IsClosed seen → FormulasAmong seen fs → with_formulas fs seen ≡ seen
same_with_formulas [] seen closed h = refl
same_with_formulas (f ∷ fs) seen closed h =
    ap (with_formulas fs) (same_with_formula f seen closed h.0) ∙ same_with_formulas fs seen closed h.1

-- arguments that are there
same_with_terms : (ts seen : List Tree) → IsClosed seen → AllAmong seen ts → with_terms ts seen ≡ seen
same_with_terms [] seen closed h = refl
same_with_terms (t ∷ ts) seen closed h = ap (with_terms ts) (same_with_term t seen closed h.0) ∙ same_with_terms ts seen closed h.1

-- a new term, whose arguments are there
new_with_term : (t : Tree) (seen : List Tree) → IsClosed seen → AllAmong seen (arguments_of t) → is_among seen t ≡ false →
    with_term t seen ≡ seen ++ t ∷ []
new_with_term t seen closed args new =
    with_term_is t seen ∙ ap (put t) (same_with_terms (arguments_of t) seen closed args) ∙ put_new t seen new

-- it is equal to itself
pub new_by_itself : (sort : Sort) (t : Tree) (seen : List Tree) → IsClosed seen → AllAmong seen (arguments_of t) → is_among seen t ≡ false →
    with_formula (Eq sort t t) seen ≡ seen ++ t ∷ []
new_by_itself sort t seen closed args new =
    same_with_term t (with_term t seen) (closed_with_term t seen closed) (among_with_term t seen) ∙ new_with_term t seen closed args new

-- the place of a term that is there
place_of : (ts : List Tree) (t : Tree) → is_among ts t ≡ true → (i : ℕ) × (slice_get ts i ≡ Some t)
place_of [] t h = absurd cc
place_of (u ∷ ts) t h = by (same_tree t u) refl h (place_of ts t)
  where
    by : (b : Bool) → same_tree t u ≡ b → (b || list_any (same_tree t) ts) ≡ true →
        (is_among ts t ≡ true → (i : ℕ) × (slice_get ts i ≡ Some t)) → (i : ℕ) × (slice_get (u ∷ ts) i ≡ Some t)
    by true e h rest = (0, ap Some (sym ((same_tree_is t u).0 e)))
    by false e h rest = let there = rest h in (suc there.0, there.1)

module _ (trees : List Tree) (n : ℕ) (inside : n < length trees) where
  -- the terms before a place
  before_there : (m : ℕ) → m < n → slice_get (take n trees) m ≡ Some (tree_at trees m)
  before_there m less =
      let count : length (take n trees) ≡ n = length-take-le n trees (omega arith) in
      slice_get-get_or (take n trees) m (Lit (pos 0)) (omega arith) ∙ ap Some (get_or-take n trees m (Lit (pos 0)) less)

  -- those with numbers before it are among them
  pub numbers_before : (args : List TermId) → AreBefore n args → AllAmong (take n trees) (trees_of trees args)
  numbers_before [] h = tt
  numbers_before (t ∷ args) h =
      (there_among (take n trees) t.0 (tree_at trees t.0) (before_there t.0 h.0), numbers_before args h.1)

  -- the term there isn't among them
  pub not_before : AreApart trees → is_among (take n trees) (tree_at trees n) ≡ false
  not_before apart =
      ⊎_elim
      (λ (h : is_among (take n trees) (tree_at trees n) ≡ true). absurd (never (place_of (take n trees) (tree_at trees n) h)))
      (λ (h : is_among (take n trees) (tree_at trees n) ≡ false). h)
      (cases_Bool (is_among (take n trees) (tree_at trees n)))
    where
      never : (i : ℕ) × (slice_get (take n trees) i ≡ Some (tree_at trees n)) → ⊥
      never there =
          let i = there.0 in
          let count : length (take n trees) ≡ n = length-take-le n trees (omega arith) in
          let less : i < length (take n trees) = slice_get_within (take n trees) i (tree_at trees n) there.1 in
          let below : i < n = omega arith in
          let same : tree_at trees i ≡ tree_at trees n =
          sym (get_or-take n trees i (Lit (pos 0)) below)
          ∙ get_or_from_slice_get (take n trees) i (tree_at trees n) (Lit (pos 0)) there.1 in
          let one : i ≡ n = apart i n (omega arith) inside same in
          omega arith

  -- the terms up to it
  pub next_named : AreApart trees → (sort : Sort) → IsClosed (take n trees) → AllAmong (take n trees) (arguments_of (tree_at trees n)) →
      with_formulas (Eq sort (tree_at trees n) (tree_at trees n) ∷ []) (take n trees) ≡ take (n + 1) trees
  next_named apart sort closed args =
      new_by_itself sort (tree_at trees n) (take n trees) closed args (not_before apart) ∙ sym (take_more trees n (Lit (pos 0)) inside)
