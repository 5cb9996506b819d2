-- The terms of formulas stand once and after their arguments, and the terms of each formula are among
-- them.
use Rattle.sm_list.proofs.Imports.{◌≡◌, ℕ, zero, suc, ◌<◌, Bool, true, false, Option, Some, None, List, [], ◌∷◌, ◌++◌, map, length, take, get_or, refl, sym, subst, arith, append-nil, append_assoc, Tree, Read, Write, arguments_of, Assertion, put, with_term, with_formula, with_formulas, is_among, greatest_of, writes_on, put_if, read_before, with_reads, with_all_reads, terms_of, AllAmong, IsClosed, AreBuilt, AllOf, by_arguments, with_term_is, put_there, put_new, all_kept, closed_put, among_with_terms, kept_with_term, among_with_term, closed_none, closed_with_formulas}
use Rattle.sm_term.specs.Assertions.{Yes, No, Eq, Ne, Le, Lt, And, Or}
use Rattle.sm_terms.proofs.WithTermLemmas.{with_terms}
use Rattle.sm_list.proofs.ReadsLemmas.{kept_put_if, kept_with_reads, all_themselves}

-- one more term goes last
pub built-append : (older ts : List Tree) (t : Tree) → AreBuilt older ts → AllAmong (older ++ ts) (arguments_of t) →
    is_among (older ++ ts) t ≡ false →
    AreBuilt older (ts ++ t ∷ [])
built-append older [] t h args new =
    let none = append-nil older in
    (subst (λ (us : List Tree). AllAmong us (arguments_of t)) none args, subst (λ (us : List Tree). is_among us t ≡ false) none new, tt)
built-append older (u ∷ ts) t h args new =
    let joined : older ++ u ∷ ts ≡ (older ++ u ∷ []) ++ ts = sym (append_assoc older (u ∷ []) ts) in (
      h.0,
      h.1,
      built-append (older ++ u ∷ []) ts t h.2 (subst (λ (us : List Tree). AllAmong us (arguments_of t)) joined args)
          (subst (λ (us : List Tree). is_among us t ≡ false) joined new),
    )

built_put : (t : Tree) (seen : List Tree) → AreBuilt [] seen → AllAmong seen (arguments_of t) → AreBuilt [] (put t seen)
built_put t seen h args = by (is_among seen t) refl
  where
    by : (b : Bool) → is_among seen t ≡ b → AreBuilt [] (put t seen)
    by true e = subst (AreBuilt []) (sym (put_there t seen e)) h
    by false e = subst (AreBuilt []) (sym (put_new t seen e)) (built-append [] seen t h args e)

-- a term after its arguments
built_with_term : (t : Tree) (seen : List Tree) → AreBuilt [] seen → AreBuilt [] (with_term t seen)
built_with_term = by_arguments (λ (t : Tree). (seen : List Tree) → AreBuilt [] seen → AreBuilt [] (with_term t seen)) step
  where
    all : (ts : List Tree) → AllOf (λ (t : Tree). (seen : List Tree) → AreBuilt [] seen → AreBuilt [] (with_term t seen)) ts →
        (seen : List Tree) → AreBuilt [] seen → AreBuilt [] (with_terms ts seen)
    all [] h seen k = k
    all (t ∷ ts) h seen k = all ts h.1 (with_term t seen) (h.0 seen k)

    step : (t : Tree) → AllOf (λ (t : Tree). (seen : List Tree) → AreBuilt [] seen → AreBuilt [] (with_term t seen)) (arguments_of t) →
        (seen : List Tree) → AreBuilt [] seen → AreBuilt [] (with_term t seen)
    step t h seen k =
        subst (AreBuilt []) (sym (with_term_is t seen))
        (built_put t (with_terms (arguments_of t) seen) (all (arguments_of t) h seen k) (among_with_terms (arguments_of t) seen))

built_with_formula : (f : Assertion) (seen : List Tree) → AreBuilt [] seen → AreBuilt [] (with_formula f seen)
built_with_formula Yes seen h = h
built_with_formula No seen h = h
built_with_formula (Eq sort t u) seen h = built_with_term u (with_term t seen) (built_with_term t seen h)
built_with_formula (Ne sort t u) seen h = built_with_term u (with_term t seen) (built_with_term t seen h)
built_with_formula (Le t u) seen h = built_with_term u (with_term t seen) (built_with_term t seen h)
built_with_formula (Lt t u) seen h = built_with_term u (with_term t seen) (built_with_term t seen h)
built_with_formula (And p q) seen h = built_with_formula q (with_formula p seen) (built_with_formula p seen h)
built_with_formula (Or p q) seen h = built_with_formula q (with_formula p seen) (built_with_formula p seen h)

built_with_formulas : (fs : List Assertion) (seen : List Tree) → AreBuilt [] seen → AreBuilt [] (with_formulas fs seen)
built_with_formulas [] seen h = h
built_with_formulas (f ∷ fs) seen h = built_with_formulas fs (with_formula f seen) (built_with_formula f seen h)

-- the array before it was written and the index are there
read_arguments : (seen : List Tree) → IsClosed seen → (t r : Tree) → is_among seen t ≡ true → read_before t ≡ Some r →
    AllAmong seen (arguments_of r)
read_arguments seen closed (Read (Write a j e) i) r there h =
    let same : Read a i ≡ r = cc in
    let both = closed (Read (Write a j e) i) there in
    let inner = closed (Write a j e) both.0 in
    subst (λ (u : Tree). AllAmong seen (arguments_of u)) same (inner.0, (both.1.0, tt))
read_arguments seen closed t r there h = absurd cc

-- terms that are built, with the arguments of each
record IsWhole (seen : List Tree) : Type 0 where
  built : AreBuilt [] seen
  closed : IsClosed seen

whole_put_if : (t : Tree) (seen : List Tree) → is_among seen t ≡ true → IsWhole seen → IsWhole (put_if (read_before t) seen)
whole_put_if t seen there h = by (read_before t) refl
  where
    by : (o : Option Tree) → read_before t ≡ o → IsWhole (put_if o seen)
    by None e = h
    by (Some r) e =
        let args = read_arguments seen h.closed t r there e in
        record { built = built_put r seen h.built args; closed = closed_put r seen h.closed args }

whole_reads : (ts seen : List Tree) → AllAmong seen ts → IsWhole seen → IsWhole (with_reads ts seen)
whole_reads [] seen there h = h
whole_reads (t ∷ ts) seen there h =
    let new = put_if (read_before t) seen in
    whole_reads ts new (all_kept seen new (kept_put_if (read_before t) seen) ts there.1) (whole_put_if t seen there.0 h)

whole_all_reads : (n : ℕ) (seen : List Tree) → IsWhole seen → IsWhole (with_all_reads n seen)
whole_all_reads zero seen h = h
whole_all_reads (suc n) seen h = whole_all_reads n (with_reads seen seen) (whole_reads seen seen (all_themselves seen) h)

-- the terms of formulas
pub terms_built : (fs : List Assertion) → AreBuilt [] (terms_of fs)
terms_built fs =
    let seen = with_formulas fs [] in
    (whole_all_reads (greatest_of (map writes_on seen)) seen
    (record { built = built_with_formulas fs [] tt; closed = closed_with_formulas fs [] closed_none })).built

-- the term at a place stands after its arguments, and isn't among those before it
pub record IsNext (before : List Tree) (t : Tree) : Type 0 where
  pub ready : AllAmong before (arguments_of t)
  pub new : is_among before t ≡ false

pub built_at : (older ts : List Tree) (d : Tree) → AreBuilt older ts → (i : ℕ) → i < length ts → IsNext (older ++ take i ts) (get_or ts i d)
built_at older [] d h i inside = absurd (omega arith)
built_at older (t ∷ ts) d h zero inside =
    subst (λ (us : List Tree). IsNext us t) (sym (append-nil older)) (record { ready = h.0; new = h.1 })
built_at older (t ∷ ts) d h (suc i) inside =
    subst (λ (us : List Tree). IsNext us (get_or ts i d)) (append_assoc older (t ∷ []) (take i ts))
    (built_at (older ++ t ∷ []) ts d h.2 i (omega arith))

-- the terms of a formula are among terms
abbrev pub FormulaAmong : List Tree → Assertion → Type 0
FormulaAmong seen Yes = Unit {0}
FormulaAmong seen No = Unit {0}
FormulaAmong seen (Eq sort t u) = (is_among seen t ≡ true) × (is_among seen u ≡ true)
FormulaAmong seen (Ne sort t u) = (is_among seen t ≡ true) × (is_among seen u ≡ true)
FormulaAmong seen (Le t u) = (is_among seen t ≡ true) × (is_among seen u ≡ true)
FormulaAmong seen (Lt t u) = (is_among seen t ≡ true) × (is_among seen u ≡ true)
FormulaAmong seen (And p q) = FormulaAmong seen p × FormulaAmong seen q
FormulaAmong seen (Or p q) = FormulaAmong seen p × FormulaAmong seen q

abbrev pub FormulasAmong : List Tree → List Assertion → Type 0
FormulasAmong seen [] = Unit {0}
FormulasAmong seen (f ∷ fs) = FormulaAmong seen f × FormulasAmong seen fs

-- what is among terms is among more
abbrev pub Keeps : List Tree → List Tree → Type 0
Keeps seen later = (u : Tree) → is_among seen u ≡ true → is_among later u ≡ true

formula_kept : (seen later : List Tree) → Keeps seen later → (f : Assertion) → FormulaAmong seen f → FormulaAmong later f
formula_kept seen later more Yes h = tt
formula_kept seen later more No h = tt
formula_kept seen later more (Eq sort t u) h = (more t h.0, more u h.1)
formula_kept seen later more (Ne sort t u) h = (more t h.0, more u h.1)
formula_kept seen later more (Le t u) h = (more t h.0, more u h.1)
formula_kept seen later more (Lt t u) h = (more t h.0, more u h.1)
formula_kept seen later more (And p q) h = (formula_kept seen later more p h.0, formula_kept seen later more q h.1)
formula_kept seen later more (Or p q) h = (formula_kept seen later more p h.0, formula_kept seen later more q h.1)

pub formulas_kept : (seen later : List Tree) → Keeps seen later → (fs : List Assertion) → FormulasAmong seen fs → FormulasAmong later fs
formulas_kept seen later more [] h = tt
formulas_kept seen later more (f ∷ fs) h = (formula_kept seen later more f h.0, formulas_kept seen later more fs h.1)

kept_two : (t u : Tree) (seen : List Tree) → Keeps seen (with_term u (with_term t seen))
kept_two t u seen v h = kept_with_term u (with_term t seen) v (kept_with_term t seen v h)

pub kept_formula : (f : Assertion) (seen : List Tree) → Keeps seen (with_formula f seen)
kept_formula Yes seen v h = h
kept_formula No seen v h = h
kept_formula (Eq sort t u) seen v h = kept_two t u seen v h
kept_formula (Ne sort t u) seen v h = kept_two t u seen v h
kept_formula (Le t u) seen v h = kept_two t u seen v h
kept_formula (Lt t u) seen v h = kept_two t u seen v h
kept_formula (And p q) seen v h = kept_formula q (with_formula p seen) v (kept_formula p seen v h)
kept_formula (Or p q) seen v h = kept_formula q (with_formula p seen) v (kept_formula p seen v h)

kept_formulas : (fs : List Assertion) (seen : List Tree) → Keeps seen (with_formulas fs seen)
kept_formulas [] seen v h = h
kept_formulas (f ∷ fs) seen v h = kept_formulas fs (with_formula f seen) v (kept_formula f seen v h)

kept_all_reads : (n : ℕ) (seen : List Tree) → Keeps seen (with_all_reads n seen)
kept_all_reads zero seen v h = h
kept_all_reads (suc n) seen v h = kept_all_reads n (with_reads seen seen) v (kept_with_reads seen seen v h)

two_among : (t u : Tree) (seen : List Tree) →
    (is_among (with_term u (with_term t seen)) t ≡ true) × (is_among (with_term u (with_term t seen)) u ≡ true)
two_among t u seen = (kept_with_term u (with_term t seen) t (among_with_term t seen), among_with_term u (with_term t seen))

formula_among : (f : Assertion) (seen : List Tree) → FormulaAmong (with_formula f seen) f
formula_among Yes seen = tt
formula_among No seen = tt
formula_among (Eq sort t u) seen = two_among t u seen
formula_among (Ne sort t u) seen = two_among t u seen
formula_among (Le t u) seen = two_among t u seen
formula_among (Lt t u) seen = two_among t u seen
formula_among (And p q) seen =
    let first = with_formula p seen in
    (formula_kept first (with_formula q first) (kept_formula q first) p (formula_among p seen), formula_among q first)
formula_among (Or p q) seen =
    let first = with_formula p seen in
    (formula_kept first (with_formula q first) (kept_formula q first) p (formula_among p seen), formula_among q first)

pub formulas_among : (fs : List Assertion) (seen : List Tree) → FormulasAmong (with_formulas fs seen) fs
formulas_among [] seen = tt
formulas_among (f ∷ fs) seen =
    let first = with_formula f seen in
    (formula_kept first (with_formulas fs first) (kept_formulas fs first) f (formula_among f seen), formulas_among fs first)

pub terms_among : (fs : List Assertion) → FormulasAmong (terms_of fs) fs
terms_among fs =
    let seen = with_formulas fs [] in
    let n = greatest_of (map writes_on seen) in
    formulas_kept seen (with_all_reads n seen) (kept_all_reads n seen) fs (formulas_among fs [])
