-- Terms that are put behind others after their arguments: what was there stays, and the arguments of
-- each term are there.
use Rattle.sm_terms.proofs.Imports.{◌≡◌, Bool, true, false, ◌||◌, if◌then◌else◌, ◌⊎◌, inl, inr, List, [], ◌∷◌, ◌++◌, refl, sym, ap, ◌∙◌, subst, list_any, Tree, Lit, Start, Havoc, Slot, Cell, Read, Write, Neg, Add, Sub, Mul, Fun, Arguments, Over, Given, same_tree, arguments_of, terms_given, put, with_term, with_arguments, with_formula, with_formulas, is_among, AllAmong, IsClosed}
use Rattle.sm_term.specs.Assertions.{Assertion, Yes, No, Eq, Ne, Le, Lt, And, Or}
use Rattle.sm_term.proofs.SameTermsLemmas.{same_tree_is}
use Rattle.sm_lemmas.proofs.Tests.{or_true}

-- each of a list of terms has something
abbrev pub AllOf : (Tree → Type 0) → List Tree → Type 0
AllOf P [] = Unit {0}
AllOf P (t ∷ ts) = P t × AllOf P ts

module _ (P : Tree → Type 0) (step : (t : Tree) → AllOf P (arguments_of t) → P t) where
  mutual
    -- what a term has where its arguments do, each term has
    pub by_arguments : (t : Tree) → P t
    by_arguments (Lit z) = step (Lit z) tt
    by_arguments (Start x) = step (Start x) tt
    by_arguments (Havoc k c x) = step (Havoc k c x) tt
    by_arguments (Slot c x) = step (Slot c x) tt
    by_arguments Cell = step Cell tt
    by_arguments (Read a i) = step (Read a i) (by_arguments a, (by_arguments i, tt))
    by_arguments (Write a i e) = step (Write a i e) (by_arguments a, (by_arguments i, (by_arguments e, tt)))
    by_arguments (Neg t) = step (Neg t) (by_arguments t, tt)
    by_arguments (Add t u) = step (Add t u) (by_arguments t, (by_arguments u, tt))
    by_arguments (Sub t u) = step (Sub t u) (by_arguments t, (by_arguments u, tt))
    by_arguments (Mul t u) = step (Mul t u) (by_arguments t, (by_arguments u, tt))
    by_arguments (Fun c x args) = step (Fun c x args) (by_given args)

    by_given : (args : Arguments) → AllOf P (terms_given args)
    by_given Over = tt
    by_given (Given x t rest) = (by_arguments t, by_given rest)

-- terms behind others, each after its arguments
abbrev pub with_terms : List Tree → List Tree → List Tree
with_terms [] seen = seen
with_terms (t ∷ ts) seen = with_terms ts (with_term t seen)

given_are_terms : (args : Arguments) (seen : List Tree) → with_arguments args seen ≡ with_terms (terms_given args) seen
given_are_terms Over seen = refl
given_are_terms (Given x t rest) seen = given_are_terms rest (with_term t seen)

-- a term is put after its arguments
pub with_term_is : (t : Tree) (seen : List Tree) → with_term t seen ≡ put t (with_terms (arguments_of t) seen)
with_term_is (Lit z) seen = refl
with_term_is (Start x) seen = refl
with_term_is (Havoc k c x) seen = refl
with_term_is (Slot c x) seen = refl
with_term_is Cell seen = refl
with_term_is (Read a i) seen = refl
with_term_is (Write a i e) seen = refl
with_term_is (Neg t) seen = refl
with_term_is (Add t u) seen = refl
with_term_is (Sub t u) seen = refl
with_term_is (Mul t u) seen = refl
with_term_is (Fun c x args) seen = ap (put (Fun c x args)) (given_are_terms args seen)

-- a term is the same as itself
pub same_itself : (t : Tree) → same_tree t t ≡ true
same_itself t = (same_tree_is t t).1 refl

-- what is among terms is among more
pub among-left : (ts us : List Tree) (t : Tree) → is_among ts t ≡ true → is_among (ts ++ us) t ≡ true
among-left [] us t h = absurd cc
among-left (v ∷ ts) us t h = by (same_tree t v) refl (among-left ts us t)
  where
    by : (b : Bool) → same_tree t v ≡ b → (is_among ts t ≡ true → is_among (ts ++ us) t ≡ true) → (same_tree t v || list_any (same_tree t) (ts ++ us)) ≡ true
    by true e more = ap (λ (b : Bool). b || list_any (same_tree t) (ts ++ us)) e
    by false e more =
        let rest : is_among ts t ≡ true = sym (ap (λ (b : Bool). b || list_any (same_tree t) ts) e) ∙ h in
        ap (λ (b : Bool). b || list_any (same_tree t) (ts ++ us)) e ∙ more rest

pub among-right : (ts us : List Tree) (t : Tree) → is_among us t ≡ true → is_among (ts ++ us) t ≡ true
among-right [] us t h = h
among-right (v ∷ ts) us t h = ap (λ (b : Bool). same_tree t v || b) (among-right ts us t h) ∙ or_true (same_tree t v)

-- a term among terms and a last one is among the first, or is that one
pub among_last : (ts : List Tree) (u t : Tree) → is_among (ts ++ u ∷ []) t ≡ true → (is_among ts t ≡ true) ⊎ (t ≡ u)
among_last [] u t h = by (same_tree t u) refl h
  where
    by : (b : Bool) → same_tree t u ≡ b → (same_tree t u || false) ≡ true → (false ≡ true) ⊎ (t ≡ u)
    by true e h = inr ((same_tree_is t u).0 e)
    by false e h = let wrong : false ≡ true = sym (ap (λ (b : Bool). b || false) e) ∙ h in absurd cc
among_last (v ∷ ts) u t h = by (same_tree t v) refl (among_last ts u t)
  where
    later : (is_among ts t ≡ true) ⊎ (t ≡ u) → ((same_tree t v || list_any (same_tree t) ts) ≡ true) ⊎ (t ≡ u)
    later (inl k) = inl (ap (λ (b : Bool). same_tree t v || b) k ∙ or_true (same_tree t v))
    later (inr e) = inr e

    by : (b : Bool) → same_tree t v ≡ b → (is_among (ts ++ u ∷ []) t ≡ true → (is_among ts t ≡ true) ⊎ (t ≡ u)) →
        ((same_tree t v || list_any (same_tree t) ts) ≡ true) ⊎ (t ≡ u)
    by true e more = inl (ap (λ (b : Bool). b || list_any (same_tree t) ts) e)
    by false e more =
        let rest : is_among (ts ++ u ∷ []) t ≡ true = sym (ap (λ (b : Bool). b || list_any (same_tree t) (ts ++ u ∷ [])) e) ∙ h in
        later (more rest)

-- what `put` makes, by whether the term is there
pub put_there : (t : Tree) (seen : List Tree) → is_among seen t ≡ true → put t seen ≡ seen
put_there t seen h = ap (λ (b : Bool). if b then seen else seen ++ t ∷ []) h

pub put_new : (t : Tree) (seen : List Tree) → is_among seen t ≡ false → put t seen ≡ seen ++ t ∷ []
put_new t seen h = ap (λ (b : Bool). if b then seen else seen ++ t ∷ []) h

-- the term is there afterwards
pub among_put : (t : Tree) (seen : List Tree) → is_among (put t seen) t ≡ true
among_put t seen = by (is_among seen t) refl
  where
    by : (b : Bool) → is_among seen t ≡ b → is_among (put t seen) t ≡ true
    by true e = ap (λ (ts : List Tree). is_among ts t) (put_there t seen e) ∙ e
    by false e =
        ap (λ (ts : List Tree). is_among ts t) (put_new t seen e)
        ∙ among-right seen (t ∷ []) t (ap (λ (b : Bool). b || false) (same_itself t))

-- a term that was there is there after another is put
pub kept_put : (t : Tree) (seen : List Tree) (u : Tree) → is_among seen u ≡ true → is_among (put t seen) u ≡ true
kept_put t seen u h = by (is_among seen t) refl
  where
    by : (b : Bool) → is_among seen t ≡ b → is_among (put t seen) u ≡ true
    by true e = ap (λ (ts : List Tree). is_among ts u) (put_there t seen e) ∙ h
    by false e = ap (λ (ts : List Tree). is_among ts u) (put_new t seen e) ∙ among-left seen (t ∷ []) u h

-- a term that is there after one is put was there before, or is that one
pub among_put_cases : (t : Tree) (seen : List Tree) (u : Tree) → is_among (put t seen) u ≡ true → (is_among seen u ≡ true) ⊎ (u ≡ t)
among_put_cases t seen u h = by (is_among seen t) refl
  where
    by : (b : Bool) → is_among seen t ≡ b → (is_among seen u ≡ true) ⊎ (u ≡ t)
    by true e = inl (ap (λ (ts : List Tree). is_among ts u) (sym (put_there t seen e)) ∙ h)
    by false e = among_last seen t u (ap (λ (ts : List Tree). is_among ts u) (sym (put_new t seen e)) ∙ h)

-- a term that was there is there after another is put with its arguments
pub kept_with_term : (t : Tree) (seen : List Tree) (u : Tree) → is_among seen u ≡ true → is_among (with_term t seen) u ≡ true
kept_with_term = by_arguments (λ (t : Tree). (seen : List Tree) (u : Tree) → is_among seen u ≡ true → is_among (with_term t seen) u ≡ true) step
  where
    all : (ts : List Tree) → AllOf (λ (t : Tree). (seen : List Tree) (u : Tree) → is_among seen u ≡ true → is_among (with_term t seen) u ≡ true) ts →
        (seen : List Tree) (u : Tree) → is_among seen u ≡ true → is_among (with_terms ts seen) u ≡ true
    all [] h seen u k = k
    all (t ∷ ts) h seen u k = all ts h.1 (with_term t seen) u (h.0 seen u k)

    step : (t : Tree) → AllOf (λ (t : Tree). (seen : List Tree) (u : Tree) → is_among seen u ≡ true → is_among (with_term t seen) u ≡ true) (arguments_of t) →
        (seen : List Tree) (u : Tree) → is_among seen u ≡ true → is_among (with_term t seen) u ≡ true
    step t h seen u k =
        ap (λ (ts : List Tree). is_among ts u) (with_term_is t seen)
        ∙ kept_put t (with_terms (arguments_of t) seen) u (all (arguments_of t) h seen u k)

pub among_with_term : (t : Tree) (seen : List Tree) → is_among (with_term t seen) t ≡ true
among_with_term t seen = ap (λ (ts : List Tree). is_among ts t) (with_term_is t seen) ∙ among_put t (with_terms (arguments_of t) seen)

-- of terms
pub kept_with_terms : (ts seen : List Tree) (u : Tree) → is_among seen u ≡ true → is_among (with_terms ts seen) u ≡ true
kept_with_terms [] seen u k = k
kept_with_terms (t ∷ ts) seen u k = kept_with_terms ts (with_term t seen) u (kept_with_term t seen u k)

pub among_with_terms : (ts seen : List Tree) → AllAmong (with_terms ts seen) ts
among_with_terms [] seen = tt
among_with_terms (t ∷ ts) seen = (kept_with_terms ts (with_term t seen) t (among_with_term t seen), among_with_terms ts (with_term t seen))

-- terms among others stay among them
pub all_kept : (seen later : List Tree) → ((u : Tree) → is_among seen u ≡ true → is_among later u ≡ true) → (ts : List Tree) → AllAmong seen ts → AllAmong later ts
all_kept seen later more [] h = tt
all_kept seen later more (t ∷ ts) h = (more t h.0, all_kept seen later more ts h.1)

-- arguments are there where those of the new term are
pub closed_put : (t : Tree) (seen : List Tree) → IsClosed seen → AllAmong seen (arguments_of t) → IsClosed (put t seen)
closed_put t seen closed there = λ u h. by u (among_put_cases t seen u h)
  where
    by : (u : Tree) → (is_among seen u ≡ true) ⊎ (u ≡ t) → AllAmong (put t seen) (arguments_of u)
    by u (inl h) = all_kept seen (put t seen) (kept_put t seen) (arguments_of u) (closed u h)
    by u (inr e) =
        subst (λ (v : Tree). AllAmong (put t seen) (arguments_of v)) (sym e)
        (all_kept seen (put t seen) (kept_put t seen) (arguments_of t) there)

pub closed_with_term : (t : Tree) (seen : List Tree) → IsClosed seen → IsClosed (with_term t seen)
closed_with_term = by_arguments (λ (t : Tree). (seen : List Tree) → IsClosed seen → IsClosed (with_term t seen)) step
  where
    all : (ts : List Tree) → AllOf (λ (t : Tree). (seen : List Tree) → IsClosed seen → IsClosed (with_term t seen)) ts →
        (seen : List Tree) → IsClosed seen → IsClosed (with_terms ts seen)
    all [] h seen k = k
    all (t ∷ ts) h seen k = all ts h.1 (with_term t seen) (h.0 seen k)

    step : (t : Tree) → AllOf (λ (t : Tree). (seen : List Tree) → IsClosed seen → IsClosed (with_term t seen)) (arguments_of t) →
        (seen : List Tree) → IsClosed seen → IsClosed (with_term t seen)
    step t h seen k =
        subst IsClosed (sym (with_term_is t seen))
        (closed_put t (with_terms (arguments_of t) seen) (all (arguments_of t) h seen k) (among_with_terms (arguments_of t) seen))

-- a term that is there changes nothing
pub same_with_term : (t : Tree) (seen : List Tree) → IsClosed seen → is_among seen t ≡ true → with_term t seen ≡ seen
same_with_term = by_arguments (λ (t : Tree). (seen : List Tree) → IsClosed seen → is_among seen t ≡ true → with_term t seen ≡ seen) step
  where
    all : (ts : List Tree) → AllOf (λ (t : Tree). (seen : List Tree) → IsClosed seen → is_among seen t ≡ true → with_term t seen ≡ seen) ts →
        (seen : List Tree) → IsClosed seen → AllAmong seen ts → with_terms ts seen ≡ seen
    all [] h seen closed there = refl
    all (t ∷ ts) h seen closed there = ap (with_terms ts) (h.0 seen closed there.0) ∙ all ts h.1 seen closed there.1

    step : (t : Tree) → AllOf (λ (t : Tree). (seen : List Tree) → IsClosed seen → is_among seen t ≡ true → with_term t seen ≡ seen) (arguments_of t) →
        (seen : List Tree) → IsClosed seen → is_among seen t ≡ true → with_term t seen ≡ seen
    step t h seen closed there =
        with_term_is t seen ∙ ap (put t) (all (arguments_of t) h seen closed (closed t there)) ∙ put_there t seen there

-- formulas
pub closed_with_formula : (f : Assertion) (seen : List Tree) → IsClosed seen → IsClosed (with_formula f seen)
closed_with_formula Yes seen h = h
closed_with_formula No seen h = h
closed_with_formula (Eq sort t u) seen h = closed_with_term u (with_term t seen) (closed_with_term t seen h)
closed_with_formula (Ne sort t u) seen h = closed_with_term u (with_term t seen) (closed_with_term t seen h)
closed_with_formula (Le t u) seen h = closed_with_term u (with_term t seen) (closed_with_term t seen h)
closed_with_formula (Lt t u) seen h = closed_with_term u (with_term t seen) (closed_with_term t seen h)
closed_with_formula (And p q) seen h = closed_with_formula q (with_formula p seen) (closed_with_formula p seen h)
closed_with_formula (Or p q) seen h = closed_with_formula q (with_formula p seen) (closed_with_formula p seen h)

pub closed_with_formulas : (fs : List Assertion) (seen : List Tree) → IsClosed seen → IsClosed (with_formulas fs seen)
closed_with_formulas [] seen h = h
closed_with_formulas (f ∷ fs) seen h = closed_with_formulas fs (with_formula f seen) (closed_with_formula f seen h)

pub closed_none : IsClosed []
closed_none = λ t h. absurd cc
