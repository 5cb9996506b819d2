-- Where more is given and more terms are equal, the rules bring more.
use Rattle.sm_cc.proofs.Imports.{◌≡◌, ℤ, Bool, true, ◌&&◌, not, List, [], ◌∷◌, Option, Some, None, refl, subst, list_any, int_eq, Sorts, Tree, Read, same_tree, arguments_of, same_head, Written, written_in, read_in, compared_forms, Pairs, Setting, given_equal, given_unequal, differ, are_apart, equal_lists, if_there, reads_written, brings}
use Rattle.sm_cc.proofs.StandingLemmas.{or_map, and_map}

-- one test for each element is passed where another is
any_more : (p q : Tree → Bool) → ((x : Tree) → p x ≡ true → q x ≡ true) → (xs : List Tree) → list_any p xs ≡ true → list_any q xs ≡ true
any_more p q more [] h = absurd cc
any_more p q more (x ∷ xs) h = or_map (p x) (q x) (more x) (any_more p q more xs) h

pub there_more : {T : Type 0} (p q : T → Bool) → ((x : T) → p x ≡ true → q x ≡ true) → (o : Option T) →
    if_there o p ≡ true → if_there o q ≡ true
there_more p q more None h = absurd cc
there_more p q more (Some x) h = more x h

pub reads_more : (p q : Written → Tree → Bool) → ((w : Written) (j : Tree) → p w j ≡ true → q w j ≡ true) → (t : Tree) →
    reads_written t p ≡ true → reads_written t q ≡ true
reads_more p q more t h =
    there_more (λ (r : Tree × Tree). if_there (written_in r.0) (λ (w : Written). p w r.1))
    (λ (r : Tree × Tree). if_there (written_in r.0) (λ (w : Written). q w r.1))
    (λ (r : Tree × Tree). there_more (λ (w : Written). p w r.1) (λ (w : Written). q w r.1) (λ (w : Written). more w r.1) (written_in r.0))
    (read_in t) h

-- more is given of the same terms
pub record GivesMore (s r : Setting) : Type 0 where
  pub sorts : s.sorts ≡ r.sorts
  pub terms : s.terms ≡ r.terms
  pub equal : (t u : Tree) → given_equal s t u ≡ true → given_equal r t u ≡ true
  pub unequal : (t u : Tree) → given_unequal s t u ≡ true → given_unequal r t u ≡ true

pub nothing_more : (s : Setting) → GivesMore s s
nothing_more s = record { sorts = refl; terms = refl; equal = λ t u h. h; unequal = λ t u h. h }

module _ (s r : Setting) (given : GivesMore s r) (few more : Pairs) (below : (t u : Tree) → few t u ≡ true → more t u ≡ true) where
  forms_alike : (t u : Tree) (test : ℤ → ℤ → Bool) → compared_forms s.sorts t u test ≡ true → compared_forms r.sorts t u test ≡ true
  forms_alike t u test h = subst (λ (sorts : Sorts). compared_forms sorts t u test ≡ true) given.sorts h

  differ_more : (t u : Tree) → differ s t u ≡ true → differ r t u ≡ true
  differ_more t u h =
      or_map (given_unequal s t u) (given_unequal r t u) (given.unequal t u)
      (or_map (given_unequal s u t) (given_unequal r u t) (given.unequal u t) (forms_alike t u (λ (y z : ℤ). not (int_eq y z)))) h

  -- greater sets have more apart
  pub apart_more : (t u : Tree) → are_apart s few t u ≡ true → are_apart r more t u ≡ true
  apart_more t u h =
      subst (λ (ts : List Tree). list_any (λ p. more p t && list_any (λ q. more q u && differ r p q) ts) ts ≡ true) given.terms
      (any_more (λ p. few p t && list_any (λ q. few q u && differ s p q) s.terms)
      (λ p. more p t && list_any (λ q. more q u && differ r p q) s.terms)
      (λ p. and_map (few p t) (more p t) (below p t)
      (any_more (λ q. few q u && differ s p q) (λ q. more q u && differ r p q)
      (λ q. and_map (few q u) (more q u) (below q u) (differ_more p q)) s.terms)) s.terms h)

  lists_more : (ts us : List Tree) → equal_lists few ts us ≡ true → equal_lists more ts us ≡ true
  lists_more [] [] h = refl
  lists_more [] (u ∷ us) h = absurd cc
  lists_more (t ∷ ts) [] h = absurd cc
  lists_more (t ∷ ts) (u ∷ us) h = and_map (few t u) (more t u) (below t u) (lists_more ts us) h

  -- where more is given and more pairs are equal, the rules bring more
  pub brings_more : (t u : Tree) → brings s few t u ≡ true → brings r more t u ≡ true
  brings_more t u h =
      or_map (given_equal s t u) (given_equal r t u) (given.equal t u)
      (or_map (compared_forms s.sorts t u int_eq) (compared_forms r.sorts t u int_eq) (forms_alike t u int_eq)
      (or_map (same_head t u && equal_lists few (arguments_of t) (arguments_of u))
      (same_head t u && equal_lists more (arguments_of t) (arguments_of u))
      (and_map (same_head t u) (same_head t u) (λ e. e) (lists_more (arguments_of t) (arguments_of u)))
      (or_map (reads_written t (λ w j. few w.index j && same_tree u w.element))
      (reads_written t (λ w j. more w.index j && same_tree u w.element))
      (reads_more (λ w j. few w.index j && same_tree u w.element) (λ w j. more w.index j && same_tree u w.element)
      (λ w j. and_map (few w.index j) (more w.index j) (below w.index j) (λ e. e)) t)
      (reads_more (λ w j. are_apart s few w.index j && same_tree u (Read w.before j))
      (λ w j. are_apart r more w.index j && same_tree u (Read w.before j))
      (λ w j. and_map (are_apart s few w.index j) (are_apart r more w.index j) (apart_more w.index j) (λ e. e)) t)))) h
