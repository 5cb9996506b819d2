-- A branch that is closed at once stays so with more facts and terms.
use Rattle.sm_solve.proofs.Imports.{◌≡◌, ◌⊎◌, ℕ, zero, suc, ◌≤◌, map, Bool, true, false, ◌&&◌, List, [], ◌∷◌, ◌++◌, slice_get, None, inl, inr, refl, ap, sym, ◌∙◌, arith, list_any, Sorts, Tree, Read, Assertion, same_tree, arguments_of, same_head, equal_sides, unequal_sides, says_equal, compared_forms, Setting, given_equal, given_unequal, differ, are_apart, equal_lists, reads_written, brings, AreClosed, are_equal, greatest_of, parts_of, parts_of_all, depth_of, taken_apart, with_parts, seen_by, is_refuted, are_torn, is_closed, equal_closed, equal_least}
use Rattle.std.proofs.Common.{Some}
use Rattle.std.specs.Ordering.{int_eq}
use Rattle.sm_term.specs.Assertions.{Yes, No, Ne}
use Rattle.sm_pairs.specs.Pairs.{Pairs}
use Rattle.sm_cc.proofs.StandingLemmas.{or_map, and_map, any_from}
use Rattle.sm_cc.proofs.BringsLemmas.{reads_more}
use Rattle.std.proofs.lemmas.Map.Keys.{any_passes_from_place}

-- one test for each element is passed where another is
any_more : {A : Type 0} (p q : A → Bool) → ((x : A) → p x ≡ true → q x ≡ true) → (xs : List A) → list_any p xs ≡ true →
    list_any q xs ≡ true
any_more p q more [] h = absurd cc
any_more p q more (x ∷ xs) h = or_map (p x) (q x) (more x) (any_more p q more xs) h

-- a test that an element passes is passed by one of more elements
any_longer : {A : Type 0} (p : A → Bool) (xs ys : List A) → list_any p xs ≡ true → list_any p (xs ++ ys) ≡ true
any_longer p [] ys h = absurd cc
any_longer p (x ∷ xs) ys h = or_map (p x) (p x) (λ e. e) (any_longer p xs ys) h

-- each fact is one of the others, or says nothing
abbrev pub AreAmongFacts : List Assertion → List Assertion → Type 0
AreAmongFacts facts others =
    (n : ℕ) (f : Assertion) → slice_get facts n ≡ Some f → (f ≡ Yes) ⊎ ((m : ℕ) × (slice_get others m ≡ Some f))

-- a test that a fact passes, and not one that says nothing, is passed by one of the others
facts_more : (p : Assertion → Bool) (facts others : List Assertion) → AreAmongFacts facts others → p Yes ≡ false →
    list_any p facts ≡ true → list_any p others ≡ true
facts_more p facts others among nothing h =
    let found = any_from p facts h in of found.1 found.3 (among found.0 found.1 found.2)
  where
    of : (f : Assertion) → p f ≡ true → (f ≡ Yes) ⊎ ((m : ℕ) × (slice_get others m ≡ Some f)) → list_any p others ≡ true
    of f e (inl is) = absurd (let wrong : true ≡ false = sym e ∙ ap p is ∙ nothing in cc)
    of f e (inr at) = any_passes_from_place p others at.0 f at.1 e

module _ (sorts : Sorts) (terms more : List Tree) (facts others : List Assertion) (among : AreAmongFacts facts others) where
  -- what classes are made of, and of more
  abbrev few : Setting
  few = record { sorts = sorts; terms = terms; given = facts }

  abbrev many : Setting
  many = record { sorts = sorts; terms = terms ++ more; given = others }

  -- what is given is given with more
  given_more : (t u : Tree) → given_equal few t u ≡ true → given_equal many t u ≡ true
  given_more t u h = facts_more (λ f. says_equal (equal_sides f) t u) facts others among refl h

  contrary_more : (t u : Tree) → given_unequal few t u ≡ true → given_unequal many t u ≡ true
  contrary_more t u h = facts_more (λ f. says_equal (unequal_sides f) t u) facts others among refl h

  differ_more : (t u : Tree) → differ few t u ≡ true → differ many t u ≡ true
  differ_more t u h =
      or_map (given_unequal few t u) (given_unequal many t u) (contrary_more t u)
      (or_map (given_unequal few u t) (given_unequal many u t) (contrary_more u t) (λ e. e)) h

  -- what is apart is apart with more
  apart_more : (equal : Pairs) (t u : Tree) → are_apart few equal t u ≡ true → are_apart many equal t u ≡ true
  apart_more equal t u h =
      any_longer (λ p. equal p t && list_any (λ q. equal q u && differ many p q) (terms ++ more)) terms more
      (any_more (λ p. equal p t && list_any (λ q. equal q u && differ few p q) terms)
      (λ p. equal p t && list_any (λ q. equal q u && differ many p q) (terms ++ more))
      (λ p. and_map (equal p t) (equal p t) (λ e. e)
      (λ e. any_longer (λ q. equal q u && differ many p q) terms more
      (any_more (λ q. equal q u && differ few p q) (λ q. equal q u && differ many p q)
      (λ q. and_map (equal q u) (equal q u) (λ e. e) (differ_more p q)) terms e))) terms h)

  -- the rules bring more
  brings_more : (equal : Pairs) (t u : Tree) → brings few equal t u ≡ true → brings many equal t u ≡ true
  brings_more equal t u h =
      or_map (given_equal few t u) (given_equal many t u) (given_more t u)
      (or_map (compared_forms sorts t u int_eq) (compared_forms sorts t u int_eq) (λ e. e)
      (or_map (same_head t u && equal_lists equal (arguments_of t) (arguments_of u))
      (same_head t u && equal_lists equal (arguments_of t) (arguments_of u)) (λ e. e)
      (or_map (reads_written t (λ w j. equal w.index j && same_tree u w.element))
      (reads_written t (λ w j. equal w.index j && same_tree u w.element)) (λ e. e)
      (reads_more (λ w j. are_apart few equal w.index j && same_tree u (Read w.before j))
      (λ w j. are_apart many equal w.index j && same_tree u (Read w.before j))
      (λ w j. and_map (are_apart few equal w.index j) (are_apart many equal w.index j) (apart_more equal w.index j) (λ e. e)) t)))) h

  -- what is closed with more is closed
  closed_less : (equal : Pairs) → AreClosed many equal → AreClosed few equal
  closed_less equal closed = record {
    each = λ t h. closed.each t (any_longer (same_tree t) terms more h);
    turned = closed.turned;
    joined = closed.joined;
    brought = λ t u h k b.
        closed.brought t u (any_longer (same_tree t) terms more h) (any_longer (same_tree u) terms more k) (brings_more equal t u b);
  }

  -- terms that are equal are so with more
  equal_more : (t u : Tree) → are_equal few t u ≡ true → are_equal many t u ≡ true
  equal_more t u h = equal_least few (are_equal many) (closed_less (are_equal many) (equal_closed many)) t u h

  -- a fact that can't hold can't with more
  refuted_more : (f : Assertion) → is_refuted (seen_by sorts terms facts) f ≡ true →
      is_refuted (seen_by sorts (terms ++ more) others) f ≡ true
  refuted_more No h = refl
  refuted_more (Ne sort t u) h = equal_more t u h
  refuted_more f h = absurd cc

  -- terms that are torn are so
  torn_more : (t u : Tree) → are_torn (seen_by sorts terms facts) t u ≡ true →
      are_torn (seen_by sorts (terms ++ more) others) t u ≡ true
  torn_more t u h = and_map (are_equal few t u) (are_equal many t u) (equal_more t u) (λ e. e) h

  closed_there : is_closed (seen_by sorts terms facts) ≡ true → is_closed (seen_by sorts (terms ++ more) others) ≡ true
  closed_there h =
      let here = seen_by sorts terms facts in
      let there = seen_by sorts (terms ++ more) others in
      or_map (list_any (is_refuted here) facts) (list_any (is_refuted there) others)
      (λ (e : list_any (is_refuted here) facts ≡ true).
      facts_more (is_refuted there) facts others among refl (any_more (is_refuted here) (is_refuted there) refuted_more facts e))
      (λ (e : list_any (λ t. list_any (are_torn here t) terms) terms ≡ true).
      any_longer (λ t. list_any (are_torn there t) (terms ++ more)) terms more
      (any_more (λ t. list_any (are_torn here t) terms) (λ t. list_any (are_torn there t) (terms ++ more))
      (λ (t : Tree) (g : list_any (are_torn here t) terms ≡ true).
      any_longer (are_torn there t) terms more (any_more (are_torn here t) (are_torn there t) (torn_more t) terms g)) terms e))
      h

-- a branch that is closed at once is closed with more terms, where each of its facts is there or says nothing
pub closed_more : (sorts : Sorts) (terms more : List Tree) (facts others : List Assertion) →
    ((n : ℕ) (f : Assertion) → slice_get facts n ≡ Some f → (f ≡ Yes) ⊎ ((m : ℕ) × (slice_get others m ≡ Some f))) →
    is_closed (seen_by sorts terms facts) ≡ true → is_closed (seen_by sorts (terms ++ more) others) ≡ true
closed_more sorts terms more facts others among h = closed_there sorts terms more facts others among h

-- a formula is one of these
abbrev There : List Assertion → Assertion → Type 0
There fs f = (m : ℕ) × (slice_get fs m ≡ Some f)

there_first : (xs ys : List Assertion) (m : ℕ) (f : Assertion) → slice_get xs m ≡ Some f → There (xs ++ ys) f
there_first [] ys m f e = absurd cc
there_first (x ∷ xs) ys zero f e = (0, e)
there_first (x ∷ xs) ys (suc m) f e = let at = there_first xs ys m f e in (suc at.0, at.1)

there_second : (xs ys : List Assertion) (m : ℕ) (f : Assertion) → slice_get ys m ≡ Some f → There (xs ++ ys) f
there_second [] ys m f e = (m, e)
there_second (x ∷ xs) ys m f e = let at = there_second xs ys m f e in (suc at.0, at.1)

there_either : (xs ys : List Assertion) (n : ℕ) (f : Assertion) → slice_get (xs ++ ys) n ≡ Some f → There xs f ⊎ There ys f
there_either [] ys n f e = inr (n, e)
there_either (x ∷ xs) ys zero f e = inl (0, e)
there_either (x ∷ xs) ys (suc n) f e = of (there_either xs ys n f e)
  where
    of : There xs f ⊎ There ys f → There (x ∷ xs) f ⊎ There ys f
    of (inl at) = inl (suc at.0, at.1)
    of (inr at) = inr at

-- lists of which each is among another, one behind the other
among_append : (fs gs hs ks : List Assertion) → AreAmongFacts fs hs → AreAmongFacts gs ks → AreAmongFacts (fs ++ gs) (hs ++ ks)
among_append fs gs hs ks first second n f e = of (there_either fs gs n f e)
  where
    left : (f ≡ Yes) ⊎ There hs f → (f ≡ Yes) ⊎ There (hs ++ ks) f
    left (inl is) = inl is
    left (inr at) = inr (there_first hs ks at.0 f at.1)

    right : (f ≡ Yes) ⊎ There ks f → (f ≡ Yes) ⊎ There (hs ++ ks) f
    right (inl is) = inl is
    right (inr at) = inr (there_second hs ks at.0 f at.1)

    of : There fs f ⊎ There gs f → (f ≡ Yes) ⊎ There (hs ++ ks) f
    of (inl at) = left (first at.0 f at.1)
    of (inr at) = right (second at.0 f at.1)

-- a part of a formula that is there
part_there : (gs : List Assertion) (m k : ℕ) (f p : Assertion) → slice_get gs m ≡ Some f → slice_get (parts_of f) k ≡ Some p →
    There (parts_of_all gs) p
part_there [] m k f p e h = absurd cc
part_there (g ∷ gs) zero k f p e h =
    there_first (parts_of g) (parts_of_all gs) k p
    (ap (λ (x : Assertion). slice_get (parts_of x) k) (let same : g ≡ f = cc in same) ∙ h)
part_there (g ∷ gs) (suc m) k f p e h =
    let at = part_there gs m k f p e h in there_second (parts_of g) (parts_of_all gs) at.0 p at.1

-- parts of formulas are parts of the others
parts_there : (fs gs : List Assertion) → AreAmongFacts fs gs → AreAmongFacts (parts_of_all fs) (parts_of_all gs)
parts_there [] gs among n p e = absurd cc
parts_there (f ∷ fs) gs among n p e =
    of (λ (m : ℕ) (h : slice_get (parts_of_all fs) m ≡ Some p).
    parts_there fs gs (λ (m : ℕ) (g : Assertion) (h : slice_get fs m ≡ Some g). among (suc m) g h) m p h)
    (there_either (parts_of f) (parts_of_all fs) n p e)
  where
    own : (k : ℕ) → slice_get (parts_of f) k ≡ Some p → (f ≡ Yes) ⊎ There gs f → (p ≡ Yes) ⊎ There (parts_of_all gs) p
    own k h (inl is) =
        absurd (let wrong : None ≡ Some p = sym (ap (λ (x : Assertion). slice_get (parts_of x) k) is) ∙ h in cc)
    own k h (inr at) = inr (part_there gs at.0 k f p at.1 h)

    of : ((m : ℕ) → slice_get (parts_of_all fs) m ≡ Some p → (p ≡ Yes) ⊎ There (parts_of_all gs) p) →
        There (parts_of f) p ⊎ There (parts_of_all fs) p → (p ≡ Yes) ⊎ There (parts_of_all gs) p
    of rest (inl at) = own at.0 at.1 (among 0 f refl)
    of rest (inr at) = rest at.0 at.1

-- all parts of formulas are among those of the others, taken apart as often or more
apart_there : (n m : ℕ) (fs gs : List Assertion) → n ≤ m → AreAmongFacts fs gs → AreAmongFacts (taken_apart n fs) (taken_apart m gs)
apart_there zero zero fs gs below among = among
apart_there zero (suc m) fs gs below among = λ i f e. of f (among i f e)
  where
    of : (f : Assertion) → (f ≡ Yes) ⊎ There gs f → (f ≡ Yes) ⊎ There (gs ++ taken_apart m (parts_of_all gs)) f
    of f (inl is) = inl is
    of f (inr at) = inr (there_first gs (taken_apart m (parts_of_all gs)) at.0 f at.1)
apart_there (suc n) zero fs gs below among = absurd (omega arith)
apart_there (suc n) (suc m) fs gs below among =
    among_append fs (taken_apart n (parts_of_all fs)) gs (taken_apart m (parts_of_all gs)) among
    (apart_there n m (parts_of_all fs) (parts_of_all gs) (omega arith) (parts_there fs gs among))

-- facts, and another where nothing was said
replaced_there : (given : List Assertion) (f : Assertion) → AreAmongFacts (given ++ Yes ∷ []) (given ++ f ∷ [])
replaced_there given f =
    among_append given (Yes ∷ []) given (f ∷ [])
    (λ (n : ℕ) (g : Assertion) (e : slice_get given n ≡ Some g). inr (n, e)) last
  where
    last : (n : ℕ) (g : Assertion) → slice_get (Yes ∷ []) n ≡ Some g → (g ≡ Yes) ⊎ There (f ∷ []) g
    last zero g e = inl (let is : g ≡ Yes = cc in is)
    last (suc n) g e = absurd cc

-- conjunctions stand as deep in one another
deep_there : (given : List Assertion) (f : Assertion) →
    greatest_of (map depth_of (given ++ Yes ∷ [])) ≤ greatest_of (map depth_of (given ++ f ∷ []))
deep_there [] f = omega arith
deep_there (g ∷ gs) f = let rest = deep_there gs f in omega arith

-- each fact with all parts is one with another formula in the place of one that says nothing, or says nothing
pub parts_among : (given : List Assertion) (f : Assertion) → AreAmongFacts (with_parts (given ++ Yes ∷ [])) (with_parts (given ++ f ∷ []))
parts_among given f =
    apart_there (greatest_of (map depth_of (given ++ Yes ∷ []))) (greatest_of (map depth_of (given ++ f ∷ [])))
    (given ++ Yes ∷ []) (given ++ f ∷ []) (deep_there given f) (replaced_there given f)
