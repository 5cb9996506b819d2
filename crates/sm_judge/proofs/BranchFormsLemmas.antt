-- The forms of the items over a table are those of the branch.
use Rattle.sm_judge.proofs.Imports.{◌≡◌, suc, pos, negsuc, ◌+◌, ◌<◌, ◌==◌, Bool, true, false, ◌||◌, not, if◌then◌else◌, IsTrue, Option, Some, None, List, [], ◌∷◌, ◌++◌, map, drop, length, refl, sym, ap, subst, ◌∙◌, arith, find, map-append, Sorts, Linear, Kind, Outcome, Fits, then_with, combined, Tree, Lit, tree_at, AreApart, same_tree, Assertion, NumberedFormula, numbered, assertion_in, IsFormulaWithin, Formula, is_numeric, one_more, numbers_tell, Pairs, Seen, all_numbered, assertions_in, AreFormulasWithin, seen_in, linear_forms, difference_at, unless_zero, class_form, some_form, comparison_at, class_items, fact_items, Two, first_place, pair_with, pairs_of, places_of, less_by, led_unless_zero, first_like, led_by_class, class_forms, fact_forms, forms_of}
use Rattle.std.proofs.Common.{ℕ, drop-cons}
use Rattle.sm_num.specs.declared.kind.Kind.TheVariants as kind
use Rattle.sm_term.specs.Formulas.{Yes, No, Eq, Ne, Le, Lt, And, Or}
use Rattle.sm_judge.proofs.LinearsLemmas.{form_is}
use Rattle.sm_judge.proofs.MakingLemmas.{MaybeForm, FormList, led_if, all_led, outcomes, led-none, all_led-append, led_is, zero_is}

module _ (sorts : Sorts) (trees : List Tree) (facts : List Formula) (equal apart : Pairs) where
  -- the branch
  abbrev pub branch : Seen
  branch = seen_in sorts trees trees facts equal apart

  -- the forms of all terms
  abbrev pub forms : FormList
  forms = linear_forms trees

  -- the form of a number less another
  pub difference_is : (k : Kind) (m n : ℕ) → m < length trees → n < length trees →
      difference_at forms k m n ≡ less_by branch k (tree_at trees m) (tree_at trees n)
  difference_is k m n first second =
      let left = form_is trees m first in
      let right = form_is trees n second in
      λ i. combined (left i) (pos 1) (right i) (negsuc 0) k

  -- that a number is equal to another, by places
  abbrev pub class_at : ℕ × ℕ → Outcome MaybeForm
  class_at q = class_form forms q.0 q.1

  -- a place and the term there, or neither
  abbrev pub IsFirst : Tree → Option ℕ → Option Tree → Type 0
  IsFirst t None None = Unit {0}
  IsFirst t None (Some u) = ⊥
  IsFirst t (Some m) None = ⊥
  IsFirst t (Some m) (Some u) = (m < length trees) × (u ≡ tree_at trees m) × IsTrue (equal (tree_at trees m) t)

  first_by : (b : Bool) (t u : Tree) (n : ℕ) (o : Option ℕ) (q : Option Tree) → equal u t ≡ b → n < length trees → u ≡ tree_at trees n →
      IsFirst t o q → IsFirst t (if b then Some n else o) (if b then Some u else q)
  first_by true t u n o q e inside is rest = (inside, is, subst (λ (v : Tree). IsTrue (equal v t)) is e)
  first_by false t u n o q e inside is rest = rest

  -- the first term that is equal to one, and its place
  pub first_is : (t : Tree) (n : ℕ) (us : List Tree) → drop n trees ≡ us → n + length us ≡ length trees →
      IsFirst t (first_place equal t n us) (find (λ u. equal u t) us)
  first_is t n [] left count = tt
  first_is t n (u ∷ us) left count =
      let inside : n < length trees = omega arith in
      let more = drop-cons trees n (Lit (pos 0)) inside in
      let both : u ∷ us ≡ tree_at trees n ∷ drop (suc n) trees = sym left ∙ more in
      let is : u ≡ tree_at trees n = cc in
      let rest : drop (suc n) trees ≡ us = cc in
      first_by (equal u t) t u n (first_place equal t (suc n) us) (find (λ u. equal u t) us) refl inside is
      (first_is t (suc n) us rest (omega arith))

  -- a term with the first of its class
  led_by : (t u : Tree) (n m : ℕ) (b : Bool) (rest : Outcome FormList) → class_at (n, m) ≡
      then_with (less_by branch kind.Eq t u) (λ (f : Linear ℕ). Fits (unless_zero f)) →
      (if b then rest else led_unless_zero (less_by branch kind.Eq t u) rest) ≡ all_led (map class_at (if b then [] else (n, m) ∷ [])) rest
  led_by t u n m true rest form = refl
  led_by t u n m false rest form = zero_is (less_by branch kind.Eq t u) rest ∙ ap (λ (o : Outcome MaybeForm). led_if o rest) (sym form)

  pub one_led : (distinct : AreApart trees) (n : ℕ) (o : Option ℕ) (q : Option Tree) (rest : Outcome FormList) → n < length trees →
      IsFirst (tree_at trees n) o q →
      led_by_class branch (tree_at trees n) q rest ≡ all_led (map class_at (pair_with sorts (tree_at trees n) n o)) rest
  one_led distinct n None None rest inside first = refl
  one_led distinct n None (Some u) rest inside first = absurd first
  one_led distinct n (Some m) None rest inside first = absurd first
  one_led distinct n (Some m) (Some u) rest inside first =
      let t = tree_at trees n in
      let number = is_numeric sorts t in
      let tell : (n == m) ≡ same_tree t (tree_at trees m) = numbers_tell trees distinct n m inside first.0 in
      let form = ap (λ (d : Outcome (Linear ℕ)). then_with d (λ (f : Linear ℕ). Fits (unless_zero f)))
      (difference_is kind.Eq n m inside first.0) in
      let all = led_by t (tree_at trees m) n m ((n == m) || not number) rest form in
      subst (λ (v : Tree). led_by_class branch t (Some v) rest ≡ all_led (map class_at (pair_with sorts t n (Some m))) rest) (sym first.1)
      (ap (λ (b : Bool). if b || not number then rest else led_unless_zero (less_by branch kind.Eq t (tree_at trees m)) rest) (sym tell)
      ∙ all)

  -- the forms of terms from a place on by their classes
  pub classes_led : (distinct : AreApart trees) (n : ℕ) (ts : List Tree) (rest : Outcome FormList) → drop n trees ≡ ts →
      n + length ts ≡ length trees →
      class_forms branch ts rest ≡ all_led (map class_at (pairs_of sorts equal trees n ts)) rest
  classes_led distinct n [] rest left count = refl
  classes_led distinct n (t ∷ ts) rest left count =
      let inside : n < length trees = omega arith in
      let more = drop-cons trees n (Lit (pos 0)) inside in
      let both : t ∷ ts ≡ tree_at trees n ∷ drop (suc n) trees = sym left ∙ more in
      let is : t ≡ tree_at trees n = cc in
      let others : drop (suc n) trees ≡ ts = cc in
      let later = classes_led distinct (suc n) ts rest others (omega arith) in
      let u = tree_at trees n in
      let o = first_place equal u 0 trees in
      let here = one_led distinct n o (first_like branch u) (class_forms branch ts rest) inside (first_is u 0 trees refl (omega arith)) in
      let pairs = pairs_of sorts equal trees (suc n) ts in
      ap (λ (v : Tree). led_by_class branch v (first_like branch v) (class_forms branch ts rest)) is
      ∙ here
      ∙ ap (all_led (map class_at (pair_with sorts u n o))) later
      ∙ sym (all_led-append (map class_at (pair_with sorts u n o)) (map class_at pairs) rest)
      ∙ ap (λ (os : List (Outcome MaybeForm)). all_led os rest) (sym (map-append class_at (pair_with sorts u n o) pairs))
      ∙ ap (λ (v : Tree). all_led (map class_at (pair_with sorts v n (first_place equal v 0 trees) ++ pairs)) rest) (sym is)

  -- what comes of pairs is told by their places
  pub class_outcomes : (pairs : List Two) → outcomes (class_items forms pairs) ≡ map class_at (places_of pairs)
  class_outcomes [] = refl
  class_outcomes (p ∷ pairs) = ap (λ (os : List (Outcome MaybeForm)). class_form forms p.0.0 p.1.0 ∷ os) (class_outcomes pairs)

  -- a comparison before others
  fact_led : (g : NumberedFormula) (rest : List Assertion) → IsFormulaWithin (length trees) g →
      fact_forms branch (assertion_in sorts trees g ∷ rest) ≡ led_if (comparison_at forms g) (fact_forms branch rest)
  fact_led Yes rest within = sym (led-none (fact_forms branch rest))
  fact_led No rest within = sym (led-none (fact_forms branch rest))
  fact_led (Eq t u) rest within = sym (led-none (fact_forms branch rest))
  fact_led (Ne t u) rest within = sym (led-none (fact_forms branch rest))
  fact_led (Le t u) rest within =
      led_is (less_by branch kind.Le (tree_at trees t) (tree_at trees u)) (fact_forms branch rest)
      ∙ ap (λ (d : Outcome (Linear ℕ)). led_if (then_with d some_form) (fact_forms branch rest))
      (sym (difference_is kind.Le t u within.0 within.1))
  fact_led (Lt t u) rest within =
      led_is (then_with (less_by branch kind.Le (tree_at trees t) (tree_at trees u)) one_more) (fact_forms branch rest)
      ∙ ap (λ (d : Outcome (Linear ℕ)). led_if (then_with (then_with d one_more) some_form) (fact_forms branch rest))
      (sym (difference_is kind.Le t u within.0 within.1))
  fact_led (And p q) rest within = sym (led-none (fact_forms branch rest))
  fact_led (Or p q) rest within = sym (led-none (fact_forms branch rest))

  -- the forms of comparisons
  pub facts_led : (n : ℕ) (fs : List Formula) → AreFormulasWithin (length trees) (all_numbered fs) →
      fact_forms branch (assertions_in sorts trees (all_numbered fs)) ≡ all_led (outcomes (fact_items forms n fs)) (Fits [])
  facts_led n [] within = refl
  facts_led n (f ∷ fs) within =
      fact_led (numbered f) (assertions_in sorts trees (all_numbered fs)) within.0
      ∙ ap (led_if (comparison_at forms (numbered f))) (facts_led (suc n) fs within.1)

  -- all forms of the branch
  pub branch_led : (distinct : AreApart trees) (pairs : List Two) → places_of pairs ≡ pairs_of sorts equal trees 0 trees →
      AreFormulasWithin (length trees) (all_numbered facts) →
      forms_of branch ≡ all_led (outcomes (class_items forms pairs)) (all_led (outcomes (fact_items forms 0 facts)) (Fits []))
  branch_led distinct pairs are within =
      let rest = fact_forms branch (assertions_in sorts trees (all_numbered facts)) in
      classes_led distinct 0 trees rest refl (omega arith)
      ∙ ap (λ (os : List (Outcome MaybeForm)). all_led os rest) (ap (map class_at) (sym are) ∙ sym (class_outcomes pairs))
      ∙ ap (all_led (outcomes (class_items forms pairs))) (facts_led 0 facts within)
