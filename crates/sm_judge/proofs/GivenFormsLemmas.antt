-- What the program collects are the forms of the branch, each with its source.
use Rattle.sm_judge.proofs.Imports.{◌≡◌, zero, suc, pos, ◌+◌, ◌<◌, ◌==◌, Bool, true, false, ◌||◌, not, if◌then◌else◌, IsTrue, Option, Some, None, Result, Err, List, [], ◌∷◌, ◌++◌, map, drop, length, slice_get, get_or, refl, sym, ap, subst, ◌∙◌, rules, arith, unwrap_or, find, slice_get-get_or, Sorts, Explains, Linear, Outcome, Fits, Leaves, then_with, Tree, Lit, tree_at, AreApart, Assertion, NumberedFormula, numbered, assertion_in, IsFormulaWithin, Formula, is_numeric, one_more, Pairs, Seen, all_numbered, assertions_in, AreFormulasWithin, AreSources, comparison_by, GivesForms, difference_at, unless_zero, class_form, some_form, comparison_at, Item, Made, collected, class_items, fact_items, Two, first_place, pair_with, pairs_of, places_of, is_zero, forms_of, get_mapped}
use Rattle.std.proofs.Common.{ℕ, drop-cons}
use Rattle.sm_num.specs.declared.kind.Kind.TheVariants as kind
use Rattle.sm_num.specs.declared.error.NumError.{NumError}
use Rattle.sm_num.specs.declared.error.NumError.TheVariants.{Beyond, Memory}
use Rattle.sm_term.specs.Formulas.{Yes, No, Eq, Ne, Le, Lt, And, Or}
use Rattle.sm_judge.specs.declared.forms.SourcedForms.{SourcedForms}
use Rattle.sm_judge.proofs.MakingLemmas.{MaybeForm, FormList, all_led, outcomes, after, after-none, collected_led, collected_leaves, AreItems, collected_sources}
use Rattle.sm_judge.proofs.BranchFormsLemmas.{branch, forms, difference_is, IsFirst, first_is, branch_led}

-- the form, or another
form_or : Linear ℕ → Outcome MaybeForm → Linear ℕ
form_or d (Fits (Some f)) = f
form_or d (Fits None) = d
form_or d (Leaves op y z) = d

-- one form
one_form : (f g : Linear ℕ) → Fits (Some g) ≡ Fits (Some f) → g ≡ f
unfolding form_or
one_form f g e = ap (form_or f) e

zero_fits : (b : Bool) (f g : Linear ℕ) → Fits (if b then None else Some g) ≡ Fits (Some f) → g ≡ f
zero_fits true f g e = absurd cc
zero_fits false f g e = one_form f g e

-- a form that is there was computed
class_fits : (o : Outcome (Linear ℕ)) (f : Linear ℕ) → then_with o (λ (g : Linear ℕ). Fits (unless_zero g)) ≡ Fits (Some f) → o ≡ Fits f
class_fits (Fits g) f e = ap (λ (h : Linear ℕ). Fits h) (zero_fits (is_zero g) f g e)
class_fits (Leaves op y z) f e = absurd cc

some_fits : (o : Outcome (Linear ℕ)) (f : Linear ℕ) → then_with o some_form ≡ Fits (Some f) → o ≡ Fits f
some_fits (Fits g) f e = ap (λ (h : Linear ℕ). Fits h) (one_form f g e)
some_fits (Leaves op y z) f e = absurd cc

module _ (sorts : Sorts) (trees : List Tree) (facts : List Formula) (equal apart : Pairs) where
  -- the branch
  abbrev b : Seen
  b = branch sorts trees facts equal apart

  -- a number, and the first term of its class
  pub record IsKnown (q : ℕ × ℕ) : Type 0 where
    pub left : q.0 < length trees
    pub right : q.1 < length trees
    pub number : IsTrue (is_numeric sorts (tree_at trees q.0))
    pub same : IsTrue (equal (tree_at trees q.1) (tree_at trees q.0))

  -- several numbers, each with the first term of its class
  abbrev pub AreKnown : List (ℕ × ℕ) → Type 0
  AreKnown [] = Unit {0}
  AreKnown (q ∷ qs) = IsKnown q × AreKnown qs

  known-append : (ps qs : List (ℕ × ℕ)) → AreKnown ps → AreKnown qs → AreKnown (ps ++ qs)
  known-append [] qs first second = second
  known-append (p ∷ ps) qs first second = (first.0, known-append ps qs first.1 second)

  known_by : (n m : ℕ) (same number : Bool) → is_numeric sorts (tree_at trees n) ≡ number → n < length trees → m < length trees →
      IsTrue (equal (tree_at trees m) (tree_at trees n)) → AreKnown (if same || not number then [] else (n, m) ∷ [])
  known_by n m true number e left right is = tt
  known_by n m false false e left right is = tt
  known_by n m false true e left right is = (record { left = left; right = right; number = e; same = is }, tt)

  known_one : (n : ℕ) (o : Option ℕ) (q : Option Tree) → n < length trees → IsFirst sorts trees facts equal apart (tree_at trees n) o q →
      AreKnown (pair_with sorts (tree_at trees n) n o)
  known_one n None q inside first = tt
  known_one n (Some m) None inside first = absurd first
  known_one n (Some m) (Some u) inside first = known_by n m (n == m) (is_numeric sorts (tree_at trees n)) refl inside first.0 first.2

  pub pairs_known : (n : ℕ) (ts : List Tree) → drop n trees ≡ ts → n + length ts ≡ length trees → AreKnown (pairs_of sorts equal trees n ts)
  pairs_known n [] left count = tt
  pairs_known n (t ∷ ts) left count =
      let inside : n < length trees = omega arith in
      let more = drop-cons trees n (Lit (pos 0)) inside in
      let both : t ∷ ts ≡ tree_at trees n ∷ drop (suc n) trees = sym left ∙ more in
      let is : t ≡ tree_at trees n = cc in
      let others : drop (suc n) trees ≡ ts = cc in
      let u = tree_at trees n in
      let here = known_one n (first_place equal u 0 trees) (find (λ v. equal v u) trees) inside
      (first_is sorts trees facts equal apart u 0 trees refl (omega arith)) in
      known-append (pair_with sorts t n (first_place equal t 0 trees)) (pairs_of sorts equal trees (suc n) ts)
      (subst (λ (v : Tree). AreKnown (pair_with sorts v n (first_place equal v 0 trees))) (sym is) here)
      (pairs_known (suc n) ts others (omega arith))

  -- the forms of pairs come from there
  pub classes_are : (pairs : List Two) → AreKnown (places_of pairs) → AreItems b (class_items (forms sorts trees facts equal apart) pairs)
  classes_are [] known = tt
  classes_are (p ∷ pairs) known =
      let one = known.0 in (
        λ (f : Linear ℕ) (e : class_form (forms sorts trees facts equal apart) p.0.0 p.1.0 ≡ Fits (Some f)). (
          one.left,
          one.right,
          one.number,
          one.same,
          sym (difference_is sorts trees facts equal apart kind.Eq p.0.0 p.1.0 one.left one.right)
              ∙ class_fits (difference_at (forms sorts trees facts equal apart) kind.Eq p.0.0 p.1.0) f e,
        ),
        classes_are pairs known.1,
      )

  -- the form of a comparison
  compared : (g : NumberedFormula) (f : Linear ℕ) → IsFormulaWithin (length trees) g →
      comparison_at (forms sorts trees facts equal apart) g ≡ Fits (Some f) → comparison_by b (assertion_in sorts trees g) ≡ Some (Fits f)
  compared Yes f within e = absurd cc
  compared No f within e = absurd cc
  compared (Eq t u) f within e = absurd cc
  compared (Ne t u) f within e = absurd cc
  compared (Le t u) f within e =
      let d = difference_at (forms sorts trees facts equal apart) kind.Le t u in
      ap (λ (o : Outcome (Linear ℕ)). Some o)
      (sym (difference_is sorts trees facts equal apart kind.Le t u within.0 within.1) ∙ some_fits d f e)
  compared (Lt t u) f within e =
      let d = difference_at (forms sorts trees facts equal apart) kind.Le t u in
      ap (λ (o : Outcome (Linear ℕ)). Some o)
      (ap (λ (o : Outcome (Linear ℕ)). then_with o one_more)
      (sym (difference_is sorts trees facts equal apart kind.Le t u within.0 within.1)) ∙ some_fits (then_with d one_more) f e)
  compared (And p q) f within e = absurd cc
  compared (Or p q) f within e = absurd cc

  -- the first of what is left stands at its place
  at_place : {X : Type 0} (xs : List X) (n : ℕ) (x : X) (rest : List X) → drop n xs ≡ x ∷ rest → n < length xs → slice_get xs n ≡ Some x
  at_place xs n x rest left inside =
      let both : x ∷ rest ≡ get_or xs n x ∷ drop (suc n) xs = sym left ∙ drop-cons xs n x inside in
      let is : x ≡ get_or xs n x = cc in
      slice_get-get_or xs n x inside ∙ ap Some (sym is)

  -- the forms of facts come from there
  pub facts_are : (n : ℕ) (fs : List Formula) → drop n facts ≡ fs → n + length fs ≡ length facts →
      AreFormulasWithin (length trees) (all_numbered fs) → AreItems b (fact_items (forms sorts trees facts equal apart) n fs)
  facts_are n [] left count within = tt
  facts_are n (g ∷ fs) left count within =
      let inside : n < length facts = omega arith in
      let says : Formula → Assertion = λ f. assertion_in sorts trees (numbered f) in
      let found : slice_get facts n ≡ Some g = at_place facts n g fs left inside in
      let more = drop-cons facts n g inside in
      let both : g ∷ fs ≡ get_or facts n g ∷ drop (suc n) facts = sym left ∙ more in
      let others : drop (suc n) facts ≡ fs = cc in (
        λ (f : Linear ℕ) (e : comparison_at (forms sorts trees facts equal apart) (numbered g) ≡ Fits (Some f)).
            (says g, mapped n g found, compared (numbered g) f within.0 e),
        facts_are (suc n) fs others (omega arith) within.1,
      )
    where
      mapped : (k : ℕ) (h : Formula) → slice_get facts k ≡ Some h →
          slice_get (assertions_in sorts trees (all_numbered facts)) k ≡ Some (assertion_in sorts trees (numbered h))
      mapped k h e = get_mapped (assertion_in sorts trees) (all_numbered facts) k (numbered h) (get_mapped numbered facts k h e)

  -- the forms and their sources, or why there are none
  module _ (distinct : AreApart trees) (fs : FormList) (fs_are : fs ≡ forms sorts trees facts equal apart) (pairs : List Two) (are : places_of pairs ≡ pairs_of sorts equal trees 0 trees)
      (within : AreFormulasWithin (length trees) (all_numbered facts)) where
    abbrev of_classes : List Item
    of_classes = class_items fs pairs

    abbrev of_facts : List Item
    of_facts = fact_items fs 0 facts

    abbrev all_facts : Outcome FormList
    all_facts = all_led (outcomes of_facts) (Fits [])

    all_led_are : forms_of b ≡ all_led (outcomes of_classes) all_facts
    all_led_are =
        subst (λ (hs : FormList). forms_of b ≡ all_led (outcomes (class_items hs pairs)) all_facts) (sym fs_are)
        (subst (λ (hs : FormList). forms_of b
        ≡ all_led (outcomes (class_items (forms sorts trees facts equal apart) pairs))
        (all_led (outcomes (fact_items hs 0 facts)) (Fits [])))
        (sym fs_are)
        (branch_led sorts trees facts equal apart distinct pairs are within))

    class_sources : AreItems b of_classes
    class_sources =
        subst (λ (hs : FormList). AreItems b (class_items hs pairs)) (sym fs_are)
        (classes_are pairs (subst AreKnown (sym are) (pairs_known 0 trees refl (omega arith))))

    fact_sources : AreItems b of_facts
    fact_sources = subst (λ (hs : FormList). AreItems b (fact_items hs 0 facts)) (sym fs_are) (facts_are 0 facts refl (omega arith) within)

    pub forms_given : (first all : Made) → collected of_classes ([], []) ≡ Fits first → collected of_facts first ≡ Fits all →
        (forms_of b ≡ Fits all.0) × AreSources b all.1 all.0
    forms_given first all one two =
        let end : (all.0 ++ []) ≡ all.0 = search rules in
        let given = all_led_are ∙ sym (after-none (all_led (outcomes of_classes) all_facts))
        ∙ collected_led of_classes ([], []) first all_facts one
        ∙ collected_led of_facts first all (Fits []) two
        ∙ ap (λ (l : FormList). Fits l) end in
        let before = collected_sources b of_classes ([], []) first one tt class_sources in
        (given, collected_sources b of_facts first all two before fact_sources)

    pub classes_explained : (e : NumError) → Explains (collected of_classes ([], [])) e → Explains (forms_of b) e
    classes_explained (Beyond op y z) why = all_led_are ∙ collected_leaves of_classes ([], []) all_facts op y z why
    classes_explained Memory why = tt

    pub facts_explained : (first : Made) (e : NumError) → collected of_classes ([], []) ≡ Fits first →
        Explains (collected of_facts first) e → Explains (forms_of b) e
    facts_explained first (Beyond op y z) one why =
        let none : all_facts ≡ Leaves op y z = collected_leaves of_facts first (Fits []) op y z why in
        all_led_are ∙ sym (after-none (all_led (outcomes of_classes) all_facts))
        ∙ collected_led of_classes ([], []) first all_facts one
        ∙ ap (after first.0) none
    facts_explained first Memory one why = tt

-- an error that is told
pub error_given : (b : Seen) (r : Result SourcedForms NumError) (e : NumError) → r ≡ Err e → Explains (forms_of b) e →
    GivesForms b (forms_of b) r
error_given b r e is why = subst (GivesForms b (forms_of b)) (sym is) why
