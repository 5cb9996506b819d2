-- A node before, while and after the contrary of a goal stands in its place.
use Rattle.sm_solve.proofs.Imports.{◌≡◌, inl, inr, ℕ, ◌+◌, ◌<◌, ◌≤◌, Option, IfSome, List, [], ◌∷◌, ◌++◌, length, take, drop, slice_get, slice_set, refl, sym, ap, subst, ◌∙◌, arith, append-nil, length-set, length-map, length-append, take-append-drop, range_with_len, Sorts, Linear, Assertion, numbered, assertion_in, IsFormulaWithin, Formula, AreFormsSorted, IsFormSorted, Tree, TableValue, trees_in, sorts_in, codes_in, TermId, AddsTerms, IsLedBy, AreAllGiven, IsLonger, ClassesValue, FactBase, SharedTerms, Inconsistent, AreAllForms, IsAtGoal, HasRoom, facts_without, IsFrom, with_formula, with_formulas, with_parts, depth_of, terms_of, classes_by, given_from, trees_at, numbers_of, AreBelow, IsClosed, all_numbered, assertions_in, AreFormulasWithin, AreTermsOf, AreShared, with_those_before, AreNamed, IsFactBase, room_for_goal, IsInconsistent, facts_grown, facts_within_grown, queue_from, closed_with_formulas, closed_none, get_below, get_set, below_if_got, forms_append}
use Rattle.std.proofs.Common.{Some}
use Rattle.sm_term.specs.declared.formula.Formula.TheVariants as tree
use Rattle.sm_term.specs.Assertions.{Yes}
use Rattle.sm_solve.proofs.GroundingLemmas.{as_many}
use Rattle.sm_judge.proofs.LinearsLemmas.{first_forms}
use Rattle.sm_solve.proofs.NamingLemmas.{named_root}
use Rattle.sm_solve.proofs.NodeLemmas.{terms_there, added_behind, given_still, given_first, replaced_is, replaced_last, replaced_within, always_there, put_back, cut_back}
use Rattle.sm_solve.proofs.SortedLemmas.{sorted_with}
use Rattle.std.proofs.lemmas.List.FromFn.{length-range_with_len}

-- own tables of which one has more terms
pub own_grows : (old new : TableValue) (terms more : List Tree) → sorts_in new ≡ sorts_in old → codes_in new ≡ codes_in old →
    trees_in old ≡ terms → trees_in new ≡ terms ++ more → AddsTerms old new
own_grows old new terms more sorts codes first all = record {
  sorts = sorts;
  codes = codes;
  trees = (more, all ∙ ap (λ (ts : List Tree). ts ++ more) (sym first));
}

-- the facts of a node over its terms with those of a goal
record AreStill (sorts : Sorts) (given : List Assertion) (own : List Tree) (fs : List Formula) : Type 0 where
  are : assertions_in sorts own (all_numbered fs) ≡ room_for_goal given
  within : AreFormulasWithin (length own) (all_numbered fs)

module _ (old new : TableValue) (given : List Assertion) (n m : FactBase) (form : Assertion) (is : IsFactBase old given n) (grows : AddsTerms old new)
    (shared : AreShared new (with_those_before (with_formula form (with_formulas (room_for_goal given) []))) m.terms)
    (forms : AreAllForms (trees_in m.terms.own) m.forms.items) (later : (ls : List (Linear ℕ)) × (m.forms.items ≡ n.forms.items ++ ls)) where
  abbrev first : List Tree
  first = with_formulas (room_for_goal given) []

  behind : (more : List Tree) × (with_those_before (with_formula form first) ≡ first ++ more)
  behind = added_behind form first

  now : AreShared new (first ++ behind.0) m.terms
  now = subst (λ (ts : List Tree). AreShared new ts m.terms) behind.1 shared

  own_sorts : sorts_in m.terms.own ≡ sorts_in n.terms.own
  own_sorts = now.sorts ∙ grows.sorts ∙ sym is.shared.sorts

  own_codes : codes_in m.terms.own ≡ codes_in n.terms.own
  own_codes = now.codes ∙ grows.codes ∙ sym is.shared.codes

  still : AreStill (sorts_in old) given (trees_in m.terms.own) n.facts.items
  still =
      let fs = n.facts.items in
      let own = trees_in m.terms.own in
      let wider = own_grows n.terms.own m.terms.own first behind.0 own_sorts own_codes is.shared.own now.own in
      record {
        are =
            ap (λ (s : Sorts). assertions_in s own (all_numbered fs)) (sym is.shared.sorts ∙ sym own_sorts)
            ∙ facts_grown n.terms.own m.terms.own wider (all_numbered fs) is.within
            ∙ ap (λ (s : Sorts). assertions_in s (trees_in n.terms.own) (all_numbered fs)) is.shared.sorts ∙ is.facts;
        within = facts_within_grown n.terms.own m.terms.own wider (all_numbered fs) is.within;
      }

  yes : slice_get n.facts.items (length given) ≡ Some tree.Yes
  yes = always_there (sorts_in old) (trees_in m.terms.own) given n.facts.items still.are

  -- as many facts as there is room for
  many : length n.facts.items ≡ length (room_for_goal given)
  many = as_many (sorts_in old) (trees_in m.terms.own) n.facts.items ∙ ap length still.are

  -- the contrary of a goal is put in its place, and what parts it has behind the facts
  at_goal : (fact : Formula) → IsLonger (slice_set n.facts.items n.place fact) m.facts.items → m.place ≡ n.place → m.base ≡ n.base → m.inconsistent ≡ n.inconsistent →
      assertions_in (sorts_in old) (trees_in m.terms.own) (all_numbered m.facts.items) ≡ with_parts (given ++ form ∷ []) →
      AreFormulasWithin (length (trees_in m.terms.own)) (all_numbered m.facts.items) → IsFormSorted (sorts_in old) form →
      IsAtGoal new given form m
  at_goal fact longer place same_base same_inconsistent told within sorted =
      let fs = n.facts.items in
      let own = trees_in m.terms.own in
      let here : slice_get fs n.place ≡ Some tree.Yes = ap (slice_get fs) is.place ∙ yes in
      let back : facts_without given m ≡ fs =
      ap (λ (k : ℕ). slice_set (take (length (room_for_goal given)) m.facts.items) k tree.Yes) place
      ∙ ap (λ (gs : List Formula). slice_set (take (length (room_for_goal given)) gs) n.place tree.Yes) longer.1
      ∙ ap (λ (k : ℕ). slice_set (take k (slice_set fs n.place fact ++ longer.0)) n.place tree.Yes) (sym many)
      ∙ cut_back fs longer.0 n.place fact tree.Yes here in
      record {
        more = behind.0;
        shared = now;
        forms = forms;
        first_forms =
            first_forms first n.forms.items m.forms.items later.0
            (subst (λ (ts : List Tree). AreAllForms ts n.forms.items) is.shared.own is.forms) later.1;
        unread = is.unread;
        terms = sym behind.1 ∙ sym (terms_there given form);
        facts = ap (λ (s : Sorts). assertions_in s own (all_numbered m.facts.items)) grows.sorts ∙ told;
        within = within;
        without = (
          ap (λ (s : Sorts). assertions_in s first (all_numbered (facts_without given m))) grows.sorts
              ∙ ap (λ (gs : List Formula). assertions_in (sorts_in old) first (all_numbered gs)) back
              ∙ ap (λ (ts : List Tree). assertions_in (sorts_in old) ts (all_numbered fs)) (sym is.shared.own) ∙ is.facts,
          subst (λ (gs : List Formula). AreFormulasWithin (length first) (all_numbered gs)) (sym back)
              (subst (λ (ts : List Tree). AreFormulasWithin (length ts) (all_numbered fs)) is.shared.own is.within),
        );
        place = place ∙ is.place;
        there =
            let long = below_if_got fs n.place tree.Yes here in
            let same = ap length back in
            omega (arith, long, same, place);
        sorted = subst (λ (s : Sorts). AreFormsSorted s given) (sym grows.sorts) is.sorted;
        contrary_sorted = subst (λ (s : Sorts). IsFormSorted s form) (sym grows.sorts) sorted;
        grounded = record {
          table = is.grounded.table;
          sorts = own_sorts ∙ is.grounded.sorts;
          codes = own_codes ∙ is.grounded.codes;
          trees = sym is.grounded.trees ∙ is.shared.own;
          ids = is.grounded.ids;
          whole = is.grounded.whole;
          counted = is.grounded.counted;
          ground =
              subst (λ (gs : List Formula). IsFrom (classes_by is.grounded.table is.grounded.ids gs) m.base) (sym back)
              (subst (IsFrom (classes_by is.grounded.table is.grounded.ids fs)) (sym same_base) is.grounded.ground);
        };
        inconsistent =
            subst (λ (o : Option Inconsistent). IfSome o (IsInconsistent (sorts_in new) first (given ++ Yes ∷ []))) (sym same_inconsistent)
            (subst (λ (s : Sorts). IfSome n.inconsistent (IsInconsistent s first (given ++ Yes ∷ []))) (sym grows.sorts) is.inconsistent);
      }

  module _ (fact : Formula) (told : assertion_in (sorts_in old) (trees_in m.terms.own) (numbered fact) ≡ form)
      (within : IsFormulaWithin (length (trees_in m.terms.own)) (numbered fact)) where
    replaced : AreFormulasWithin (length (trees_in m.terms.own)) (all_numbered (slice_set n.facts.items n.place fact))
    replaced = replaced_within (length (trees_in m.terms.own)) n.facts.items n.place fact still.within within

    -- a contrary that has no parts
    pub opened : m.facts.items ≡ slice_set n.facts.items n.place fact → m.place ≡ n.place → m.base ≡ n.base → m.inconsistent ≡ n.inconsistent →
        depth_of form ≡ 0 → IsFormSorted (sorts_in old) form → IsAtGoal new given form m
    opened facts place same_base same_inconsistent flat sorted =
        let fs = n.facts.items in
        let own = trees_in m.terms.own in
        let all : assertions_in (sorts_in old) own (all_numbered m.facts.items) ≡ with_parts (given ++ form ∷ []) =
        ap (λ (gs : List Formula). assertions_in (sorts_in old) own (all_numbered gs)) facts
        ∙ ap (λ (k : ℕ). assertions_in (sorts_in old) own (all_numbered (slice_set fs k fact))) is.place
        ∙ replaced_is (sorts_in old) own given fs fact (ap depth_of told ∙ flat) still.are
        ∙ ap (λ (f : Assertion). with_parts (given ++ f ∷ [])) told in
        at_goal fact ([], facts ∙ sym (append-nil (slice_set fs n.place fact))) place same_base same_inconsistent all
        (subst (λ (gs : List Formula). AreFormulasWithin (length own) (all_numbered gs)) (sym facts) replaced) sorted

    -- a contrary at the last place, behind which its parts are put
    pub opened_last : (mid : List Formula) → mid ≡ slice_set n.facts.items n.place fact → IsLonger mid m.facts.items →
        ((sorts : Sorts) (trees : List Tree) → assertions_in sorts trees (all_numbered m.facts.items)
        ≡ queue_from n.place (assertions_in sorts trees (all_numbered mid))) →
        ((count : ℕ) → AreFormulasWithin count (all_numbered mid) → AreFormulasWithin count (all_numbered m.facts.items)) →
        m.place ≡ n.place → m.base ≡ n.base → m.inconsistent ≡ n.inconsistent → length n.facts.items ≡ n.place + 1 →
        IsFormSorted (sorts_in old) form → IsAtGoal new given form m
    opened_last mid put longer added stay place same_base same_inconsistent last sorted =
        let fs = n.facts.items in
        let own = trees_in m.terms.own in
        let room : length (room_for_goal given) ≡ length given + 1 = sym many ∙ last ∙ ap (λ (k : ℕ). k + 1) is.place in
        let queue : assertions_in (sorts_in old) own (all_numbered m.facts.items)
        ≡ queue_from (length given) (assertions_in (sorts_in old) own (all_numbered (slice_set fs (length given) fact))) =
        added (sorts_in old) own
        ∙ ap (λ (gs : List Formula). queue_from n.place (assertions_in (sorts_in old) own (all_numbered gs))) put
        ∙ ap (λ (k : ℕ). queue_from k (assertions_in (sorts_in old) own (all_numbered (slice_set fs k fact)))) is.place in
        let all = replaced_last (sorts_in old) own given fs m.facts.items fact still.are room queue
        ∙ ap (λ (f : Assertion). with_parts (given ++ f ∷ [])) told in
        at_goal fact (subst (λ (gs : List Formula). IsLonger gs m.facts.items) put longer) place same_base same_inconsistent all
        (stay (length own) (subst (λ (gs : List Formula). AreFormulasWithin (length own) (all_numbered gs)) (sym put) replaced)) sorted

-- terms that are counted from a number on
pub counted_longer : (n : ℕ) (xs ys : List TermId) → numbers_of xs ≡ range_with_len n (length xs) → numbers_of ys ≡ range_with_len n (length ys) →
    length xs ≤ length ys → IsLonger xs ys
counted_longer n [] ys e f h = (ys, refl)
counted_longer n (x ∷ xs) [] e f h = absurd (omega arith)
counted_longer n (x ∷ xs) (y ∷ ys) e f h =
    let less : length xs ≤ length ys = omega arith in
    let same : x ≡ y = same_id x y (heads x.0 n (numbers_of xs) (range_with_len (n + 1) (length xs)) e
    ∙ sym (heads y.0 n (numbers_of ys) (range_with_len (n + 1) (length ys)) f)) in
    let rest = counted_longer (n + 1) xs ys (tails x.0 n (numbers_of xs) (range_with_len (n + 1) (length xs)) e)
    (tails y.0 n (numbers_of ys) (range_with_len (n + 1) (length ys)) f) less in
    (rest.0, ap (λ (ts : List TermId). y ∷ ts) rest.1 ∙ ap (λ (t : TermId). t ∷ xs ++ rest.0) (sym same))
  where
    heads : (a b : ℕ) (ms ns : List ℕ) → a ∷ ms ≡ b ∷ ns → a ≡ b
    heads a b ms ns e = cc

    tails : (a b : ℕ) (ms ns : List ℕ) → a ∷ ms ≡ b ∷ ns → ms ≡ ns
    tails a b ms ns e = cc

    same_id : (s t : TermId) → s.0 ≡ t.0 → s ≡ t
    same_id s t e = ap (λ (k : ℕ). record { 0 = k }) e

-- how many terms are counted
pub count_of : (ids : List TermId) (n : ℕ) → numbers_of ids ≡ range_with_len 0 n → length ids ≡ n
count_of ids n e = sym (length-map ids (λ (t : TermId). t.0)) ∙ ap length e ∙ length-range_with_len 0 n

-- the classes of a goal begin with those of the node's facts
pub led_with : (table : TableValue) (given : List Assertion) (form : Assertion) (n : FactBase) → IsAtGoal table given form n →
    (v : ClassesValue) × IsFrom v n.base × (v.given ≡ given_from 0 (facts_without given n))
    × ((ids : List TermId) → numbers_of ids ≡ range_with_len 0 (length (trees_in n.terms.own)) →
    IsLedBy v (classes_by n.terms.own ids n.facts.items))
led_with table given form n at =
    let g = at.grounded in
    let own = n.terms.own in
    let first = with_formulas (room_for_goal given) [] in
    let grows : AddsTerms g.table own = own_grows g.table own first at.more g.sorts g.codes g.trees at.shared.own in (
      classes_by g.table g.ids (facts_without given n),
      g.ground,
      refl,
      λ ids counted. record {
        table = grows;
        terms =
            let many = count_of ids (length (trees_in own)) counted in
            let few = count_of g.ids (length (trees_in g.table)) g.counted in
            let more = ap length grows.trees.1 ∙ length-append (trees_in g.table) grows.trees.0 in
            counted_longer 0 g.ids ids (g.counted ∙ ap (range_with_len 0) (sym few)) (counted ∙ ap (range_with_len 0) (sym many))
            (omega (arith, many, few, more));
        given = all_given (length (room_for_goal given)) n.facts.items n.place at.there;
      },
    )
  where
    -- what is given of the first formulas, where what always holds stands at a place, is given of all
    all_given : (count : ℕ) (fs : List Formula) (place : ℕ) → place < length (slice_set (take count fs) place tree.Yes) →
        AreAllGiven (given_from 0 (slice_set (take count fs) place tree.Yes)) (given_from 0 fs)
    all_given count fs place there =
        let kept = take count fs in
        let without = slice_set kept place tree.Yes in
        let long = length-set kept place tree.Yes in
        let inside : place < length kept = omega (arith, there, long) in
        let here = get_below kept place inside in
        let one = given_still 0 without place here.0 (get_set kept place tree.Yes inside) in
        let back = put_back kept place tree.Yes here.0 here.1 in
        let two : AreAllGiven (given_from 0 without) (given_from 0 kept) =
        subst (λ (gs : List Formula). AreAllGiven (given_from 0 without) (given_from 0 gs)) back one in
        let three : AreAllGiven (given_from 0 kept) (given_from 0 fs) =
        subst (λ (gs : List Formula). AreAllGiven (given_from 0 kept) (given_from 0 gs)) (take-append-drop count fs)
        (given_first 0 kept (drop count fs)) in
        λ k g is. let found = two k g is in three found.0 g found.1

-- at a goal, the node's base is made of classes with which those of all terms of the node's table,
-- by the node's facts, begin
pub led : (table : TableValue) (given : List Assertion) (form : Assertion) (n : FactBase) → IsAtGoal table given form n →
    (v : ClassesValue) × IsFrom v n.base
    × ((ids : List TermId) → numbers_of ids ≡ range_with_len 0 (length (trees_in n.terms.own)) →
    IsLedBy v (classes_by n.terms.own ids n.facts.items))
led table given form n at = let l = led_with table given form n at in (l.0, l.1, l.3)

-- as many facts of a node stand at a goal
pub room_kept : (table : TableValue) (given : List Assertion) (form : Assertion) (n : FactBase) → IsAtGoal table given form n →
    length (take (length (room_for_goal given)) n.facts.items) ≡ length (room_for_goal given)
room_kept table given form n at =
    sym (length-set (take (length (room_for_goal given)) n.facts.items) n.place tree.Yes)
    ∙ as_many (sorts_in table) (with_formulas (room_for_goal given) []) (facts_without given n) ∙ ap length at.without.0

-- nothing but what the base is numbered by is another
pub renumbered_goal : (table : TableValue) (given : List Assertion) (form : Assertion) (n m : FactBase) → m.terms ≡ n.terms → m.forms ≡ n.forms →
    m.facts.items ≡ n.facts.items → m.place ≡ n.place → m.inconsistent ≡ n.inconsistent → ((v : ClassesValue) → IsFrom v n.base → IsFrom v m.base) →
    IsAtGoal table given form n → IsAtGoal table given form m
renumbered_goal table given form n m terms forms facts place same_inconsistent later at =
    let first = with_formulas (room_for_goal given) [] in
    let count = length (room_for_goal given) in
    let back : facts_without given m ≡ facts_without given n = ap (λ (gs : List Formula). slice_set (take count gs) m.place tree.Yes) facts
    ∙ ap (λ (k : ℕ). slice_set (take count n.facts.items) k tree.Yes) place in
    let g = at.grounded in
    let own : m.terms.own ≡ n.terms.own = ap (λ (s : SharedTerms). s.own) terms in
    record {
      more = at.more;
      shared = subst (λ (s : SharedTerms). AreShared table (first ++ at.more) s) (sym terms) at.shared;
      forms =
          subst (λ (o : TableValue). AreAllForms (trees_in o) m.forms.items) (sym own)
          (subst (λ x. AreAllForms (trees_in n.terms.own) x.items) (sym forms) at.forms);
      first_forms = subst (λ x. AreAllForms first (take (length first) x.items)) (sym forms) at.first_forms;
      unread = at.unread;
      terms = at.terms;
      facts =
          ap (λ (o : TableValue). assertions_in (sorts_in table) (trees_in o) (all_numbered m.facts.items)) own
          ∙ ap (λ (gs : List Formula). assertions_in (sorts_in table) (trees_in n.terms.own) (all_numbered gs)) facts ∙ at.facts;
      within =
          subst (λ (o : TableValue). AreFormulasWithin (length (trees_in o)) (all_numbered m.facts.items)) (sym own)
          (subst (λ (gs : List Formula). AreFormulasWithin (length (trees_in n.terms.own)) (all_numbered gs)) (sym facts) at.within);
      without =
          subst (λ (gs : List Formula). (assertions_in (sorts_in table) first (all_numbered gs) ≡ room_for_goal given)
          × AreFormulasWithin (length first) (all_numbered gs)) (sym back) at.without;
      place = place ∙ at.place;
      there =
          let long = ap length back in
          let less = at.there in
          omega (arith, long, place, less);
      sorted = at.sorted;
      contrary_sorted = at.contrary_sorted;
      grounded = record {
        table = g.table;
        sorts = ap (λ (o : TableValue). sorts_in o) own ∙ g.sorts;
        codes = ap (λ (o : TableValue). codes_in o) own ∙ g.codes;
        trees = g.trees;
        ids = g.ids;
        whole = g.whole;
        counted = g.counted;
        ground =
            subst (λ (gs : List Formula). IsFrom (classes_by g.table g.ids gs) m.base) (sym back)
            (later (classes_by g.table g.ids (facts_without given n)) g.ground);
      };
      inconsistent = subst (λ (o : Option Inconsistent). IfSome o (IsInconsistent (sorts_in table) first (given ++ Yes ∷ []))) (sym same_inconsistent) at.inconsistent;
    }

-- the contrary of a goal is taken out of its place
pub closed : (table : TableValue) (given : List Assertion) (form : Assertion) (n m : FactBase) → IsAtGoal table given form n →
    AreShared table (with_formulas (room_for_goal given) []) m.terms →
    m.forms.items ≡ take (length (with_formulas (room_for_goal given) [])) n.forms.items → m.facts.items ≡ facts_without given n →
    m.place ≡ n.place →
    m.base ≡ n.base → m.inconsistent ≡ n.inconsistent → IsFactBase table given m
closed table given form n m at shared forms facts place same_base same_inconsistent =
    let first = with_formulas (room_for_goal given) [] in
    let g = at.grounded in
    record {
      shared = shared;
      forms =
          subst (λ (ts : List Tree). AreAllForms ts m.forms.items) (sym shared.own)
          (subst (AreAllForms first) (sym forms) at.first_forms);
      unread = at.unread;
      facts =
          ap (λ (ts : List Tree). assertions_in (sorts_in table) ts (all_numbered m.facts.items)) shared.own
          ∙ ap (λ (gs : List Formula). assertions_in (sorts_in table) first (all_numbered gs)) facts ∙ at.without.0;
      within =
          subst (λ (ts : List Tree). AreFormulasWithin (length ts) (all_numbered m.facts.items)) (sym shared.own)
          (subst (λ (gs : List Formula). AreFormulasWithin (length first) (all_numbered gs)) (sym facts) at.without.1);
      place = place ∙ at.place;
      sorted = at.sorted;
      grounded = record {
        table = g.table;
        sorts = shared.sorts ∙ sym at.shared.sorts ∙ g.sorts;
        codes = shared.codes ∙ sym at.shared.codes ∙ g.codes;
        trees = shared.own ∙ sym g.trees;
        ids = g.ids;
        whole = g.whole;
        counted = g.counted;
        ground =
            subst (λ (gs : List Formula). IsFrom (classes_by g.table g.ids gs) m.base) (sym facts)
            (subst (IsFrom (classes_by g.table g.ids (facts_without given n))) (sym same_base) g.ground);
      };
      inconsistent = subst (λ (o : Option Inconsistent). IfSome o (IsInconsistent (sorts_in table) first (given ++ Yes ∷ []))) (sym same_inconsistent) at.inconsistent;
    }

-- all facts of a goal are sorted
pub goal_sorted : (table : TableValue) (given : List Assertion) (form : Assertion) (n : FactBase) → IsAtGoal table given form n →
    AreFormsSorted (sorts_in n.terms.own) (assertions_in (sorts_in n.terms.own) (trees_in n.terms.own) (all_numbered n.facts.items))
goal_sorted table given form n at =
    let all = sorted_with (sorts_in table) (given ++ form ∷ []) (sorted_last (sorts_in table) given form at.sorted at.contrary_sorted) in
    subst (λ (s : Sorts). AreFormsSorted s (assertions_in s (trees_in n.terms.own) (all_numbered n.facts.items))) (sym at.shared.sorts)
    (subst (AreFormsSorted (sorts_in table)) (sym at.facts) all)
  where
    sorted_last : (sorts : Sorts) (fs : List Assertion) (f : Assertion) → AreFormsSorted sorts fs → IsFormSorted sorts f →
        AreFormsSorted sorts (fs ++ f ∷ [])
    sorted_last sorts fs f h k = forms_append sorts fs (f ∷ []) h (k, tt)

-- its terms are those of its facts with the contrary
pub goal_named : (table : TableValue) (given : List Assertion) (form : Assertion) (n : FactBase) → IsAtGoal table given form n →
    AreNamed (trees_in n.terms.own) (assertions_in (sorts_in n.terms.own) (trees_in n.terms.own) (all_numbered n.facts.items))
goal_named table given form n at =
    let all = ap (λ (s : Sorts). assertions_in s (trees_in n.terms.own) (all_numbered n.facts.items)) at.shared.sorts ∙ at.facts in
    named_root (trees_in n.terms.own) (assertions_in (sorts_in n.terms.own) (trees_in n.terms.own) (all_numbered n.facts.items))
    (at.shared.own ∙ at.terms ∙ ap terms_of (sym all))

-- there is room for a goal among the facts
pub room_below : (table : TableValue) (given : List Assertion) (n : FactBase) → IsFactBase table given n → n.place < length n.facts.items
room_below table given n is =
    let yes = always_there (sorts_in table) (trees_in n.terms.own) given n.facts.items is.facts in
    let long = below_if_got n.facts.items (length given) tree.Yes yes in
    let here = is.place in
    omega (arith, long, here)

-- what has room has no parts where the place of a goal isn't the last
pub flat_there : (n : FactBase) (form : Assertion) → HasRoom n form → (length n.facts.items ≡ n.place + 1 → ⊥) → depth_of form ≡ 0
flat_there n form (inl flat) other = flat
flat_there n form (inr last) other = absurd (other last)

-- as many facts as there is room for
pub room_counted : (table : TableValue) (given : List Assertion) (n : FactBase) → IsFactBase table given n →
    length (room_for_goal given) ≡ length n.facts.items
room_counted table given n is = sym (as_many (sorts_in table) (trees_in n.terms.own) n.facts.items ∙ ap length is.facts)

-- the place of a goal is among the facts that are left
pub place_left : (given : List Assertion) (n : FactBase) (count : ℕ) (left : List Formula) → left ≡ take count n.facts.items →
    length (room_for_goal given) ≡ count → n.place < length (facts_without given n) → n.place < length left
place_left given n count left cut many there =
    let same = length-set (take (length (room_for_goal given)) n.facts.items) n.place tree.Yes in
    let kept = ap length cut ∙ ap (λ (k : ℕ). length (take k n.facts.items)) (sym many) in
    omega (arith, there, same, kept)

-- the terms of the facts are the first
pub first_fits : (table : TableValue) (given : List Assertion) (form : Assertion) (n : FactBase) → IsAtGoal table given form n →
    length (with_formulas (room_for_goal given) []) ≤ length (trees_in n.terms.own)
first_fits table given form n at =
    let first = with_formulas (room_for_goal given) [] in
    let all = ap length at.shared.own ∙ length-append first at.more in
    omega (arith, all)

-- their arguments are among them
pub first_closed : (given : List Assertion) → IsClosed (with_formulas (room_for_goal given) [])
first_closed given = closed_with_formulas (room_for_goal given) [] closed_none

-- the numbers that the terms have in the other table
pub terms_of_goal : (table : TableValue) (given : List Assertion) (form : Assertion) (n : FactBase) → IsAtGoal table given form n →
    (ids : List TermId) → numbers_of ids ≡ n.terms.listed → AreTermsOf (trees_in table) ids (trees_in n.terms.own)
terms_of_goal table given form n at ids same = record {
  trees_are = ap (trees_at (trees_in table)) same ∙ at.shared.listed ∙ sym at.shared.own;
  below = subst (AreBelow (length (trees_in table))) (sym same) at.shared.below;
}
