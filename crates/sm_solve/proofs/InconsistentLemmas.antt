-- Facts of a node that can't hold together: so do these with the contrary of a goal.
use Rattle.sm_solve.proofs.Imports.{◌≡◌, ◌⊎◌, ℕ, ℤ, ◌+◌, ◌≤◌, true, false, Bool, IfSome, slice_get, take, drop, get_or, add-one, ⊎_elim, ◌<◌, Result, Ok, Err, OnOk, List, [], ◌∷◌, ◌++◌, length, if◌then◌else◌, refl, sym, ap, subst, ◌∙◌, arith, range_with_len, take-suc, cases_Bool, append-nil, length-append, take-append-drop, Sorts, Linear, Outcome, Fits, Assertion, AreFormsSorted, TableValue, trees_in, sorts_in, codes_in, TermId, AddsTerms, Tree, as_facts, Certificate, splits_above, NamesWhatItReads, certificate_in, lines_of, AreLinesWithin, CertTree, IsLedBy, ClassesValue, IsLonger, FactBase, AreAllForms, IsAtGoal, IsFrom, with_formulas, with_parts, terms_of, Refutes, classes_by, seen_by, Seen, is_closed, split_of, numbers_of, all_numbered, assertions_in, AreFormulasWithin, AreTermsOf, AreShared, AreNamed, IsFactBase, room_for_goal, IsInconsistent, IsBelow, ClosesIn, Walked, Closes, by_forms, forms_of, by_classes, by_no_split, by_parts, walk_from, Reach, all_whole, below_grown, same_grown, forms_append}
use Rattle.std.proofs.Common.{Some}
use Rattle.sm_num.specs.declared.kind.Kind.{Kind}
use Rattle.sm_term.specs.Assertions.{Yes}
use Rattle.sm_solve.proofs.AtGoalLemmas.{own_grows, counted_longer, count_of}
use Rattle.sm_solve.proofs.AtomsLemmas.{more_atoms}
use Rattle.sm_solve.proofs.ClosedLemmas.{closed_more, parts_among}
use Rattle.sm_judge.proofs.CountedLemmas.{counted_on}
use Rattle.sm_solve.proofs.NamingLemmas.{named_root}
use Rattle.sm_solve.proofs.ReplacedLemmas.{closes_in_replaced}
use Rattle.sm_solve.proofs.SortedLemmas.{sorted_with}
use Rattle.sm_solve.proofs.WalkingLemmas.{closed_told, open_told}

-- the classes of a node are those of its facts
pub node_led : (table : TableValue) (given : List Assertion) (n : FactBase) → IsFactBase table given n →
    (v : ClassesValue) × IsFrom v n.base
    × ((ids : List TermId) → numbers_of ids ≡ range_with_len 0 (length (trees_in n.terms.own)) →
    IsLedBy v (classes_by n.terms.own ids n.facts.items))
node_led table given n is =
    let g = is.grounded in
    let own = n.terms.own in
    let grows : AddsTerms g.table own =
    own_grows g.table own (trees_in own) [] g.sorts g.codes (sym g.trees) (sym (append-nil (trees_in own))) in (
      classes_by g.table g.ids n.facts.items,
      g.ground,
      λ ids counted. record {
        table = grows;
        terms =
            let many = count_of ids (length (trees_in own)) counted in
            let few = count_of g.ids (length (trees_in g.table)) g.counted in
            let same = ap length g.trees in
            counted_longer 0 g.ids ids (g.counted ∙ ap (range_with_len 0) (sym few)) (counted ∙ ap (range_with_len 0) (sym many))
            (omega (arith, many, few, same));
        given = λ k f there. (k, there);
      },
    )

-- all facts of a node are sorted
pub node_sorted : (table : TableValue) (given : List Assertion) (n : FactBase) → IsFactBase table given n →
    AreFormsSorted (sorts_in n.terms.own) (assertions_in (sorts_in n.terms.own) (trees_in n.terms.own) (all_numbered n.facts.items))
node_sorted table given n is =
    let all = sorted_with (sorts_in table) (given ++ Yes ∷ []) (forms_append (sorts_in table) given (Yes ∷ []) is.sorted (tt, tt)) in
    subst (λ (s : Sorts). AreFormsSorted s (assertions_in s (trees_in n.terms.own) (all_numbered n.facts.items))) (sym is.shared.sorts)
    (subst (AreFormsSorted (sorts_in table)) (sym is.facts) all)

-- its terms are those of its facts
pub node_named : (table : TableValue) (given : List Assertion) (n : FactBase) → IsFactBase table given n →
    AreNamed (trees_in n.terms.own) (assertions_in (sorts_in n.terms.own) (trees_in n.terms.own) (all_numbered n.facts.items))
node_named table given n is =
    let all = ap (λ (s : Sorts). assertions_in s (trees_in n.terms.own) (all_numbered n.facts.items)) is.shared.sorts ∙ is.facts in
    named_root (trees_in n.terms.own) (assertions_in (sorts_in n.terms.own) (trees_in n.terms.own) (all_numbered n.facts.items))
    (is.shared.own ∙ sym is.unread ∙ ap terms_of (sym all))

-- what is found of the facts of a node is noted
pub node_inconsistent : (table : TableValue) (given : List Assertion) (n m : FactBase) → m.terms ≡ n.terms → m.forms ≡ n.forms → m.facts ≡ n.facts →
    m.place ≡ n.place → ((v : ClassesValue) → IsFrom v n.base → IsFrom v m.base) →
    IfSome m.inconsistent (IsInconsistent (sorts_in n.terms.own) (trees_in n.terms.own) (given ++ Yes ∷ [])) → IsFactBase table given n → IsFactBase table given m
node_inconsistent table given n m terms forms facts place later told is =
    let first = with_formulas (room_for_goal given) [] in
    let one = subst (λ (s : Sorts). IfSome m.inconsistent (IsInconsistent s (trees_in n.terms.own) (given ++ Yes ∷ []))) is.shared.sorts told in
    let two = subst (λ (ts : List Tree). IfSome m.inconsistent (IsInconsistent (sorts_in table) ts (given ++ Yes ∷ []))) is.shared.own one in
    let g = is.grounded in
    inconsistent_with terms forms facts place two
  where
    inconsistent_with : m.terms ≡ n.terms → m.forms ≡ n.forms → m.facts ≡ n.facts → m.place ≡ n.place →
        IfSome m.inconsistent (IsInconsistent (sorts_in table) (with_formulas (room_for_goal given) []) (given ++ Yes ∷ [])) → IsFactBase table given m
    inconsistent_with terms forms facts place two =
        let g = is.grounded in
        let own = ap (λ s. s.own) terms in
        record {
          shared = subst (λ s. AreShared table (with_formulas (room_for_goal given) []) s) (sym terms) is.shared;
          forms =
              subst (λ (o : TableValue). AreAllForms (trees_in o) m.forms.items) (sym own)
              (subst (λ x. AreAllForms (trees_in n.terms.own) x.items) (sym forms) is.forms);
          unread = is.unread;
          facts =
              ap (λ (o : TableValue). assertions_in (sorts_in table) (trees_in o) (all_numbered m.facts.items)) own
              ∙ ap (λ x. assertions_in (sorts_in table) (trees_in n.terms.own) (all_numbered x.items)) facts ∙ is.facts;
          within =
              subst (λ (o : TableValue). AreFormulasWithin (length (trees_in o)) (all_numbered m.facts.items)) (sym own)
              (subst (λ x. AreFormulasWithin (length (trees_in n.terms.own)) (all_numbered x.items)) (sym facts) is.within);
          place = place ∙ is.place;
          sorted = is.sorted;
          grounded = record {
            table = g.table;
            sorts = ap (λ (o : TableValue). sorts_in o) own ∙ g.sorts;
            codes = ap (λ (o : TableValue). codes_in o) own ∙ g.codes;
            trees = ap (λ (o : TableValue). trees_in o) own ∙ g.trees;
            ids = g.ids;
            whole = g.whole;
            counted = g.counted;
            ground =
                subst (λ x. IsFrom (classes_by g.table g.ids x.items) m.base) (sym facts)
                (later (classes_by g.table g.ids n.facts.items) g.ground);
          };
          inconsistent = two;
        }

-- the branch of a goal has the terms and the facts of its node
pub goal_below : (table : TableValue) (given : List Assertion) (form : Assertion) (n : FactBase) → IsAtGoal table given form n →
    (sorts : Sorts) → sorts ≡ sorts_in table →
    IsBelow (with_formulas (room_for_goal given) []) (trees_in n.terms.own) (with_parts (given ++ Yes ∷ []))
    (assertions_in sorts (trees_in n.terms.own) (all_numbered n.facts.items))
goal_below table given form n at sorts same = record {
  longer = (at.more, at.shared.own);
  still =
      let all = ap (λ (s : Sorts). assertions_in s (trees_in n.terms.own) (all_numbered n.facts.items)) same ∙ at.facts in
      λ k f there. subst (λ (fs : List Assertion). (f ≡ Yes) ⊎ ((m : ℕ) × (slice_get fs m ≡ Some f))) (sym all)
      (parts_among given form k f there);
}

-- where the visit of a branch closes it, so does the walk
pub visit_walks : (sorts : Sorts) (terms : List Tree) (reach : Reach) (n : ℕ) (facts : List Assertion) → 1 ≤ reach.steps →
    by_classes (walk_from sorts terms reach 1000) reach (seen_by sorts terms facts) 1 ≡ Closes n →
    walk_from sorts terms reach 1001 0 facts ≡ Closes n
visit_walks sorts terms reach n facts some visit =
    counted_on reach.steps 0 (by_classes (walk_from sorts terms reach 1000) reach (seen_by sorts terms facts)) (omega (arith, some)) ∙ visit

-- a branch that is closed by its classes closes at once
pub closed_walks : (go : ℕ → List Assertion → Walked) (reach : Reach) (b : Seen) → is_closed b ≡ true → by_classes go reach b 1 ≡ Closes 1
closed_walks go reach b closed = closed_told go reach 1 b (sym closed)

-- a branch whose forms come to a contradiction closes with its count
pub sums_walk : (go : ℕ → List Assertion → Walked) (reach : Reach) (n : ℕ) (b : Seen) → is_closed b ≡ false →
    ((next : ℕ → Walked) → by_forms reach.steps 1 (length b.terms) (forms_of b) next ≡ Closes n) → by_classes go reach b 1 ≡ Closes n
sums_walk go reach n b not_closed sums =
    open_told go reach 1 b (sym not_closed) ∙ sums (by_parts go (by_no_split reach b) b.facts (split_of b))

-- a branch whose forms come to a contradiction closes, by its classes or with its count
pub closes_either : (go : ℕ → List Assertion → Walked) (reach : Reach) (count : ℕ) (b : Seen) →
    ((next : ℕ → Walked) → by_forms reach.steps 1 (length b.terms) (forms_of b) next ≡ Closes count) →
    (n : ℕ) × (by_classes go reach b 1 ≡ Closes n)
closes_either go reach count b sums =
    ⊎_elim (λ (e : is_closed b ≡ true). (1, closed_walks go reach b e))
    (λ (e : is_closed b ≡ false). (count, sums_walk go reach count b e sums))
    (cases_Bool (is_closed b))

-- a contradiction of forms is met over more terms, too
pub sums_later : (steps n : ℕ) (first trees : List Tree) (forms : Outcome (List (Linear ℕ))) → IsLonger first trees →
    ((next : ℕ → Walked) → by_forms steps 1 (length first) forms next ≡ Closes n) →
    (next : ℕ → Walked) → by_forms steps 1 (length trees) forms next ≡ Closes n
sums_later steps n first trees forms longer sums next =
    let long : length trees ≡ length first + length longer.0 = ap length longer.1 ∙ length-append first longer.0 in
    ap (λ (k : ℕ). by_forms steps 1 k forms next) long
    ∙ more_atoms steps 1 (length first) (length longer.0) n forms sums next

-- a branch that is closed stays so
pub closed_below : (sorts : Sorts) (first trees : List Tree) (facts others : List Assertion) → IsBelow first trees facts others →
    is_closed (seen_by sorts first facts) ≡ true → is_closed (seen_by sorts trees others) ≡ true
closed_below sorts first trees facts others below closed =
    ap (λ (ts : List Tree). is_closed (seen_by sorts ts others)) below.longer.1
    ∙ closed_more sorts first below.longer.0 facts others below.still closed

-- terms of a table are the first of a longer one
pub first_terms : (first trees : List Tree) (ids : List TermId) → IsLonger first trees → numbers_of ids ≡ range_with_len 0 (length first) →
    AreTermsOf trees ids first
first_terms first trees ids longer counted =
    let whole = all_whole first ids (length first) counted refl in
    record {
      trees_are = same_grown first trees longer (numbers_of ids) whole.below ∙ whole.trees_are;
      below = below_grown first trees longer (numbers_of ids) whole.below;
    }

-- forms with the same parts, constants and kinds are one
pub same_linear : (f g : Linear ℕ) → f.parts ≡ g.parts → f.constant ≡ g.constant → f.kind ≡ g.kind → f ≡ g
same_linear f g parts constant kind =
    ap (λ (ps : List (ℕ × ℤ)). let h : Linear ℕ = record { parts = ps; constant = f.constant; kind = f.kind } in h) parts
    ∙ ap (λ (z : ℤ). let h : Linear ℕ = record { parts = g.parts; constant = z; kind = f.kind } in h) constant
    ∙ ap (λ (k : Kind). let h : Linear ℕ = record { parts = g.parts; constant = g.constant; kind = k } in h) kind

-- lists are the same up to one place more
pub same_longer : {A : Type 0} (xs ys : List A) (i : ℕ) (x y : A) → i < length xs → i < length ys → take i xs ≡ take i ys →
    x ≡ get_or xs i x → y ≡ get_or ys i y → x ≡ y → take (i + 1) xs ≡ take (i + 1) ys
same_longer {A} xs ys i x y first second before at_first at_second same =
    ap (λ (k : ℕ). take k xs) (add-one i)
    ∙ take-suc xs i x first
    ∙ ap (λ (z : A). take i xs ++ z ∷ []) (sym at_first ∙ same ∙ at_second)
    ∙ ap (λ (zs : List A). zs ++ get_or ys i y ∷ []) before
    ∙ sym (take-suc ys i y second)
    ∙ ap (λ (k : ℕ). take k ys) (sym (add-one i))

-- facts can't hold together by their forms
pub inconsistent_by_forms : (steps count atoms : ℕ) (o : Outcome (List (Linear ℕ))) (fs : List (Linear ℕ)) → o ≡ Fits fs →
    ((next : ℕ → Walked) → by_forms steps 1 atoms o next ≡ Closes count) →
    (o ≡ Fits fs) × ((next : ℕ → Walked) → by_forms steps 1 atoms (Fits fs) next ≡ Closes count)
inconsistent_by_forms steps count atoms o fs is sums =
    (is, λ next. ap (λ (p : Outcome (List (Linear ℕ))). by_forms steps 1 atoms p next) (sym is) ∙ sums next)

-- a certificate of facts closes the branch that has another in the place of what always holds, over more terms
pub closes_on : (sorts : Sorts) (first trees : List Tree) (given : List Assertion) (f : Assertion) (old new : CertTree) →
    ClosesIn sorts first (given ++ Yes ∷ []) 1 old → NamesWhatItReads (certificate_in first old) →
    certificate_in trees new ≡ certificate_in first old →
    AreLinesWithin (length trees) (lines_of new) → ClosesIn sorts trees (given ++ f ∷ []) 1001 new
closes_on sorts first trees given f old new closes named same within =
    let is = closes_in_replaced sorts first given f 1 old named closes in
    let few = is.splits in
    let splits = ap splits_above same in
    record {
      refutes = subst (λ (c : Certificate). Refutes sorts (as_facts (given ++ f ∷ [])) c) (sym same) is.refutes;
      within = within;
      splits = omega (arith, few, splits);
    }

-- what is so in any case is so after `Ok`
pub on_ok_from : {T E P : Type 0} (r : Result T E) → P → OnOk r P
on_ok_from (Ok x) p = p
on_ok_from (Err e) p = tt

-- where so many elements stand at the front of a list, it has as many
pub front_fits : {A : Type 0} (k : ℕ) (xs : List A) → length (take k xs) ≡ k → k ≤ length xs
front_fits k xs same =
    let both = length-append (take k xs) (drop k xs) in
    let all = ap length (take-append-drop k xs) in
    omega (arith, same, both, all)
