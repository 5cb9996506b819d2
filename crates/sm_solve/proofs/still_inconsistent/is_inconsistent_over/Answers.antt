-- By labels of equal terms the contrary can't hold, or else they are exact and the forms are the known ones.
use Rattle.sm_solve.proofs.Imports.{◌≡◌, ℕ, true, Option, IfSome, List, length, take, slice_set, refl, sym, ap, subst, ◌∙◌, IfOk-weaker, Outcome, Fits, Linear, trees_in, sorts_in, TermId, are_apart, are_equal, setting_of, GivenFact, given_from, classes_by, branch_of, Seen, AreLabels, seen_in, Closes, by_forms, forms_of, by_classes, whole_before, given_of_terms, seen_by_classes}
use Rattle.std.proofs.Common.{Vec, Global}
use Rattle.sm_term.specs.declared.formula.Formula.TheVariants as tree
use Rattle.sm_cc.specs.AddedTerms.{AddsOnly, AreEqualByLabels}
use Rattle.sm_solve.proofs.AtGoalLemmas.{count_of}
use Rattle.sm_solve.proofs.BranchLabelsLemmas.{labels_of_branch}
use Rattle.sm_solve.proofs.InconsistentLemmas.{closed_walks, closes_either}
use Rattle.sm_solve.proofs.still_inconsistent.is_inconsistent_over.Goals as goal

-- pairs of terms
abbrev Pairs : Type 0
Pairs = Vec (TermId × TermId) Global

pub behind-requires-clause-before : goal.behind-requires-clause-before
behind-requires-clause-before c =
    whole_before (trees_in c.args.branch.now.table.now) c.in_ok-terms.terms.list.items c.in_ok-terms.ensures.whole

pub returns-then-is_refuted_by-clause-closes : goal.returns-then-is_refuted_by-clause-closes
returns-then-is_refuted_by-clause-closes c = λ reach count go sums same.
    let table = c.args.branch.now.table.now in
    let facts = c.args.branch.now.facts.now in
    let ids = c.in_ok-terms.terms.list.items in
    let whole = c.in_ok-terms.ensures.whole in
    let led = c.requires.led in
    let given = given_from 0 facts in
    let w = classes_by table ids facts in
    let two = given_of_terms table ids whole facts c.requires.within c.requires.sorted given refl in
    let equal = c.in_ok-behind.ensures.equal led.0 given led.1 two (led.3 ids c.in_ok-terms.ensures.counted) in
    let labels = subst (AreEqualByLabels w) (sym c.deref-2.ensures.value) equal in (
      1,
      closed_walks go reach (branch_of table facts)
          (c.is_refuted_by.ensures table ids whole c.requires.within labels c.if-is_refuted_by.true),
    )

pub are_forms-requires-clause-counted : goal.are_forms-requires-clause-counted
are_forms-requires-clause-counted c =
    let table = c.args.branch.now.table.now in
    let facts = c.args.branch.now.facts.now in
    let ids = c.in_ok-terms.terms.list.items in
    let whole = c.in_ok-terms.ensures.whole in
    let led = c.requires.led in
    let given = given_from 0 facts in
    let two = given_of_terms table ids whole facts c.requires.within c.requires.sorted given refl in
    let equal = c.in_ok-behind.ensures.equal led.0 given led.1 two (led.3 ids c.in_ok-terms.ensures.counted) in
    ap length c.deref-3.ensures.value ∙ equal.count ∙ count_of ids (length (trees_in table)) c.in_ok-terms.ensures.counted

pub returns-clause-closes : goal.returns-clause-closes
returns-clause-closes c = λ reach count go sums.
    let table = c.args.branch.now.table.now in
    let facts = c.args.branch.now.facts.now in
    let ids = c.in_ok-terms.terms.list.items in
    let whole = c.in_ok-terms.ensures.whole in
    let led = c.requires.led in
    let given = given_from 0 facts in
    let w = classes_by table ids facts in
    let two = given_of_terms table ids whole facts c.requires.within c.requires.sorted given refl in
    let trees = trees_in table in
    let adds : AddsOnly (given_from 0 (slice_set (take c.args.from facts) c.args.branch.now.place tree.Yes)) c.in-Some.pairs.items given =
    subst (λ (o : Option Pairs). IfSome o (λ (ps : Pairs).
    AddsOnly (given_from 0 (slice_set (take c.args.from facts) c.args.branch.now.place tree.Yes)) ps.items given)) c.in-Some.is c.in_ok-pairs.ensures in
    let more = subst (λ (ps : List (TermId × TermId)). AddsOnly led.0.given ps given) (sym c.deref.ensures.value)
    (subst (λ (gs : List GivenFact). AddsOnly gs c.in-Some.pairs.items given) (sym led.2) adds) in
    let exact = c.in_ok-behind.ensures.exact led.0 given led.1 two (led.3 ids c.in_ok-terms.ensures.counted) more c.if-not-behind.false in
    let equal = are_equal (setting_of w) in
    let labels = subst (AreLabels trees equal) (sym c.deref-3.ensures.value)
    (labels_of_branch table ids facts whole w refl c.in_ok-behind.behind.labels.items exact) in
    let seen = seen_by_classes table ids facts whole w refl in
    let s : Seen = seen_in (sorts_in table) trees trees facts equal (are_apart (setting_of w) equal) in
    let b = branch_of table facts in
    IfOk-weaker c.are_forms.result (λ r. r ≡ true → forms_of s ≡ Fits c.args.known.now)
    (λ r. r ≡ true → (n : ℕ) × (by_classes go reach b 1 ≡ Closes n))
    (λ r are same. closes_either go reach count b
    (λ next. ap (λ (o : Outcome (List (Linear ℕ))). by_forms reach.steps 1 (length trees) o next) (ap forms_of (sym seen) ∙ are same) ∙ sums next))
    (c.are_forms.ensures equal (are_apart (setting_of w) equal) labels)
