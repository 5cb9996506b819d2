-- The facts are given of terms of the table, all at once.
use Rattle.sm_term.specs.Tables.{trees_in}
use Rattle.sm_certify.proofs.GivenLemmas.{whole_before, given_of_terms, given_all, seen_by_classes}
use Rattle.sm_certify.proofs.classes.classes_of.Goals as goal

pub of-requires-clause-forms : goal.of-requires-clause-forms
of-requires-clause-forms c = c.requires.forms.each

pub of-requires-clause-counted : goal.of-requires-clause-counted
of-requires-clause-counted c = c.requires.forms.counted

pub of-requires-clause-before : goal.of-requires-clause-before
of-requires-clause-before c = whole_before (trees_in c.args.table.now) c.args.terms.now.list.items c.requires.whole

pub of-requires-clause-given : goal.of-requires-clause-given
of-requires-clause-given c =
    given_of_terms c.args.table.now c.args.terms.now.list.items c.requires.whole c.args.facts.now c.requires.within c.requires.sorted
    c.in_ok-given.given.items c.in_ok-given.ensures

pub returns-clause-value : goal.returns-clause-value
returns-clause-value c =
    given_all c.args.table.now c.args.terms.now.list.items c.args.facts.now c.in_ok-given.given.items c.in_ok-given.ensures
    c.in_ok-classes.classes c.in_ok-classes.ensures

pub returns-clause-seen : goal.returns-clause-seen
returns-clause-seen c =
    let all = given_all c.args.table.now c.args.terms.now.list.items c.args.facts.now c.in_ok-given.given.items c.in_ok-given.ensures
    c.in_ok-classes.classes c.in_ok-classes.ensures in
    seen_by_classes c.args.table.now c.args.terms.now.list.items c.args.facts.now c.requires.whole c.in_ok-classes.classes all
