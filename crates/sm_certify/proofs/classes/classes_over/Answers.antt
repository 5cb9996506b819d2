-- The facts are given of terms of the table, and the classes see what is seen on the branch.
use Rattle.sm_term.specs.Tables.{trees_in}
use Rattle.sm_certify.proofs.GivenLemmas.{whole_before, given_of_terms, given_all, seen_by_classes}
use Rattle.sm_certify.proofs.classes.classes_over.Goals as goal

pub over-requires-clause-forms : goal.over-requires-clause-forms
over-requires-clause-forms c = c.requires.forms.each

pub over-requires-clause-counted : goal.over-requires-clause-counted
over-requires-clause-counted c = c.requires.forms.counted

pub over-requires-clause-before : goal.over-requires-clause-before
over-requires-clause-before c = whole_before (trees_in c.args.table.now) c.args.terms.now.list.items c.requires.whole

pub over-requires-clause-given : goal.over-requires-clause-given
over-requires-clause-given c =
    given_of_terms c.args.table.now c.args.terms.now.list.items c.requires.whole c.args.facts.now c.requires.within c.requires.sorted
    c.in_ok-given.given.items c.in_ok-given.ensures

pub returns-clause-value : goal.returns-clause-value
returns-clause-value c =
    given_all c.args.table.now c.args.terms.now.list.items c.args.facts.now c.in_ok-given.given.items c.in_ok-given.ensures
    c.in_ok-classes.classes c.in_ok-classes.ensures.classes

pub returns-clause-seen : goal.returns-clause-seen
returns-clause-seen c =
    let all = given_all c.args.table.now c.args.terms.now.list.items c.args.facts.now c.in_ok-given.given.items c.in_ok-given.ensures
    c.in_ok-classes.classes c.in_ok-classes.ensures.classes in
    seen_by_classes c.args.table.now c.args.terms.now.list.items c.args.facts.now c.requires.whole c.in_ok-classes.classes all
