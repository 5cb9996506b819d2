-- All terms of the table are listed, and the facts are given of them.
use Rattle.sm_solve.proofs.Imports.{◌∙◌, trees_in, whole_before, given_of_terms}
use Rattle.sm_solve.proofs.grounding.ground_of.Goals as goal

pub of-requires-clause-forms : goal.of-requires-clause-forms
of-requires-clause-forms c = c.requires.forms.each

pub of-requires-clause-counted : goal.of-requires-clause-counted
of-requires-clause-counted c = c.requires.forms.counted

pub of-requires-clause-before : goal.of-requires-clause-before
of-requires-clause-before c = whole_before (trees_in c.args.table.now) c.in_ok-terms.terms.list.items c.in_ok-terms.ensures.whole

pub of-requires-clause-given : goal.of-requires-clause-given
of-requires-clause-given c =
    given_of_terms c.args.table.now c.in_ok-terms.terms.list.items c.in_ok-terms.ensures.whole c.args.facts.now c.requires.within
    c.requires.sorted c.deref.result.now (c.deref.ensures.value ∙ c.in_ok-given.ensures)
