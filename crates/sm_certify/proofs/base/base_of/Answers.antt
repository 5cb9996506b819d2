-- The facts are given of terms of the table.
use Rattle.sm_certify.proofs.Imports.{IfSome, Option, List, subst, ◌∙◌, trees_in, GivenFact, classes_by}
use Rattle.sm_cc.specs.declared.ground.NumberedBase.{NumberedBase}
use Rattle.sm_cc.specs.BaseClasses.{AreBaseClasses}
use Rattle.sm_certify.proofs.GivenLemmas.{whole_before, given_of_terms}
use Rattle.sm_certify.proofs.base.base_of.Goals as goal

pub of-requires-clause-forms : goal.of-requires-clause-forms
of-requires-clause-forms c = c.requires.forms.each

pub of-requires-clause-counted : goal.of-requires-clause-counted
of-requires-clause-counted c = c.requires.forms.counted

pub of-requires-clause-before : goal.of-requires-clause-before
of-requires-clause-before c = whole_before (trees_in c.args.table.now) c.args.terms.now.list.items c.requires.whole

pub of-requires-clause-given : goal.of-requires-clause-given
of-requires-clause-given c =
    given_of_terms c.args.table.now c.args.terms.now.list.items c.requires.whole c.args.facts.now c.requires.within c.requires.sorted
    c.deref.result.now (c.deref.ensures.value ∙ c.in_ok-given.ensures)

pub returns-in-Some : goal.returns-in-Some
returns-in-Some c =
    let found = subst (λ (o : Option NumberedBase). IfSome o (λ (g : NumberedBase). AreBaseClasses (record {
      table = c.args.table.now;
      terms = c.args.terms.now.list.items;
      given = c.deref.result.now;
    }) g.ground g.numbering)) c.in-Some.is c.in_ok-found.ensures in
    c.boxed_base.ensures (classes_by c.args.table.now c.args.terms.now.list.items c.args.facts.now)
    (subst (λ (gs : List GivenFact). AreBaseClasses (record {
      table = c.args.table.now;
      terms = c.args.terms.now.list.items;
      given = gs;
    }) c.in-Some.found.ground c.in-Some.found.numbering) (c.deref.ensures.value ∙ c.in_ok-given.ensures) found)
