-- The facts are the same over the table that has grown.
use Rattle.sm_list.proofs.Imports.{sym, ap, ◌∙◌, terms_of, all_numbered}
use Rattle.sm_list.proofs.OwnLemmas.{facts_grown, facts_within_grown}
use Rattle.sm_list.proofs.own.listed_branch.Goals as goal

pub over_own-requires-clause-facts : goal.over_own-requires-clause-facts
over_own-requires-clause-facts c =
    facts_within_grown c.args.table.now c.terms_of_formulas.new.table c.terms_of_formulas.ensures.grows (all_numbered c.args.facts.now)
    c.requires

pub over_own-requires-clause-terms : goal.over_own-requires-clause-terms
over_own-requires-clause-terms c =
    let old = c.args.table.now in
    let facts = all_numbered c.args.facts.now in
    let same = facts_grown old c.terms_of_formulas.new.table c.terms_of_formulas.ensures.grows facts c.requires in
    c.in_ok-terms.ensures.terms
    ∙ ap terms_of (sym same)

pub returns-clause-terms : goal.returns-clause-terms
returns-clause-terms c =
    let old = c.args.table.now in
    let facts = all_numbered c.args.facts.now in
    let same = facts_grown old c.terms_of_formulas.new.table c.terms_of_formulas.ensures.grows facts c.requires in
    c.in_ok-branch.ensures.terms
    ∙ ap terms_of same

pub returns-clause-facts : goal.returns-clause-facts
returns-clause-facts c =
    let old = c.args.table.now in
    let facts = all_numbered c.args.facts.now in
    let same = facts_grown old c.terms_of_formulas.new.table c.terms_of_formulas.ensures.grows facts c.requires in
    c.in_ok-branch.ensures.facts
    ∙ same
