use Rattle.sm_term.proofs.Imports.{[], length, map, sym, ap, subst, ◌∙◌, block_of, trees_in, sorts_in, codes_in, AreApart, AreTreesSorted, AreCodesApart, AreCodesSorted}
use Rattle.sm_term.proofs.TreesLemmas.{length-trees}
use Rattle.sm_term.proofs.table.TermTable.len.Goals as goal

pub returns-clause-len : goal.returns-clause-len
returns-clause-len c =
    c.len.ensures ∙ sym (length-trees (codes_in (record { declared = []; bodies = map block_of c.self.inside.bodies; terms = [] })) [] c.self.inside.terms)
    ∙ ap (λ v. length (trees_in v)) c.self.view_is

pub returns-clause-apart : goal.returns-clause-apart
returns-clause-apart c = subst (λ v. AreApart (trees_in v)) c.self.view_is c.self.invariant.1.apart

pub returns-clause-sorted : goal.returns-clause-sorted
returns-clause-sorted c = subst (λ v. AreTreesSorted (sorts_in v) (trees_in v)) c.self.view_is c.self.invariant.1.sorted

pub returns-clause-codes_apart : goal.returns-clause-codes_apart
returns-clause-codes_apart c = subst (λ v. AreCodesApart (codes_in v)) c.self.view_is c.self.invariant.1.codes_apart

pub returns-clause-codes_sorted : goal.returns-clause-codes_sorted
returns-clause-codes_sorted c = subst (λ v. AreCodesSorted (sorts_in v) (codes_in v)) c.self.view_is c.self.invariant.1.codes_sorted
