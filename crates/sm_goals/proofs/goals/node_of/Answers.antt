-- The node of the facts is one over the table that has grown.
use Rattle.sm_goals.proofs.Imports.{List, length, sym, subst, Formula, AreFormsSorted, trees_in, sorts_in, all_numbered, assertions_in, AreFormulasWithin}
use Rattle.sm_goals.proofs.FormsLemmas.{forms_within, forms_sorted}
use Rattle.sm_goals.proofs.NodesLemmas.{node_over}
use Rattle.sm_goals.proofs.goals.node_of.Goals as goal

pub of-requires-clause-within : goal.of-requires-clause-within
of-requires-clause-within c =
    let sorts = sorts_in c.args.table.now in let trees = trees_in c.args.table.now in
    subst (λ (fs : List Formula). AreFormulasWithin (length trees) (all_numbered fs)) (sym c.deref.ensures.value)
    (forms_within sorts trees c.args.facts.now.list.items c.requires)

pub of-requires-clause-sorted : goal.of-requires-clause-sorted
of-requires-clause-sorted c =
    let sorts = sorts_in c.args.table.now in let trees = trees_in c.args.table.now in
    subst (λ (fs : List Formula). AreFormsSorted sorts (assertions_in sorts trees (all_numbered fs))) (sym c.deref.ensures.value)
    (forms_sorted sorts trees c.args.facts.now.list.items c.requires)

pub returns-clause-node : goal.returns-clause-node
returns-clause-node c =
    node_over c.args.table.now c.of.new.table c.in_ok-node.ensures.grows c.args.facts.now.list.items c.requires
    c.deref.result.now c.deref.ensures.value c.in_ok-node.node c.in_ok-node.ensures.node
