-- The step that is taken is one of those that were left.
use Rattle.sm_terms.proofs.Imports.{◌≡◌, ◌<◌, ◌+◌, ◌++◌, ◌∷◌, [], List, true, length, nat_eq, sym, subst, ap, ◌∙◌, arith, list_any, trees_in, tree_at, Step, trees_at, AreStepsWithin, cost_of_step, cost_of_steps}
use Rattle.sm_terms.proofs.ListingLemmas.{steps_within-split, cost-append, listed_tells}
use Rattle.sm_terms.proofs.WithTermLemmas.{same_with_term}
use Rattle.sm_terms.proofs.listing.list_term.Goals as goal

pub returns-then-contains-clause-terms : goal.returns-then-contains-clause-terms
returns-then-contains-clause-terms c =
    let trees = trees_in c.args.table.now in
    let keys = c.args.listed.now in
    let n = c.args.t.0 in
    let there : list_any (nat_eq n) keys ≡ true = sym c.contains.ensures ∙ c.if-contains.true in
    let told = sym (listed_tells trees c.len-count.ensures.apart keys c.requires.listed n c.requires.within) ∙ there in
    sym (same_with_term (tree_at trees n) (trees_at trees keys) c.requires.closed told)

pub take_step-requires : goal.take_step-requires
take_step-requires c =
    let count = length (trees_in c.args.table.now) in
    let items : c.loop-step.steps.items ≡ c.pop.new.self.items ++ c.in-Some.step ∷ [] = c.in-Some.ensures.items in
    let all = subst (λ (ss : List Step). AreStepsWithin count ss) items c.loop-step.invariant.within in
    (steps_within-split count c.pop.new.self.items (c.in-Some.step ∷ []) all).1.0

pub loop-step-smaller : goal.loop-step-smaller
loop-step-smaller c =
    let trees = trees_in c.args.table.now in
    let items : c.loop-step.steps.items ≡ c.pop.new.self.items ++ c.in-Some.step ∷ [] = c.in-Some.ensures.items in
    let before = ap (cost_of_steps trees) items ∙ cost-append trees c.pop.new.self.items (c.in-Some.step ∷ []) in
    let less : cost_of_steps trees c.take_step.new.steps.items < cost_of_steps trees c.pop.new.self.items + cost_of_step trees c.in-Some.step =
    c.in_ok-take_step.ensures.less in
    let cost : cost_of_steps trees c.take_step.new.steps.items < cost_of_steps trees c.loop-step.steps.items = omega arith in
    cost
