-- Two ways, or a refusal.
use Rattle.sm_check.proofs.Imports.{◌≡◌, Option, List, ◌∷◌, [], sym, subst, Some, ◌∙◌, trees_in, sorts_in, BranchFact, ways, adds, line_in, Fact, arithmetic_sorted, ways_are_sorted_from, SplitsInto, line_sorted, AreWaitingReady, PerCopy, SymStore, AreStoresReady}
use Rattle.sm_check.specs.declared.pending.Waiting.TheVariants as waits
use Rattle.sm_check.proofs.PendingLemmas.{stand_long, ready_append}
use Rattle.sm_check.proofs.CertsLemmas.{two_go}
use Rattle.sm_check.proofs.certs.split.Goals as goal

pub returns-in_err-push-in-Some-2-clause-later : goal.returns-in_err-push-in-Some-2-clause-later
returns-in_err-push-in-Some-2-clause-later c stores all =
    let trees = trees_in c.args.table.now in
    let sorts = sorts_in c.args.table.now in
    let branch = c.args.branch in
    let other = c.in_ok-other-in-Some.other in
    subst (AreWaitingReady sorts trees) (sym c.in_ok-push-in-Some.ensures.items)
    (ready_append sorts trees c.args.waiting.now.items
    (waits.Branch c.facts_on.result c.in-Some.second other branch.splits ∷ []) all
    (subst (λ (s : PerCopy SymStore). AreStoresReady sorts trees s) (sym c.in_ok-other-in-Some.ensures.cases) stores, tt))

pub returns-in-Some-clause-later : goal.returns-in-Some-clause-later
returns-in-Some-clause-later c stores all =
    let trees = trees_in c.args.table.now in
    let sorts = sorts_in c.args.table.now in
    let branch = c.args.branch in
    let other = c.in_ok-other-in-Some.other in
    subst (AreWaitingReady sorts trees) (sym c.in_ok-push-in-Some.ensures.items)
    (ready_append sorts trees c.args.waiting.now.items
    (waits.Branch c.facts_on.result c.in-Some.second other branch.splits ∷ []) all
    (subst (λ (s : PerCopy SymStore). AreStoresReady sorts trees s) (sym c.in_ok-other-in-Some.ensures.cases) stores, tt))

pub returns-in-Some-clause-tells : goal.returns-in-Some-clause-tells
returns-in-Some-clause-tells c facts rest all sorted wait =
    let trees = trees_in c.args.table.now in
    let sorts = sorts_in c.args.table.now in
    let branch = c.args.branch in
    let l = line_in trees c.args.line.now in
    let w = ways sorts facts l in
    let start = c.args.path.now.list.items in
    let path = c.push-in-Some.new.self.items in
    let old = c.args.waiting.now.items in
    let new = c.push.new.self.items in
    let f = c.in-Some.first in
    let g = c.in-Some.second in
    let goes =
    subst (λ (o : Option (Fact × Fact)). SplitsInto sorts trees o w) c.in-Some.is (c.in_ok-first.ensures facts (adds sorts facts l) all) in
    two_go sorts trees start path facts old new branch.stores branch.splits c.args.head rest all sorted wait w c.facts_on.result f g
    c.in_ok-other-in-Some.other goes
    (λ (to : List (List BranchFact)) (e : w ≡ Some to).
    ways_are_sorted_from arithmetic_sorted sorts facts l to sorted
    (line_sorted sorts trees c.args.line.now c.len.ensures.sorted c.requires.within) e)
    (c.facts_on.ensures ∙ stand_long sorts trees start facts all) c.in_ok-other-in-Some.ensures.cases c.in_ok-push-in-Some-2.ensures.items
    c.in_ok-push-in-Some.ensures.items
