-- The copies of the stores are those that are given.
use Rattle.sm_plan.proofs.Imports.{◌≡◌, ◌∙◌, ap, fun_ext, Copy, of_copy, trees_in, sorts_in, renewed, rest_code, stores_in}
use Rattle.sm_plan.proofs.RenewedStores.{store_alike}
use Rattle.sm_plan.proofs.TurnsMade.{same_store_ready, same_store_full}
use Rattle.sm_plan.proofs.renew.renewed_stores.Goals as goal

pub renew_all-requires-clause-ready : goal.renew_all-requires-clause-ready
renew_all-requires-clause-ready c = λ (d : Copy).
    let u = c.args.table.now in
    same_store_ready (sorts_in u) (trees_in u) (of_copy c.args.stores.now d) (of_copy c.in_ok-all.all d) (c.in_ok-all.ensures d)
    (c.requires.ready d)

pub renew_all-requires-clause-full : goal.renew_all-requires-clause-full
renew_all-requires-clause-full c = λ (d : Copy).
    same_store_full (sorts_in c.args.table.now) (of_copy c.args.stores.now d) (of_copy c.in_ok-all.all d) (c.in_ok-all.ensures d)
    (c.requires.full d)

pub returns-clause-made : goal.returns-clause-made
returns-clause-made c =
    let u = c.args.table.now in
    let same : stores_in (trees_in u) c.in_ok-all.all ≡ stores_in (trees_in u) c.args.stores.now =
    fun_ext (λ (d : Copy). store_alike (trees_in u) (of_copy c.in_ok-all.all d) (of_copy c.args.stores.now d) (c.in_ok-all.ensures d)) in
    c.in_ok-renew_all.ensures.made ∙ ap (renewed c.args.number (λ (d : Copy). rest_code (of_copy c.args.done.now d))) same
