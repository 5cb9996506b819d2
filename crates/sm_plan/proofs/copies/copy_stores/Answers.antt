-- By what was made for each copy.
use Rattle.sm_plan.proofs.Imports.{◌≡◌, Copy, of_copy, SymStore}
use Rattle.sm_plan.proofs.EachMade.{each_made}
use Rattle.sm_plan.proofs.copies.copy_stores.Goals as goal

pub returns : goal.returns
returns c =
    each_made (λ (d : Copy) (s : SymStore). s.list.items ≡ (of_copy c.args.stores.now d).list.items)
    c.copy_store.result c.copy_store-2.result c.copy_store-3.result c.copy_store-4.result
    c.all_made.result c.all_made.ensures c.copy_store.ensures c.copy_store-2.ensures c.copy_store-3.ensures c.copy_store-4.ensures
