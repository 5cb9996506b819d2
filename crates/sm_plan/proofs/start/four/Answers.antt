-- By what was made for each copy.
use Rattle.sm_plan.proofs.Imports.{◌≡◌, Ok, refl, Copy, SymStore}
use Rattle.sm_plan.proofs.EachMade.{each_made}
use Rattle.sm_plan.proofs.start.four.Goals as goal

pub returns : goal.returns
returns c =
    each_made (λ (d : Copy) (s : SymStore). s.list.items ≡ c.args.store.list.items)
    c.copy_store.result c.copy_store-2.result c.copy_store-3.result (Ok c.args.store)
    c.all_made.result c.all_made.ensures c.copy_store.ensures c.copy_store-2.ensures c.copy_store-3.ensures refl
