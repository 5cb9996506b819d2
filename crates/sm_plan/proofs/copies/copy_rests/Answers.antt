-- By what was made for each copy.
use Rattle.sm_plan.proofs.Imports.{◌≡◌, Copy, of_copy, rest_code, Continuation}
use Rattle.sm_plan.proofs.EachMade.{each_made}
use Rattle.sm_plan.proofs.copies.copy_rests.Goals as goal

pub returns : goal.returns
returns c =
    each_made (λ (d : Copy) (r : Continuation). rest_code r ≡ rest_code (of_copy c.args.rests.now d))
    c.copy.result c.copy-2.result c.copy-3.result c.copy-4.result
    c.all_made.result c.all_made.ensures c.copy.ensures c.copy-2.ensures c.copy-3.ensures c.copy-4.ensures
