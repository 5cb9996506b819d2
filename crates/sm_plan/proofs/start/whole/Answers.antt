-- By what was made for each copy.
use Rattle.sm_plan.proofs.Imports.{◌≡◌, Copy, of_copy, code_of, rest_code, Continuation}
use Rattle.sm_plan.proofs.EachMade.{each_made}
use Rattle.sm_plan.proofs.start.whole.Goals as goal

pub returns : goal.returns
returns c =
    each_made (λ (d : Copy) (r : Continuation). rest_code r ≡ code_of (of_copy c.args.programs.now d))
    c.of.result c.of-2.result c.of-3.result c.of-4.result
    c.all_made.result c.all_made.ensures c.of.ensures c.of-2.ensures c.of-3.ensures c.of-4.ensures
