-- By what was made for each copy.
use Rattle.sm_plan.proofs.Imports.{◌≡◌, Copy, of_copy, front, rest_code, Continuation}
use Rattle.sm_plan.proofs.EachMade.{each_made}
use Rattle.sm_plan.proofs.blocks.fronts.Goals as goal

pub returns : goal.returns
returns c =
    each_made (λ (d : Copy) (r : Continuation). rest_code r ≡ front (of_copy c.args.counts.now d) (rest_code (of_copy c.args.rests.now d)))
    c.front.result c.front-2.result c.front-3.result c.front-4.result
    c.all_made.result c.all_made.ensures c.front.ensures c.front-2.ensures c.front-3.ensures c.front-4.ensures
