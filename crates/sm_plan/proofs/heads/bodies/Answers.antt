-- By what was made for each copy.
use Rattle.sm_plan.proofs.Imports.{◌≡◌, if◌then◌else◌, Copy, End, of_copy, has, set_of, loop_body, rest_code, Continuation}
use Rattle.sm_plan.proofs.EachMade.{each_made}
use Rattle.sm_plan.proofs.heads.bodies.Goals as goal

pub returns : goal.returns
returns c =
    each_made (λ (d : Copy) (r : Continuation).
    rest_code r ≡ (if has (set_of c.args.mask) d then loop_body (rest_code (of_copy c.args.rests.now d)) else End))
    c.body_in.result c.body_in-2.result c.body_in-3.result c.body_in-4.result
    c.all_made.result c.all_made.ensures c.body_in.ensures c.body_in-2.ensures c.body_in-3.ensures c.body_in-4.ensures
