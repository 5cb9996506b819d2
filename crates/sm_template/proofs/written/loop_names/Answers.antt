-- By the names that each body writes.
use Rattle.sm_template.proofs.Imports.{Copy, of_copy, set_of, loop_body, rest_code, only_in}
use Rattle.sm_template.proofs.written.loop_names.Goals as goal

pub returns : goal.returns
returns c =
    c.names_written.ensures (only_in (set_of c.args.set) (λ (d : Copy). loop_body (rest_code (of_copy c.args.code.now d))))
    c.in_ok-written.ensures
