use Rattle.sm_syntax.proofs.Imports.{◌≡◌, [], drop, nat_eq, get, first_output_fault, outputs_of}
use Rattle.sm_syntax.proofs.Repeats.{name_numbers}
use Rattle.sm_syntax.proofs.checks.check_outputs.Given as goal

abbrev pub invariant-loop-name : goal.invariant-loop-name
invariant-loop-name l =
    first_output_fault (get nat_eq l.sorts) [] (outputs_of l.outputs) ≡ first_output_fault (get nat_eq l.sorts) l.seen.keys (name_numbers (drop l.name-index l.name-items))
