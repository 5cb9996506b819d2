-- Private: the answer to a proof file whose lines stop.
use Rattle.std.specs.Prelude.{Result, Ok, Err}
use Rattle.sm_check.specs.declared.fault.Stopped.{Stopped}
use Rattle.sm_check.specs.declared.fault.Stopped.TheVariants.{Wrong, Memory}
use Rattle.sm_check.specs.declared.verifying.Checked.{Checked}
use Rattle.sm_check.specs.declared.verifying.Checked.TheVariants.{Rejected}
use Rattle.sm_check.specs.declared.verifying.CheckError.{CheckError}
use Rattle.sm_check.specs.declared.verifying.CheckError.TheVariants.{Memory as no_memory}

-- what is answered where lines stop
abbrev pub stopped_answer : Stopped → Result Checked CheckError
stopped_answer (Wrong line word) = Ok (Rejected line word)
stopped_answer Memory = Err no_memory
