-- How the errors of one call become those of a larger one.
use Rattle.sm_io.specs.declared.error.IoError.{IoError}
use Rattle.sm_io.specs.declared.error.IoError.TheVariants.{Fault as a_fault, Memory as no_memory}
use Rattle.sm_io.specs.declared.error.ReadError.{ReadError}
use Rattle.sm_io.specs.declared.error.ReadError.TheVariants.{Fault, Memory}

-- what a read of a whole file says of the error of one read
abbrev pub read_error_of : IoError → ReadError
read_error_of a_fault = Fault
read_error_of no_memory = Memory
