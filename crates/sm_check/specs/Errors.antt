-- How the error of a shelf becomes one of checking a file.
use Rattle.sm_io.specs.declared.error.IoError.{IoError}
use Rattle.sm_io.specs.declared.error.IoError.TheVariants.{Fault as a_fault, Memory as no_memory}
use Rattle.sm_check.specs.declared.verifying.CheckError.{CheckError}
use Rattle.sm_check.specs.declared.verifying.CheckError.TheVariants.{ReadFault, Memory}

-- what checking a file says of the error of one read
abbrev pub check_error_of : IoError → CheckError
check_error_of a_fault = ReadFault
check_error_of no_memory = Memory
