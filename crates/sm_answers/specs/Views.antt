-- What answers of the checker stand for. Only private clauses cite it.
use Rattle.std.specs.Prelude.{ℕ, List, codes, Result, Ok, Err}
use Rattle.sm_check.specs.Files.{Judged, OverLong, verdict_of}
use Rattle.sm_check.specs.declared.verifying.Checked.{Checked}
use Rattle.sm_check.specs.declared.verifying.CheckError.{CheckError}
use Rattle.sm_check.specs.declared.verifying.CheckError.TheVariants as check_error
use Rattle.sm_answers.specs.Status.{Says}
use Rattle.sm_answers.specs.Verify.{answer_line, answer_status}
use Rattle.sm_answers.specs.declared.status.Status.{Status}
use Rattle.sm_answers.specs.declared.status.Status.TheVariants.{ReadFault}

-- the reply to what the checker answers of a proof's file; want of memory has none
abbrev pub SaysChecked : Result Checked CheckError → Status → List ℕ → Type 0
SaysChecked (Ok c) status text =
    let answer = Judged (verdict_of c) in
    Says (answer_status answer) (answer_line answer) status text
SaysChecked (Err check_error.TooLong) status text =
    Says (answer_status OverLong) (answer_line OverLong) status text
SaysChecked (Err check_error.ReadFault) status text =
    Says ReadFault (codes "ReadFault\n") status text
SaysChecked (Err check_error.Memory) status text = ⊥
