-- The number with which the program ends, for each status, and what a reply says. Public clauses
-- cite it.
use Rattle.std.specs.Prelude.{◌≡◌, ℕ, List}
use Rattle.sm_answers.specs.declared.status.Status.{Status}
use Rattle.sm_answers.specs.declared.status.Status.TheVariants as status

-- the number of a status
abbrev pub status_number : Status → ℕ
status_number status.Accepted = 0
status_number status.Conflict = 1
status_number status.Unknown = 2
status_number status.Refused = 3
status_number status.Usage = 4
status_number status.ReadFault = 5
status_number status.Memory = 6
status_number status.WriteFault = 7
status_number status.SinkFault = 8

-- the reply has this status, with this text
pub record Says (wanted : Status) (line : List ℕ) (status : Status) (text : List ℕ) : Type 0 where
  pub ended : status ≡ wanted
  pub printed : text ≡ line
