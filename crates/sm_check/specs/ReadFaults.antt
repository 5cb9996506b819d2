-- Cited by public clauses: what the count of read faults says of an answer to a proof file. With
-- any other answer than a fault it is as it was, but for one: lines that are set aside are taken
-- once a read failed, and one of them that is bad is the answer.
use Rattle.std.specs.Prelude.{◌≡◌, ◌≤◌, ◌⊎◌, ℕ, Result, Ok, Err, IsErrOf}
use Rattle.sm_io.specs.Causes.{Rose}
use Rattle.sm_io.specs.Files.{Known, absent}
use Rattle.sm_check.specs.declared.verifying.Checked.{Checked}
use Rattle.sm_check.specs.declared.verifying.Checked.TheVariants.{Pass, Rejected}
use Rattle.sm_check.specs.declared.verifying.CheckError.{CheckError}
use Rattle.sm_check.specs.declared.verifying.CheckError.TheVariants.{ReadFault}

-- the answer names a bad line
abbrev pub NamesBadLine : Result Checked CheckError → Type 0
NamesBadLine (Ok Pass) = ⊥
NamesBadLine (Ok (Rejected line word)) = Unit {0}
NamesBadLine (Err e) = ⊥

-- a fault only where the count rose or no file has the name, and the count the same where the
-- answer is neither a fault nor names a bad line
pub record HasFaultCause (file : Known) (before now : ℕ) (result : Result Checked CheckError)
    : Type 0 where
  pub later : before ≤ now
  pub rose : IsErrOf result ReadFault → Rose before now ⊎ ((file ≡ absent) × (now ≡ before))
  pub quiet : (IsErrOf result ReadFault → ⊥) → (NamesBadLine result → ⊥) → now ≡ before
