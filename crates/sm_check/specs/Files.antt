-- Cited by public clauses: the answer to a proof file, which may have so many bytes.
use Rattle.std.specs.Prelude.{◌≡◌, ℕ, nat_le, if◌then◌else◌, length, take, Result, Ok, Err, List}
use Rattle.sm_proof.specs.Verdicts as proof
use Rattle.sm_proof.specs.Verdicts.{Subject, Unopened, Verdict, verdict, Reached, Refused, Before, reached, lines_in}
pub use Rattle.sm_check.specs.declared.verifying.Checked.{Checked}
pub use Rattle.sm_check.specs.declared.verifying.Checked.TheVariants.{Pass, Rejected}
pub use Rattle.sm_check.specs.declared.verifying.CheckError.{CheckError}
pub use Rattle.sm_check.specs.declared.verifying.CheckError.TheVariants.{Memory, ReadFault, TooLong}

-- the verdict on a file, or that it has too many bytes
pub data FileAnswer : Type 0 where
  Judged : Verdict → FileAnswer
  OverLong : FileAnswer

-- of a file that has too many bytes: the first bad line that ends within the limit, if there is one
abbrev pub cut_answer : Reached → FileAnswer
cut_answer (Refused n w) = Judged (proof.Rejected n w)
cut_answer (Before n standing) = OverLong

-- the answer to the bytes of a file
abbrev pub file_answer : ℕ → Subject → List ℕ → FileAnswer
file_answer limit s bytes =
    if nat_le (length bytes) limit then Judged (verdict s bytes)
    else cut_answer (reached s 1 Unopened (lines_in (take limit bytes)).ended)

-- a verdict as the program has it
abbrev pub verdict_of : Checked → Verdict
verdict_of Pass = proof.Pass
verdict_of (Rejected line word) = proof.Rejected line word

-- a result tells the answer, or is a fault or want of memory
abbrev pub TellsAnswer : Result Checked CheckError → FileAnswer → Type 0
TellsAnswer (Ok c) answer = answer ≡ Judged (verdict_of c)
TellsAnswer (Err TooLong) answer = answer ≡ OverLong
TellsAnswer (Err ReadFault) answer = Unit {0}
TellsAnswer (Err Memory) answer = Unit {0}
