-- Cited by public clauses: the answer to the bytes that the reads of a proof file gave, of a shelf
-- that tells its files and of any other.
use Rattle.std.specs.Prelude.{◌≡◌, ◌⊎◌, ℕ, Result, Ok, Err, List}
use Rattle.sm_io.specs.Reads.{Read, ReadsOn, ReadsWhole}
use Rattle.sm_proof.specs.Verdicts.{Subject}
use Rattle.sm_check.specs.Files.{file_answer, TellsAnswer, Checked, Pass, CheckError, ReadFault}

-- the file alone was read, in one pass from its start on, and the answer is that to the bytes that
-- this gave. Where it passes, the pass went to its end; where a read failed, it didn't
pub record AnswersRead (name : List ℕ) (before now : List Read) (limit : ℕ) (s : Subject)
    (result : Result Checked CheckError) : Type 0 where
  pub bytes : List ℕ
  pub read : ReadsOn name before now bytes ⊎ ReadsWhole name before now bytes
  pub whole : result ≡ Ok Pass → ReadsWhole name before now bytes
  pub part : result ≡ Err ReadFault → ReadsOn name before now bytes
  pub tells : TellsAnswer result (file_answer limit s bytes)
