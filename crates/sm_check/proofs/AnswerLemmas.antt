-- What is answered where lines stop, where a file ends, past its limit, and where a read fails.
use Rattle.sm_check.proofs.Imports.{◌≡◌, ◌<◌, ◌≤◌, ℕ, List, length, take, Result, Ok, Err, sym, ap, subst, ◌∙◌, IfErr, Word, Subject, Reached, Refused, Before, Verdict, verdict, verdict_at_end, lines_in, StopsAt, Judged, cut_answer, file_answer, TellsAnswer, Checked, Pass, Rejected, CheckError, ReadFault, TooLong, StopsIn, reach, stopped_answer}
use Rattle.sm_io.specs.declared.error.IoError.{IoError}
use Rattle.sm_io.specs.declared.error.IoError.TheVariants.{Fault as a_fault, Memory as no_memory}
use Rattle.sm_proof.specs.Verdicts as proof
use Rattle.sm_check.specs.declared.fault.Stopped.TheVariants as stopped
use Rattle.sm_check.specs.Errors.{check_error_of}
use Rattle.sm_check.specs.Files.{Memory}
use Rattle.sm_check.specs.Pieces.{Stopped}
use Rattle.sm_check.proofs.EndLemmas.{answer_past, answer_within, refused_answer, verdict-reach}

-- what is answered where lines stop tells how far they come
pub stopped_tells : (r : Reached) (e : Stopped) → StopsAt r e → TellsAnswer (stopped_answer e) (cut_answer r)
stopped_tells r (stopped.Wrong line word) stops = ap cut_answer stops
stopped_tells r stopped.Memory stops = tt

-- what is answered where lines stop tells the verdict on all bytes
pub stopped_verdict : (s : Subject) (bytes : List ℕ) (e : Stopped) → StopsAt (reach s bytes) e →
    TellsAnswer (stopped_answer e) (Judged (verdict s bytes))
stopped_verdict s bytes stopped.Memory stops = tt
stopped_verdict s bytes (stopped.Wrong line word) stops =
    ap Judged (verdict-reach s bytes ∙ ap (λ (r : Reached). verdict_at_end r (lines_in bytes).rest) stops)

-- what is answered where bytes within the limit stop tells the answer to their file
pub stopped_told : (limit : ℕ) (s : Subject) (bytes : List ℕ) (k : ℕ) (e : Stopped) (r : Result Checked CheckError) →
    r ≡ stopped_answer e → k ≤ limit → StopsIn s (take k bytes) e → TellsAnswer r (file_answer limit s bytes)
stopped_told limit s bytes k (stopped.Wrong line word) r is low stops =
    subst (λ (x : Result Checked CheckError). TellsAnswer x (file_answer limit s bytes)) (sym is)
    (refused_answer limit s bytes k line word low stops)
stopped_told limit s bytes k stopped.Memory r is low stops =
    subst (λ (x : Result Checked CheckError). TellsAnswer x (file_answer limit s bytes)) (sym is) tt

-- lines that were read don't tell that a file passes, and tell a bad line only where there is one
cut_passes_not : (r : Reached) → cut_answer r ≡ Judged proof.Pass → ⊥
cut_passes_not (Refused n w) is = cc
cut_passes_not (Before n at) is = cc

cut_refused : (r : Reached) (line : ℕ) (word : Word) → cut_answer r ≡ Judged (proof.Rejected line word) → r ≡ Refused line word
cut_refused (Refused n w) line word is = cc
cut_refused (Before n at) line word is = absurd (cc)

-- no read fails by too many bytes
no_long : (error : IoError) → TooLong ≡ check_error_of error → ⊥
no_long a_fault is = cc
no_long no_memory is = cc

-- what is told of the lines before a read that failed is told of the file
pub fault_told : (limit : ℕ) (s : Subject) (bytes : List ℕ) (k : ℕ) (error : IoError) (r : Result Checked CheckError) → k ≤ limit →
    IfErr r (λ (e : CheckError). e ≡ check_error_of error) → TellsAnswer r (cut_answer (reach s (take k bytes))) →
    TellsAnswer r (file_answer limit s bytes)
fault_told limit s bytes k error (Ok Pass) low err tells = absurd (cut_passes_not (reach s (take k bytes)) tells)
fault_told limit s bytes k error (Ok (Rejected line word)) low err tells =
    refused_answer limit s bytes k line word low (cut_refused (reach s (take k bytes)) line word tells)
fault_told limit s bytes k error (Err TooLong) low err tells = absurd (no_long error err)
fault_told limit s bytes k error (Err ReadFault) low err tells = tt
fault_told limit s bytes k error (Err Memory) low err tells = tt

-- what the lines up to the limit tell is told of a longer file, the verdict of one within it
pub past_told : (limit : ℕ) (s : Subject) (bytes : List ℕ) (r : Result Checked CheckError) → limit < length bytes →
    TellsAnswer r (cut_answer (reach s (take limit bytes))) → TellsAnswer r (file_answer limit s bytes)
past_told limit s bytes r past tells = subst (TellsAnswer r) (sym (answer_past limit s bytes past)) tells

pub end_told : (limit : ℕ) (s : Subject) (bytes : List ℕ) (r : Result Checked CheckError) → length bytes ≤ limit →
    TellsAnswer r (Judged (verdict s bytes)) → TellsAnswer r (file_answer limit s bytes)
end_told limit s bytes r within tells = subst (TellsAnswer r) (sym (answer_within limit s bytes within)) tells

-- it is told that the bytes pass
pub pass_told : (r : Result Checked CheckError) (v : Verdict) → r ≡ Ok Pass → TellsAnswer r (Judged v) → v ≡ proof.Pass
pass_told (Ok Pass) v is tells = cc
pass_told (Ok (Rejected line word)) v is tells = absurd (cc)
pass_told (Err e) v is tells = absurd (cc)
