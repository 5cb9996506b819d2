-- Cited by public clauses: spelling and reading are one table.
use Rattle.std.specs.Prelude.{◌≡◌, ◌⊎◌, ℕ, ◌≤◌, length, Ok, Err, List}
use Rattle.sm_proof.specs.declared.word.Word.{Word}
use Rattle.sm_proof.specs.declared.word.Word.TheVariants.{BadLine, BadNumber}
use Rattle.sm_proof.specs.FieldRanges.{IsWithinFields}
use Rattle.sm_proof.specs.Lines.{ProofLine}
use Rattle.sm_proof.specs.Reading.{read}
use Rattle.sm_proof.specs.Spelling.{spelled, HasKnownVersion}
use Rattle.sm_proof.specs.Versions.{is_exact, begins_exact}

-- the text of a line that can be read is read as that line
abbrev pub SpelledReadsBack : Type 0
SpelledReadsBack =
    (line : ProofLine) → IsWithinFields line → HasKnownVersion line → length (spelled line) ≤ 4096 →
    read (spelled line) ≡ Ok line

-- bytes that are read as a line are its text, and it could be read
abbrev pub ReadIsSpelled : Type 0
ReadIsSpelled =
    (bytes : List ℕ) (line : ProofLine) → read bytes ≡ Ok line →
    (bytes ≡ spelled line) × IsWithinFields line × HasKnownVersion line

-- bytes that are no line are refused by one of two words
abbrev pub ReadRefuses : Type 0
ReadRefuses =
    (bytes : List ℕ) (word : Word) → read bytes ≡ Err word → (word ≡ BadLine) ⊎ (word ≡ BadNumber)

-- bytes that are read as a line begin with the word of lines `exact` where it is one
abbrev pub ExactBegins : Type 0
ExactBegins =
    (bytes : List ℕ) (line : ProofLine) → read bytes ≡ Ok line → begins_exact bytes ≡ is_exact line
