-- Cited by public clauses: texts of lines, and how far a text leads that stands behind a version line.
use Rattle.std.specs.Prelude.{◌≡◌, ℕ, ◌≤◌, Bool, Result, Ok, List, [], ◌∷◌, ◌++◌, length}
use Rattle.std.specs.List.{list_any}
use Rattle.sm_syntax.specs.text.Sorts.{Sorts}
use Rattle.sm_proof.specs.FieldRanges.{IsWithinFields}
use Rattle.sm_proof.specs.Lines.{ProofLine}
use Rattle.sm_proof.specs.Named.{and_then}
use Rattle.sm_proof.specs.declared.word.Word.{Word}
use Rattle.sm_proof.specs.Passing.{Progress, start_progress, taken}
use Rattle.sm_proof.specs.Spelling.{spelled, HasKnownVersion}
use Rattle.sm_proof.specs.Verdicts.{Subject}
use Rattle.sm_proof.specs.Versions.{is_exact}

-- the bytes of lines, each with its line feed
abbrev pub bytes_of : List ProofLine → List ℕ
bytes_of [] = []
bytes_of (line ∷ lines) = spelled line ++ 10 ∷ bytes_of lines

-- a line that is read back from its text
pub record IsReadable (line : ProofLine) : Type 0 where
  pub within : IsWithinFields line
  pub version : HasKnownVersion line
  pub short : length (spelled line) ≤ 4096

-- lines that are each read back from their texts
abbrev pub AreReadable : List ProofLine → Type 0
AreReadable [] = Unit {0}
AreReadable (line ∷ lines) = IsReadable line × AreReadable lines

-- where a proof comes by lines
abbrev pub advanced : Sorts → Progress → List ProofLine → Result Progress Word
advanced sorts p [] = Ok p
advanced sorts p (line ∷ lines) =
    and_then (taken sorts p line) (λ (q : Progress). advanced sorts q lines)

-- a text is that of lines by which a proof comes here, and it is told whether one is a line `exact`
pub record Leads (s : Subject) (text : List ℕ) (exact : Bool) (p : Progress) : Type 0 where
  pub lines : List ProofLine
  pub spells : text ≡ bytes_of lines
  pub told : exact ≡ list_any is_exact lines
  pub readable : AreReadable lines
  pub comes : advanced s.sorts (start_progress s.start) lines ≡ Ok p
