-- Cited by public clauses: what the version of a proof file, which its first line tells, lets stand.
-- Version 3 alone has lines `exact`; in others they are no lines, however their number is spelled.
use Rattle.std.specs.Prelude.{ℕ, ◌==◌, Bool, true, false, not, if◌then◌else◌, Result, Err, List, [], ◌∷◌}
use Rattle.std.specs.Str.{bytes_eq}
use Rattle.sm_theory.specs.Named.{reads_all}
use Rattle.sm_proof.specs.declared.word.Head.TheVariants as head
use Rattle.sm_proof.specs.declared.word.Word.{Word}
use Rattle.sm_proof.specs.declared.word.Word.TheVariants.{BadLine}
use Rattle.sm_proof.specs.HeadWords.{head_word}
use Rattle.sm_proof.specs.Lines.{NumberedLine, Exact, ProofLine, Header, Term, Form, Node, Cert}
use Rattle.sm_proof.specs.Numbers.{words_of}
use Rattle.sm_proof.specs.Reading.{read}

-- whether the version that a line tells has lines `exact`
abbrev pub has_exact : ProofLine → Bool
has_exact (Header version) = version == 3
has_exact (Term line) = false
has_exact (Form line) = false
has_exact (Node line) = false
has_exact (Cert line) = false

-- whether a line is a line `exact`
abbrev pub is_exact : ProofLine → Bool
is_exact (Header version) = false
is_exact (Term line) = false
is_exact (Form line) = false
is_exact (Node line) = false
is_exact (Cert line) = reads_all line

-- whether a line may stand where lines `exact` may or may not
abbrev pub may_stand : (exact : Bool) → ProofLine → Bool
may_stand true line = true
may_stand false line = not (is_exact line)

-- whether words begin with the word of lines `exact`
abbrev pub are_exact : List (List ℕ) → Bool
are_exact [] = false
are_exact (word ∷ words) = bytes_eq (head_word head.Exact) word

-- whether bytes do
unfoldable pub begins_exact : List ℕ → Bool
begins_exact bytes = are_exact (words_of bytes)

-- the line that bytes without a line feed spell, where lines `exact` may stand or may not
abbrev pub read_with : (exact : Bool) → List ℕ → Result ProofLine Word
read_with true bytes = read bytes
read_with false bytes = if begins_exact bytes then Err BadLine else read bytes
