-- What is behind a word of a line, and what calls find there. No public clause cites it.
use Rattle.std.specs.Prelude.{◌≡◌, ℕ, Bool, true, false, not, Option, None, Result, Ok, Err, List, [], ◌∷◌}
use Rattle.sm_proof.specs.declared.error.Fault.{Fault}
use Rattle.sm_proof.specs.declared.error.Fault.TheVariants as fault
use Rattle.sm_proof.specs.declared.error.LineError.{LineError}
use Rattle.sm_proof.specs.declared.error.LineError.TheVariants as error
use Rattle.sm_proof.specs.declared.word.Head.{Head}
use Rattle.sm_proof.specs.declared.word.Head.TheVariants as head
use Rattle.sm_proof.specs.declared.word.Word.{Word}
use Rattle.sm_proof.specs.declared.word.Word.TheVariants.{BadLine, BadNumber}
use Rattle.sm_proof.specs.Lines.{ProofLine}
use Rattle.sm_proof.specs.Numbers.{words_of, number_in}

-- the words behind one: there are none at the end, and else a space stands before them
abbrev pub behind : List ℕ → List (List ℕ)
behind [] = []
behind (space ∷ bytes) = words_of bytes

-- the word of a fault
abbrev pub fault_word : Fault → Word
fault_word fault.Line = BadLine
fault_word fault.Number = BadNumber

-- the error of a fault
abbrev pub fault_error : Fault → LineError
fault_error fault.Line = error.BadLine
fault_error fault.Number = error.BadNumber

-- the line that is made of what was found
abbrev pub line_in : {T : Type 0} → Result T Fault → (T → ProofLine) → Result ProofLine Word
line_in (Ok x) made = Ok (made x)
line_in (Err e) made = Err (fault_word e)

-- a read fits an answer; want of memory fits any
abbrev pub IsAnswer : {T : Type 0} →
    Result ProofLine Word → Result T LineError → (T → ProofLine) → Type 0
IsAnswer read (Ok x) made = read ≡ Ok (made x)
IsAnswer read (Err error.BadLine) made = read ≡ Err BadLine
IsAnswer read (Err error.BadNumber) made = read ≡ Err BadNumber
IsAnswer read (Err error.Truncated) made = ⊥
IsAnswer read (Err error.Memory) made = Unit {0}

-- a number is in the word behind one, or none is, and what words are behind that
pub record IsNextWord (most : ℕ) (bytes : List ℕ) (found : Option ℕ) (more : List (List ℕ)) :
    Type 0
  where
    pub word : List ℕ
    pub words : behind bytes ≡ word ∷ more
    pub number : number_in most word ≡ found

-- there is no number behind a word: no word, or one that is none
abbrev pub IsNoNumber : ℕ → List ℕ → Fault → Type 0
IsNoNumber most bytes fault.Line = behind bytes ≡ []
IsNoNumber most bytes fault.Number = (more : List (List ℕ)) × IsNextWord most bytes None more

-- a first word of a node's line
abbrev pub is_node_head : Head → Bool
is_node_head head.Step = true
is_node_head head.Abs = true
is_node_head head.Fork = true
is_node_head head.Loop = true
is_node_head head.Block = true
is_node_head head.Dead = true
is_node_head head.End = true
is_node_head _ = false

-- a first word of a line of a certificate, but `cong`
abbrev pub is_cert_head : Head → Bool
is_cert_head head.T = false
is_cert_head head.P = false
is_cert_head head.Cong = false
is_cert_head h = not (is_node_head h)
