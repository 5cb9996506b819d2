-- Cited by public clauses: verdicts worked by hand, on lines that were read.
--
-- The task has one name x, a number and the output, and its four programs do nothing. So the node
-- `end` can stand at once. Each of its three goals, when it is denied, is a conjunction in which x
-- isn't x: `both` takes it apart, and `close` ends the branch. Or `order` says which of both is less,
-- and `exact` that none is.
use Rattle.std.specs.Prelude.{◌≡◌, ◌<◌, ℕ, suc, false, Option, Some, None, Ok, List, [], ◌∷◌, ◌++◌, take, codes}
use Rattle.sm_syntax.specs.declared.tree.Sort.TheVariants.{Num}
use Rattle.sm_syntax.specs.claim.Syntax.{Condition, Yes}
use Rattle.sm_syntax.specs.claim.Syntax as syntax
use Rattle.sm_syntax.specs.claim.ConflictFree.{Copy}
use Rattle.sm_syntax.specs.text.Parts.{Parts}
use Rattle.sm_theory.specs.Named.{reads_all}
use Rattle.sm_proof.specs.declared.line.FormLine.TheVariants as form
use Rattle.sm_proof.specs.declared.word.Head.TheVariants as head
use Rattle.sm_proof.specs.declared.word.Word.{Word}
use Rattle.sm_proof.specs.declared.word.Word.TheVariants.{Truncated, BadVersion, BadLine, BadNumber, Extra, Order, First}
use Rattle.sm_proof.specs.Lines as line
use Rattle.sm_proof.specs.Lines.{NumberedLine, Both, Refl, Lin, Exact, Close, ProofLine, Header, Term, Form, Node, Cert, TermLine, Cell, Cur, Of, NodeLine, Step, Loop, End, FormLine}
use Rattle.sm_proof.specs.Verdicts.{Subject, subject_of, Standing, Unopened, next_standing, Reached, Before, reached_after, lines_in, Verdict, Pass, Rejected, verdict_at_end, verdict}
use Rattle.sm_proof.specs.Reading.{read}

-- how far lines that were read come, the first with number n
abbrev pub reached_on : Subject → ℕ → Standing → List ProofLine → Reached
reached_on s n standing [] = Before n standing
reached_on s n standing (line ∷ lines) =
    reached_after n (next_standing s standing (Ok line))
    (λ (after : Standing). reached_on s (suc n) after lines)

-- the verdict on lines that were read, where no bytes are left behind the last
abbrev pub verdict_on : Subject → List ProofLine → Verdict
verdict_on s lines = verdict_at_end (reached_on s 1 Unopened lines) []

-- the lines of a file are spelled as these are
abbrev pub AreRead : List (List ℕ) → List ProofLine → Type 0
AreRead [] [] = Unit {0}
AreRead [] (line ∷ lines) = ⊥
AreRead (bytes ∷ rest) [] = ⊥
AreRead (bytes ∷ rest) (line ∷ lines) = (read bytes ≡ Ok line) × AreRead rest lines

-- the verdict on a file is that on what its lines spell
abbrev pub FilesAreLines : Type 0
FilesAreLines =
    (s : Subject) (bytes : List ℕ) (lines : List ProofLine) →
    AreRead (lines_in bytes).ended lines →
    (lines_in bytes).rest ≡ [] → verdict s bytes ≡ verdict_on s lines

-- the task, and what it assumes
abbrev pub idle : Option Condition → Parts
idle assumed = record {
  names = (120 ∷ []) ∷ [];
  declared = (0, Num) ∷ [];
  outputs = 0 ∷ [];
  assumed = assumed;
  shared = syntax.End;
  fillings = λ (c : Copy). [];
}

-- a proof behind its version line: one node, and a certificate for each goal
abbrev pub steps : List ProofLine
steps =
    Node End
    ∷ Cert (Both 0)
    ∷ Cert (Close 1)
    ∷ Cert (Both 0)
    ∷ Cert (Close 1)
    ∷ Cert (Both 0)
    ∷ Cert (Both 2)
    ∷ Cert (Close 4)
    ∷ []

-- all of it
abbrev pub whole : List ProofLine
whole = Header 1 ∷ steps

-- a proof that decides the first goal, behind its version line: x isn't less than x, in no steps
abbrev pub decided : List ProofLine
decided =
    Node End
    ∷ Cert (Both 0)
    ∷ Cert (line.Order 1)
    ∷ Cert (Lin 3)
    ∷ Cert (Exact 0)
    ∷ Cert (Close 5)
    ∷ Cert (Lin 3)
    ∷ Cert (Exact 0)
    ∷ Cert (Close 5)
    ∷ Cert (Both 0)
    ∷ Cert (Close 1)
    ∷ Cert (Both 0)
    ∷ Cert (Both 2)
    ∷ Cert (Close 4)
    ∷ []

-- the subject of the task that assumes nothing, and of the one that assumes what always holds
abbrev pub plain : Subject
plain = subject_of (idle None)

abbrev pub assuming : Subject
assuming = subject_of (idle (Some Yes))

-- lines behind a first line of version 1 are refused with a word, at the line with this number
abbrev pub AreRefused : List ProofLine → ℕ → Word → Type 0
AreRefused lines n w = verdict_on plain (Header 1 ∷ lines) ≡ Rejected n w

-- the proof passes, no proper front of it does, and nothing may stand behind its end
pub record WholeComesOut : Type 0 where
  pub passes : verdict_on plain whole ≡ Pass
  pub fronts : (n : ℕ) → n < 9 → verdict_on plain (take n whole) ≡ Rejected (suc n) Truncated
  pub more_terms : (l : TermLine) → verdict_on plain (whole ++ Term l ∷ []) ≡ Rejected 10 Extra
  pub more_forms : (l : FormLine) → verdict_on plain (whole ++ Form l ∷ []) ≡ Rejected 10 Extra
  pub more_nodes : (l : NodeLine) → verdict_on plain (whole ++ Node l ∷ []) ≡ Rejected 10 Extra
  pub more_lines :
      (l : NumberedLine) → reads_all l ≡ false →
      verdict_on plain (whole ++ Cert l ∷ []) ≡ Rejected 10 Extra
  pub more_exact : (n : ℕ) → verdict_on plain (whole ++ Cert (Exact n) ∷ []) ≡ Rejected 10 BadLine
  pub more_headers : (n : ℕ) → verdict_on plain (whole ++ Header n ∷ []) ≡ Rejected 10 BadLine
  pub more_bytes :
      (byte : ℕ) (rest : List ℕ) →
      verdict_at_end (reached_on plain 1 Unopened whole) (byte ∷ rest) ≡ Rejected 10 Truncated

-- version 1 passes where nothing is assumed, versions 2 and 3 always, and no other
pub record VersionsComeOut : Type 0 where
  pub first_assuming : verdict_on assuming (Header 1 ∷ []) ≡ Rejected 1 BadVersion
  pub second_assuming : verdict_on assuming (Header 2 ∷ []) ≡ Rejected 2 Truncated
  pub second : verdict_on plain (Header 2 ∷ []) ≡ Rejected 2 Truncated
  pub third_assuming : verdict_on assuming (Header 3 ∷ []) ≡ Rejected 2 Truncated
  pub third : verdict_on plain (Header 3 ∷ []) ≡ Rejected 2 Truncated
  pub zeroth : verdict_on plain (Header 0 ∷ []) ≡ Rejected 1 BadVersion
  pub others : (n : ℕ) → 3 < n → verdict_on plain (Header n ∷ []) ≡ Rejected 1 BadVersion
  pub none : verdict_on plain (Node End ∷ []) ≡ Rejected 1 BadVersion

-- each word comes where it is due
pub record WordsComeOut : Type 0 where
  pub second_version : AreRefused (Header 1 ∷ []) 2 BadLine
  -- where a certificate is due, where a node is, and where no branch has facts
  pub node_in_certificate : AreRefused (Node End ∷ Node End ∷ []) 3 Order
  pub line_for_node : AreRefused (Cert (Close 9) ∷ []) 2 Order
  pub fact_for_node : AreRefused (Term (Of 0 0) ∷ []) 2 Order
  -- what is named isn't there
  pub no_fact : AreRefused (Node End ∷ Cert (Close 9) ∷ []) 3 BadNumber
  pub no_term : AreRefused (Node End ∷ Term Cell ∷ Cert (Refl 1) ∷ []) 4 BadNumber
  pub no_form : AreRefused (Form form.Yes ∷ Node (Loop 1 1) ∷ []) 3 BadNumber
  pub no_name : AreRefused (Term (Cur 0 1) ∷ []) 2 BadNumber
  -- a set of no copies, and one of more than four
  pub no_copies : AreRefused (Form form.Yes ∷ Node (Loop 0 0) ∷ []) 3 (First head.Loop)
  pub many_copies : AreRefused (Form form.Yes ∷ Node (Loop 16 0) ∷ []) 3 (First head.Loop)
  -- no statement is left to do, and a fact can hold
  pub no_statement : AreRefused (Node (Step 0) ∷ []) 2 (First head.Step)
  pub no_contradiction : AreRefused (Node End ∷ Cert (Close 0) ∷ []) 3 (First head.Close)

-- version 3 alone has lines `exact`
pub record ExactComesOut : Type 0 where
  -- proofs without them pass under version 3 too, and nothing may stand behind their end
  pub passes : verdict_on plain (Header 3 ∷ steps) ≡ Pass
  pub passes_assuming : verdict_on assuming (Header 3 ∷ steps) ≡ Pass
  pub more_lines :
      (l : NumberedLine) → verdict_on plain ((Header 3 ∷ steps) ++ Cert l ∷ []) ≡ Rejected 10 Extra
  -- with them they pass there, and elsewhere the first of them is no line
  pub decided_third : verdict_on plain (Header 3 ∷ decided) ≡ Pass
  pub decided_assuming : verdict_on assuming (Header 3 ∷ decided) ≡ Pass
  pub decided_second : verdict_on plain (Header 2 ∷ decided) ≡ Rejected 6 BadLine
  pub decided_first : AreRefused decided 6 BadLine
  -- where a node is due, too
  pub second_for_node : verdict_on plain (Header 2 ∷ Cert (Exact 0) ∷ []) ≡ Rejected 2 BadLine
  pub for_node : verdict_on plain (Header 3 ∷ Cert (Exact 0) ∷ []) ≡ Rejected 2 Order
  pub for_version : verdict_on plain (Cert (Exact 0) ∷ []) ≡ Rejected 1 BadVersion
  -- no forms have a solution, and more than 1,000,000 steps are none
  pub no_forms :
      verdict_on plain (Header 3 ∷ Node End ∷ Cert (Exact 0) ∷ []) ≡ Rejected 3 (First head.Exact)
  pub most_steps :
      verdict_on plain (Header 3 ∷ take 4 decided ++ Cert (Exact 1000000) ∷ []) ≡ Rejected 7 Truncated
  pub many_steps :
      verdict_on plain (Header 3 ∷ take 4 decided ++ Cert (Exact 1000001) ∷ [])
      ≡ Rejected 6 (First head.Exact)

-- the bytes of lines
abbrev pub file_of : List (List ℕ) → List ℕ
file_of [] = []
file_of (bytes ∷ lines) = bytes ++ 10 ∷ file_of lines

-- the verdict on a file of a version line, a node and one more line
abbrev pub verdict_behind : List ℕ → List ℕ → Verdict
verdict_behind version bytes = verdict plain (file_of (version ∷ codes "end" ∷ bytes ∷ []))

abbrev pub first_version : List ℕ
first_version = codes "safemerge-proof 1"

abbrev pub second_version : List ℕ
second_version = codes "safemerge-proof 2"

abbrev pub third_version : List ℕ
third_version = codes "safemerge-proof 3"

-- where lines `exact` may not stand they are no lines, also where their number is ill spelled
pub record TextsComeOut : Type 0 where
  pub first : verdict_behind first_version (codes "exact 0") ≡ Rejected 3 BadLine
  pub second : verdict_behind second_version (codes "exact 0") ≡ Rejected 3 BadLine
  pub third : verdict_behind third_version (codes "exact 0") ≡ Rejected 3 (First head.Exact)
  pub ill_first : verdict_behind first_version (codes "exact x") ≡ Rejected 3 BadLine
  pub ill_second : verdict_behind second_version (codes "exact x") ≡ Rejected 3 BadLine
  pub ill_third : verdict_behind third_version (codes "exact x") ≡ Rejected 3 BadNumber
  pub ill_other : verdict_behind second_version (codes "close x") ≡ Rejected 3 BadNumber
  pub many_second : verdict_behind second_version (codes "exact 1000001") ≡ Rejected 3 BadLine
  pub many_third :
      verdict_behind third_version (codes "exact 1000001") ≡ Rejected 3 (First head.Exact)
  pub great_third :
      verdict_behind third_version (codes "exact 18446744073709551616") ≡ Rejected 3 BadNumber
  pub no_number : verdict_behind third_version (codes "exact") ≡ Rejected 3 BadLine
  pub no_word : verdict_behind second_version (codes "exactly x") ≡ Rejected 3 BadLine

-- all of them
abbrev pub CasesComeOut : Type 0
CasesComeOut = WholeComesOut × VersionsComeOut × WordsComeOut × ExactComesOut × TextsComeOut
