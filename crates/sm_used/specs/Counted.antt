-- Private: lines with how many facts stand before each, and which of them are used.
use Rattle.std.specs.Prelude.{◌≡◌, ℕ, Bool, Ok, List, [], ◌∷◌, map}
use Rattle.sm_syntax.specs.text.Sorts.{Sorts}
use Rattle.sm_proof.specs.Cases.{AreRead}
use Rattle.sm_proof.specs.Lines.{ProofLine, Header, Term, Form, Node, Cert, line_of}
use Rattle.sm_proof.specs.Passing.{Progress, start_progress, taken}
use Rattle.sm_proof.specs.Verdicts.{Subject, Underway, lines_in}
use Rattle.sm_prune.specs.UsedLines.{IsCertUsed}
use Rattle.sm_check.specs.Checkers.{HasFacts, IsAt}
use Rattle.sm_check.specs.declared.checker.Checker.{Checker}
use Rattle.sm_used.specs.declared.counting.Counted.{Counted}

-- the line of a row
abbrev pub line_in : Counted → ProofLine
line_in row = line_of row.line

-- lines are taken from a proof on its way on, and so many facts stand before each
abbrev pub AreCounted : Sorts → Progress → List Counted → Type 0
AreCounted sorts p [] = Unit {0}
AreCounted sorts p (row ∷ rows) =
    HasFacts p.pending row.facts
    × (q : Progress) × (taken sorts p (line_in row) ≡ Ok q) × AreCounted sorts q rows

-- one line is taken, and a checker stands behind it
abbrev pub Counts : Subject → Bool → Progress → Checker → Counted → Type 0
Counts s exact p c row =
    HasFacts p.pending row.facts
    × (q : Progress) × (taken s.sorts p (line_in row) ≡ Ok q) × IsAt c s (Ok (Underway exact q))

-- the version line stands before bytes that are left, and a checker stands behind it, at the start
abbrev pub Opens : Subject → List ℕ → List ℕ → Checker → Type 0
Opens s bytes left c =
    (version : ℕ)
    × (exact : Bool)
    × ((lines : List ProofLine) → AreRead (lines_in left).ended lines →
    AreRead (lines_in bytes).ended (Header version ∷ lines))
    × IsAt c s (Ok (Underway exact (start_progress s.start)))

-- the lines of a file on a subject are these behind the version line, and they are taken
abbrev pub AreRowsOf : Subject → List ℕ → List Counted → Type 0
AreRowsOf s bytes rows =
    (version : ℕ)
    × AreRead (lines_in bytes).ended (Header version ∷ map line_in rows)
    × AreCounted s.sorts (start_progress s.start) rows

-- a line of a certificate is used, where so many facts stand before it and these lines behind it
abbrev pub IsLineUsed : ℕ → ProofLine → List ProofLine → Type 0
IsLineUsed facts (Header version) lines = Unit {0}
IsLineUsed facts (Term t) lines = Unit {0}
IsLineUsed facts (Form f) lines = Unit {0}
IsLineUsed facts (Node n) lines = Unit {0}
IsLineUsed facts (Cert l) lines = IsCertUsed facts l lines

-- each line is
abbrev pub AreUsed : List Counted → Type 0
AreUsed [] = Unit {0}
AreUsed (row ∷ rows) = IsLineUsed row.facts (line_in row) (map line_in rows) × AreUsed rows
