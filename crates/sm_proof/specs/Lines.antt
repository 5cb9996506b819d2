-- Cited by public clauses: the lines of a proof file as plain data.
use Rattle.std.specs.Prelude.{ℕ}
use Rattle.sm_theory.specs.Lines.{LineOver}
pub use Rattle.sm_theory.specs.Lines.{Both, Either, Cases, Order, Refl, Sym, Trans, Subst, Cong, Same, Apart, Hit, Miss, Lin, Elim, Tight, Exact, Close, Clash}
pub use Rattle.sm_theory.specs.Views.{numbered_line}
pub use Rattle.sm_proof.specs.declared.line.Line.{Line}
use Rattle.sm_proof.specs.declared.line.Line.TheVariants as line
pub use Rattle.sm_proof.specs.declared.line.TermLine.{TermLine}
pub use Rattle.sm_proof.specs.declared.line.FormLine.{FormLine}
pub use Rattle.sm_proof.specs.declared.line.NodeLine.{NodeLine}
pub use Rattle.sm_proof.specs.declared.line.TermLine.TheVariants.{Cell, Cur, Lit, Of}
pub use Rattle.sm_proof.specs.declared.line.NodeLine.TheVariants.{End, Loop, Step}

-- a line of a certificate as it is written: terms are numbers of lines
abbrev pub NumberedLine : Type 0
NumberedLine = LineOver ℕ

-- a line of a proof file
pub data ProofLine : Type 0 where
  -- the version, which the first line tells
  Header : ℕ → ProofLine
  -- a term or a formula is made
  Term : TermLine → ProofLine
  Form : FormLine → ProofLine
  -- a node of the plan
  Node : NodeLine → ProofLine
  -- a line of the certificate of a goal
  Cert : NumberedLine → ProofLine

-- what a line of the program stands for
abbrev pub line_of : Line → ProofLine
line_of (line.Header version) = Header version
line_of (line.Term t) = Term t
line_of (line.Form f) = Form f
line_of (line.Node n) = Node n
line_of (line.Cert l) = Cert (numbered_line l)
