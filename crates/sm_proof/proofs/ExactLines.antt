-- A line that was read is a line `exact` where its bytes begin so.
use Rattle.sm_proof.proofs.Imports.{◌≡◌, ℕ, Bool, true, false, not, if◌then◌else◌, Ok, Err, List, refl, ap, sym, ◌∙◌, NumberedLine, ProofLine, Header, Term, Form, Node, Cert, tested_or, and_then, BadLine, Progress, taken, read, line_words, ExactBegins, is_exact, may_stand, are_exact, read_with, Subject, Standing, Unopened, Underway, next_standing, reads_exact}
use Rattle.std.proofs.Common.{Result}
use Rattle.sm_proof.specs.declared.line.NodeLine.TheVariants as node
use Rattle.sm_proof.specs.Lines as line
use Rattle.sm_proof.specs.Lines.{NodeLine}
use Rattle.sm_proof.specs.Named.{Word}
use Rattle.sm_proof.specs.Versions.{begins_exact}
use Rattle.sm_proof.proofs.ReadIsSpelled.{read_text}

-- the words of a node's line
node_words : (n : NodeLine) → are_exact (line_words (Node n)) ≡ false
node_words (node.Step c) = refl
node_words (node.Abs c n) = refl
node_words (node.Fork c) = refl
node_words (node.Loop set keep) = refl
node_words (node.Block k0 k1 k2 k3 keep) = refl
node_words node.Dead = refl
node_words node.End = refl

-- those of a line of a certificate
cert_words : (l : NumberedLine) → are_exact (line_words (Cert l)) ≡ is_exact (Cert l)
cert_words (line.Both n) = refl
cert_words (line.Either n) = refl
cert_words (line.Cases t u) = refl
cert_words (line.Order n) = refl
cert_words (line.Refl t) = refl
cert_words (line.Sym n) = refl
cert_words (line.Trans m n) = refl
cert_words (line.Subst m n) = refl
cert_words (line.Cong t u ns) = refl
cert_words (line.Same t u) = refl
cert_words (line.Apart t u) = refl
cert_words (line.Hit t n) = refl
cert_words (line.Miss t u n) = refl
cert_words (line.Lin n) = refl
cert_words (line.Elim m n t) = refl
cert_words (line.Tight n) = refl
cert_words (line.Exact n) = refl
cert_words (line.Close n) = refl
cert_words (line.Clash m n) = refl

-- the words of any line begin with the word of lines `exact` exactly where it is one
words_exact : (l : ProofLine) → are_exact (line_words l) ≡ is_exact l
words_exact (Header version) = refl
words_exact (Term t) = refl
words_exact (Form f) = refl
words_exact (Node n) = node_words n
words_exact (Cert l) = cert_words l

-- so bytes that are read as a line begin with the word of lines `exact` where it is one
pub exact_read : ExactBegins
unfolding begins_exact
exact_read bytes l is = ap are_exact (read_text bytes l is).0 ∙ words_exact l

-- a line that was read and may stand is read there, and one that may not stand is none
pub read_there : (exact : Bool) (bytes : List ℕ) (l : ProofLine) → read bytes ≡ Ok l →
    read_with exact bytes ≡ tested_or (may_stand exact l) BadLine (Ok l)
read_there true bytes l is = is
read_there false bytes l is =
    ap (λ (b : Bool). if b then Err BadLine else read bytes) (exact_read bytes l is)
    ∙ ap (λ (r : Result ProofLine Word). if is_exact l then Err BadLine else r) is
    ∙ by (is_exact l)
  where
    by : (b : Bool) → (if b then Err BadLine else Ok l) ≡ tested_or (not b) BadLine (Ok l)
    by true = refl
    by false = refl

-- a line that is read there may stand
pub stands_there : (exact : Bool) (bytes : List ℕ) (l : ProofLine) → read_with exact bytes ≡ Ok l →
    (read bytes ≡ Ok l) × (may_stand exact l ≡ true)
stands_there true bytes l is = (is, refl)
stands_there false bytes l is = by (begins_exact bytes) refl is
  where
    by : (b : Bool) → begins_exact bytes ≡ b → (if b then Err BadLine else read bytes) ≡ Ok l →
        (read bytes ≡ Ok l) × (not (is_exact l) ≡ true)
    by true e h = absurd cc
    by false e h = (h, ap not (sym (exact_read bytes l h) ∙ e))

-- a proof goes on after bytes as after the line that was read
pub goes_alike : (s : Subject) (standing : Standing) (bytes : List ℕ) (l : ProofLine) → read bytes ≡ Ok l →
    next_standing s standing (read_with (reads_exact standing) bytes) ≡ next_standing s standing (Ok l)
goes_alike s Unopened bytes l is = ap (next_standing s Unopened) is
goes_alike s (Underway exact p) bytes l is =
    ap (next_standing s (Underway exact p)) (read_there exact bytes l is)
    ∙ by (may_stand exact l) refl
  where
    next : Result Standing Word
    next = and_then (taken s.sorts p l) (λ (q : Progress). Ok (Underway exact q))

    by : (b : Bool) → may_stand exact l ≡ b →
        next_standing s (Underway exact p) (tested_or b BadLine (Ok l)) ≡ next_standing s (Underway exact p) (Ok l)
    by true e = refl
    by false e = sym (ap (λ (b : Bool). tested_or b BadLine next) e)
