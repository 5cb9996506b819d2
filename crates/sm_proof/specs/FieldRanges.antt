-- Cited by public clauses: the numbers that the fields of a line may hold.
use Rattle.std.specs.Prelude.{ℕ, ℤ, negsuc, pos, ◌≤◌, ◌<◌, ◌-◌, ◌^◌, ◌≤ℤ◌, List, [], ◌∷◌}
use Rattle.sm_proof.specs.declared.line.FormLine.TheVariants as form
use Rattle.sm_proof.specs.declared.line.NodeLine.TheVariants as node
use Rattle.sm_proof.specs.declared.line.TermLine.TheVariants as term
use Rattle.sm_proof.specs.Lines.{NumberedLine, Both, Either, Cases, Order, Refl, Sym, Trans, Subst, Cong, Same, Apart, Hit, Miss, Lin, Elim, Tight, Exact, Close, Clash, ProofLine, Header, Term, Form, Node, Cert, TermLine, NodeLine}
use Rattle.sm_proof.specs.Lines.{FormLine}

-- a number that isn't told otherwise is below 2 to the 64
abbrev pub IsNumber : ℕ → Type 0
IsNumber n = n < 2 ^ 64

-- each number of a list is below 2 to the 64
abbrev pub AreNumbers : List ℕ → Type 0
AreNumbers [] = Unit {0}
AreNumbers (n ∷ ns) = IsNumber n × AreNumbers ns

-- a copy is one of four
abbrev pub IsCopyNumber : ℕ → Type 0
IsCopyNumber c = c ≤ 3

-- a literal has 128 bits
abbrev pub IsLiteral : ℤ → Type 0
IsLiteral z = (negsuc (2 ^ 127 - 1) ≤ℤ z) × (z ≤ℤ pos (2 ^ 127 - 1))

-- the fields of a line that makes a term
abbrev pub IsTermLineWithin : TermLine → Type 0
IsTermLineWithin (term.Lit z) = IsLiteral z
IsTermLineWithin (term.Start x) = IsNumber x
IsTermLineWithin term.Cell = Unit {0}
IsTermLineWithin (term.Slot c x) = IsCopyNumber c × IsNumber x
IsTermLineWithin (term.Cur c x) = IsCopyNumber c × IsNumber x
IsTermLineWithin (term.Of n side) = IsNumber n × (side ≤ 1)
IsTermLineWithin (term.Arg t k) = IsNumber t × IsNumber k
IsTermLineWithin (term.Read t u) = IsNumber t × IsNumber u
IsTermLineWithin (term.Write t u v) = IsNumber t × IsNumber u × IsNumber v
IsTermLineWithin (term.Neg t) = IsNumber t
IsTermLineWithin (term.Add t u) = IsNumber t × IsNumber u
IsTermLineWithin (term.Sub t u) = IsNumber t × IsNumber u
IsTermLineWithin (term.Mul t u) = IsNumber t × IsNumber u

-- those of a line that makes a formula
abbrev pub IsFormLineWithin : FormLine → Type 0
IsFormLineWithin form.Yes = Unit {0}
IsFormLineWithin form.No = Unit {0}
IsFormLineWithin (form.Eq t u) = IsNumber t × IsNumber u
IsFormLineWithin (form.Ne t u) = IsNumber t × IsNumber u
IsFormLineWithin (form.Le t u) = IsNumber t × IsNumber u
IsFormLineWithin (form.Lt t u) = IsNumber t × IsNumber u
IsFormLineWithin (form.And p q) = IsNumber p × IsNumber q
IsFormLineWithin (form.Or p q) = IsNumber p × IsNumber q

-- those of a node; a set is a byte
abbrev pub IsNodeLineWithin : NodeLine → Type 0
IsNodeLineWithin (node.Step c) = IsCopyNumber c
IsNodeLineWithin (node.Abs c n) = IsCopyNumber c × IsNumber n
IsNodeLineWithin (node.Fork c) = IsCopyNumber c
IsNodeLineWithin (node.Loop set keep) = (set ≤ 255) × IsNumber keep
IsNodeLineWithin (node.Block k0 k1 k2 k3 keep) =
    IsNumber k0 × IsNumber k1 × IsNumber k2 × IsNumber k3 × IsNumber keep
IsNodeLineWithin node.Dead = Unit {0}
IsNodeLineWithin node.End = Unit {0}

-- the numbers of a line of a certificate
abbrev pub numbers_of : NumberedLine → List ℕ
numbers_of (Both n) = n ∷ []
numbers_of (Either n) = n ∷ []
numbers_of (Cases t u) = t ∷ u ∷ []
numbers_of (Order n) = n ∷ []
numbers_of (Refl t) = t ∷ []
numbers_of (Sym n) = n ∷ []
numbers_of (Trans m n) = m ∷ n ∷ []
numbers_of (Subst m n) = m ∷ n ∷ []
numbers_of (Cong t u ns) = t ∷ u ∷ ns
numbers_of (Same t u) = t ∷ u ∷ []
numbers_of (Apart t u) = t ∷ u ∷ []
numbers_of (Hit t n) = t ∷ n ∷ []
numbers_of (Miss t u n) = t ∷ u ∷ n ∷ []
numbers_of (Lin n) = n ∷ []
numbers_of (Elim m n t) = m ∷ n ∷ t ∷ []
numbers_of (Tight n) = n ∷ []
numbers_of (Exact n) = n ∷ []
numbers_of (Close n) = n ∷ []
numbers_of (Clash m n) = m ∷ n ∷ []

-- each number of a line is within its field
abbrev pub IsWithinFields : ProofLine → Type 0
IsWithinFields (Header version) = version ≤ 255
IsWithinFields (Term t) = IsTermLineWithin t
IsWithinFields (Form f) = IsFormLineWithin f
IsWithinFields (Node n) = IsNodeLineWithin n
IsWithinFields (Cert l) = AreNumbers (numbers_of l)
