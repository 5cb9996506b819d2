-- Cited by public clauses: what a line names by numbers, and the words by which a line is refused.
use Rattle.std.specs.Prelude.{ℕ, nat_lt, nat_le, Bool, true, ◌&&◌, if◌then◌else◌, Option, Some, None, Result, Ok, Err, List, [], ◌∷◌, length, slice_get}
use Rattle.sm_syntax.specs.claim.ConflictFree.{copy_of}
use Rattle.sm_syntax.specs.text.Parts.{by_copy}
use Rattle.sm_term.specs.Terms.{Tree}
use Rattle.sm_term.specs.Assertions.{Assertion}
use Rattle.sm_term.specs.Tables.{tree_at}
use Rattle.sm_theory.specs.Lines.{CertificateLine, followed}
use Rattle.sm_theory.specs.Named.{facts_named, terms_named, with_terms}
use Rattle.sm_plan.specs.Masks.{set_of}
use Rattle.sm_plan.specs.Nodes as plan
use Rattle.sm_proof.specs.declared.line.NodeLine.TheVariants as node
pub use Rattle.sm_proof.specs.declared.word.Head.{Head}
use Rattle.sm_proof.specs.declared.word.Head.TheVariants as head
pub use Rattle.sm_proof.specs.declared.word.Word.{Word}
use Rattle.sm_proof.specs.Lines.{NumberedLine, Both, Either, Cases, Order, Refl, Sym, Trans, Subst, Cong, Same, Apart, Hit, Miss, Lin, Elim, Tight, Exact, Close, Clash, NodeLine}
pub use Rattle.sm_proof.specs.declared.word.Word.TheVariants.{BadLine, BadNumber, BadVersion, Deep, Extra, First, Truncated}
pub use Rattle.sm_proof.specs.declared.word.Head.TheVariants.{P, T}

-- goes on with what is there, and otherwise says a word
abbrev pub found_or : {S T : Type 0} → Option S → Word → (S → Result T Word) → Result T Word
found_or None w next = Err w
found_or (Some s) w next = next s

-- goes on where a test passes, and otherwise says a word
abbrev pub tested_or : {T : Type 0} → Bool → Word → Result T Word → Result T Word
tested_or test w next = if test then next else Err w

-- goes on with what was made, and otherwise says the word that was said
abbrev pub and_then : {S T : Type 0} → Result S Word → (S → Result T Word) → Result T Word
and_then (Err w) next = Err w
and_then (Ok s) next = next s

-- the numbers are below a count
abbrev pub are_there : ℕ → List ℕ → Bool
are_there count [] = true
are_there count (n ∷ ns) = nat_lt n count && are_there count ns

-- a line of a certificate with the terms that it names, where these are there and its facts are on a
-- branch of `count` facts
abbrev pub named_line : List Tree → ℕ → NumberedLine → Option CertificateLine
named_line trees count line =
    if are_there (length trees) (terms_named line) && are_there count (facts_named line)
    then Some (with_terms (tree_at trees) line) else None

-- a node with the formula that it keeps, where that is there; a set of more than four copies fits
-- no state
abbrev pub named_node : List Assertion → NodeLine → Option plan.Node
named_node forms (node.Step c) = Some (plan.Step (copy_of c))
named_node forms (node.Abs c n) = Some (plan.Abs (copy_of c) n)
named_node forms (node.Fork c) = Some (plan.Fork (copy_of c))
named_node forms (node.Loop set keep) =
    followed (slice_get forms keep)
    (λ (f : Assertion). Some (if nat_le set 15 then plan.Loop (set_of set) f else plan.Unfit 4))
named_node forms (node.Block k0 k1 k2 k3 keep) =
    followed (slice_get forms keep) (λ (f : Assertion). Some (plan.Block (by_copy k0 k1 k2 k3) f))
named_node forms node.Dead = Some plan.Dead
named_node forms node.End = Some plan.Ends

-- the first word of a node's line
abbrev pub node_head : NodeLine → Head
node_head (node.Step c) = head.Step
node_head (node.Abs c n) = head.Abs
node_head (node.Fork c) = head.Fork
node_head (node.Loop set keep) = head.Loop
node_head (node.Block k0 k1 k2 k3 keep) = head.Block
node_head node.Dead = head.Dead
node_head node.End = head.End

-- the first word of a line of a certificate
abbrev pub line_head : NumberedLine → Head
line_head (Both n) = head.Both
line_head (Either n) = head.Either
line_head (Cases t u) = head.Cases
line_head (Order n) = head.Order
line_head (Refl t) = head.Refl
line_head (Sym n) = head.Sym
line_head (Trans m n) = head.Trans
line_head (Subst m n) = head.Subst
line_head (Cong t u ns) = head.Cong
line_head (Same t u) = head.Same
line_head (Apart t u) = head.Apart
line_head (Hit t n) = head.Hit
line_head (Miss t u n) = head.Miss
line_head (Lin n) = head.Lin
line_head (Elim m n t) = head.Elim
line_head (Tight n) = head.Tight
line_head (Exact n) = head.Exact
line_head (Close n) = head.Close
line_head (Clash m n) = head.Clash
