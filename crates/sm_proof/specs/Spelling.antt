-- Cited by public clauses: the one text of a line, without its line feed.
use Rattle.std.specs.Prelude.{ℕ, List, [], ◌∷◌, ◌++◌, map, ◌≤◌}
use Rattle.std.specs.Fmt.{decimal, signed_decimal}
use Rattle.sm_proof.specs.declared.kind.FormKind.TheVariants as kind
use Rattle.sm_proof.specs.declared.kind.TermKind.TheVariants as kinds
use Rattle.sm_proof.specs.declared.line.FormLine.TheVariants as form
use Rattle.sm_proof.specs.declared.line.NodeLine.TheVariants as node
use Rattle.sm_proof.specs.declared.line.TermLine.TheVariants as term
use Rattle.sm_proof.specs.FieldRanges.{numbers_of}
use Rattle.sm_proof.specs.HeadWords.{version_word, head_word, term_word, form_word}
use Rattle.sm_proof.specs.Lines.{ProofLine, Header, Term, Form, Node, Cert, TermLine, NodeLine, FormLine}
use Rattle.sm_proof.specs.Named.{node_head, line_head, T, P}

-- words parted by one space
unfoldable pub spaced : List (List ℕ) → List ℕ
spaced [] = []
spaced (word ∷ []) = word
spaced (word ∷ next ∷ words) = word ++ (32 ∷ spaced (next ∷ words))

-- a word and numbers: these are decimal, without leading zeros
abbrev pub with_numbers : List ℕ → List ℕ → List (List ℕ)
with_numbers word ns = word ∷ map decimal ns

-- the words of a term's line from the second on; a literal alone may have a sign
abbrev pub term_words : TermLine → List (List ℕ)
term_words (term.Lit z) = term_word kinds.Lit ∷ signed_decimal z ∷ []
term_words (term.Start x) = with_numbers (term_word kinds.Start) (x ∷ [])
term_words term.Cell = with_numbers (term_word kinds.Cell) []
term_words (term.Slot c x) = with_numbers (term_word kinds.Slot) (c ∷ x ∷ [])
term_words (term.Cur c x) = with_numbers (term_word kinds.Cur) (c ∷ x ∷ [])
term_words (term.Of n side) = with_numbers (term_word kinds.Of) (n ∷ side ∷ [])
term_words (term.Arg t k) = with_numbers (term_word kinds.Arg) (t ∷ k ∷ [])
term_words (term.Read t u) = with_numbers (term_word kinds.Read) (t ∷ u ∷ [])
term_words (term.Write t u v) = with_numbers (term_word kinds.Write) (t ∷ u ∷ v ∷ [])
term_words (term.Neg t) = with_numbers (term_word kinds.Neg) (t ∷ [])
term_words (term.Add t u) = with_numbers (term_word kinds.Add) (t ∷ u ∷ [])
term_words (term.Sub t u) = with_numbers (term_word kinds.Sub) (t ∷ u ∷ [])
term_words (term.Mul t u) = with_numbers (term_word kinds.Mul) (t ∷ u ∷ [])

-- those of a formula's line
abbrev pub form_words : FormLine → List (List ℕ)
form_words form.Yes = with_numbers (form_word kind.Yes) []
form_words form.No = with_numbers (form_word kind.No) []
form_words (form.Eq t u) = with_numbers (form_word kind.Eq) (t ∷ u ∷ [])
form_words (form.Ne t u) = with_numbers (form_word kind.Ne) (t ∷ u ∷ [])
form_words (form.Le t u) = with_numbers (form_word kind.Le) (t ∷ u ∷ [])
form_words (form.Lt t u) = with_numbers (form_word kind.Lt) (t ∷ u ∷ [])
form_words (form.And p q) = with_numbers (form_word kind.And) (p ∷ q ∷ [])
form_words (form.Or p q) = with_numbers (form_word kind.Or) (p ∷ q ∷ [])

-- the numbers of a node's line
abbrev pub node_numbers : NodeLine → List ℕ
node_numbers (node.Step c) = c ∷ []
node_numbers (node.Abs c n) = c ∷ n ∷ []
node_numbers (node.Fork c) = c ∷ []
node_numbers (node.Loop set keep) = set ∷ keep ∷ []
node_numbers (node.Block k0 k1 k2 k3 keep) = k0 ∷ k1 ∷ k2 ∷ k3 ∷ keep ∷ []
node_numbers node.Dead = []
node_numbers node.End = []

-- the words of a line
abbrev pub line_words : ProofLine → List (List ℕ)
line_words (Header version) = with_numbers version_word (version ∷ [])
line_words (Term t) = head_word T ∷ term_words t
line_words (Form f) = head_word P ∷ form_words f
line_words (Node n) = with_numbers (head_word (node_head n)) (node_numbers n)
line_words (Cert l) = with_numbers (head_word (line_head l)) (numbers_of l)

-- the text of a line
unfoldable pub spelled : ProofLine → List ℕ
spelled line = spaced (line_words line)

-- a version that can be read is 1, 2 or 3
abbrev pub HasKnownVersion : ProofLine → Type 0
HasKnownVersion (Header version) = (1 ≤ version) × (version ≤ 3)
HasKnownVersion (Term t) = Unit {0}
HasKnownVersion (Form f) = Unit {0}
HasKnownVersion (Node n) = Unit {0}
HasKnownVersion (Cert l) = Unit {0}
