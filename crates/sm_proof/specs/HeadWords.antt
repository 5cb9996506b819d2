-- Cited by public clauses: the words of lines, and the words of a rejection, as bytes.
use Rattle.std.specs.Prelude.{ℕ, Option, List, [], ◌∷◌, codes}
use Rattle.std.specs.List.{find}
use Rattle.std.specs.Str.{bytes_eq}
use Rattle.sm_proof.specs.declared.kind.FormKind.{FormKind}
use Rattle.sm_proof.specs.declared.kind.FormKind.TheVariants as form
use Rattle.sm_proof.specs.declared.kind.TermKind.{TermKind}
use Rattle.sm_proof.specs.declared.kind.TermKind.TheVariants as term
use Rattle.sm_proof.specs.declared.word.Head.{Head}
use Rattle.sm_proof.specs.declared.word.Head.TheVariants as head
use Rattle.sm_proof.specs.declared.word.Word.{Word}
use Rattle.sm_proof.specs.declared.word.Word.TheVariants.{Truncated, BadVersion, BadLine, BadNumber, Extra, Order, Deep, First}

-- the first word of a version line
abbrev pub version_word : List ℕ
version_word = codes "safemerge-proof"

-- the first word of any other line
abbrev pub head_word : Head → List ℕ
head_word head.T = codes "t"
head_word head.P = codes "p"
head_word head.Step = codes "step"
head_word head.Abs = codes "abs"
head_word head.Fork = codes "fork"
head_word head.Loop = codes "loop"
head_word head.Block = codes "block"
head_word head.Dead = codes "dead"
head_word head.End = codes "end"
head_word head.Both = codes "both"
head_word head.Either = codes "either"
head_word head.Cases = codes "cases"
head_word head.Order = codes "order"
head_word head.Refl = codes "refl"
head_word head.Sym = codes "sym"
head_word head.Trans = codes "trans"
head_word head.Subst = codes "subst"
head_word head.Cong = codes "cong"
head_word head.Same = codes "same"
head_word head.Apart = codes "apart"
head_word head.Hit = codes "hit"
head_word head.Miss = codes "miss"
head_word head.Lin = codes "lin"
head_word head.Elim = codes "elim"
head_word head.Tight = codes "tight"
head_word head.Exact = codes "exact"
head_word head.Close = codes "close"
head_word head.Clash = codes "clash"

-- the second word of a line that makes a term
abbrev pub term_word : TermKind → List ℕ
term_word term.Lit = codes "lit"
term_word term.Start = codes "start"
term_word term.Cell = codes "cell"
term_word term.Slot = codes "slot"
term_word term.Cur = codes "cur"
term_word term.Of = codes "of"
term_word term.Arg = codes "arg"
term_word term.Read = codes "read"
term_word term.Write = codes "write"
term_word term.Neg = codes "neg"
term_word term.Add = codes "add"
term_word term.Sub = codes "sub"
term_word term.Mul = codes "mul"

-- the second word of a line that makes a formula
abbrev pub form_word : FormKind → List ℕ
form_word form.Yes = codes "yes"
form_word form.No = codes "no"
form_word form.Eq = codes "eq"
form_word form.Ne = codes "ne"
form_word form.Le = codes "le"
form_word form.Lt = codes "lt"
form_word form.And = codes "and"
form_word form.Or = codes "or"

-- all first words but that of a version line, by their kinds
abbrev pub heads : List Head
heads =
    head.T ∷ head.P ∷ head.Step ∷ head.Abs ∷ head.Fork ∷ head.Loop ∷ head.Block ∷ head.Dead
    ∷ head.End ∷ head.Both ∷ head.Either ∷ head.Cases ∷ head.Order ∷ head.Refl ∷ head.Sym
    ∷ head.Trans ∷ head.Subst ∷ head.Cong ∷ head.Same ∷ head.Apart ∷ head.Hit ∷ head.Miss
    ∷ head.Lin ∷ head.Elim ∷ head.Tight ∷ head.Exact ∷ head.Close ∷ head.Clash ∷ []

-- the kind with a first word
unfoldable pub head_of : List ℕ → Option Head
head_of word = find (λ (h : Head). bytes_eq (head_word h) word) heads

-- all second words of lines that make terms
abbrev pub term_kinds : List TermKind
term_kinds =
    term.Lit ∷ term.Start ∷ term.Cell ∷ term.Slot ∷ term.Cur ∷ term.Of ∷ term.Arg ∷ term.Read
    ∷ term.Write ∷ term.Neg ∷ term.Add ∷ term.Sub ∷ term.Mul ∷ []

-- the kind with a second word
unfoldable pub term_kind_of : List ℕ → Option TermKind
term_kind_of word = find (λ (k : TermKind). bytes_eq (term_word k) word) term_kinds

-- all second words of lines that make formulas
abbrev pub form_kinds : List FormKind
form_kinds =
    form.Yes ∷ form.No ∷ form.Eq ∷ form.Ne ∷ form.Le ∷ form.Lt ∷ form.And ∷ form.Or ∷ []

-- the kind with a second word
unfoldable pub form_kind_of : List ℕ → Option FormKind
form_kind_of word = find (λ (k : FormKind). bytes_eq (form_word k) word) form_kinds

-- the word of a rejection: that of the line's kind, or one of its own
abbrev pub word_text : Word → List ℕ
word_text Truncated = codes "Truncated"
word_text BadVersion = codes "BadVersion"
word_text BadLine = codes "BadLine"
word_text BadNumber = codes "BadNumber"
word_text Extra = codes "Extra"
word_text Order = codes "Order"
word_text Deep = codes "Deep"
word_text (First h) = head_word h
