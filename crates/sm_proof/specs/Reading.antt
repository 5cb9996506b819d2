-- Cited by public clauses: the line that bytes without a line feed spell.
use Rattle.std.specs.Prelude.{ℕ, ℤ, nat_le, ◌==◌, if◌then◌else◌, length, Option, Some, None, option_map, Result, Ok, Err, List, [], ◌∷◌, codes}
use Rattle.std.specs.Str.{bytes_eq}
use Rattle.sm_proof.specs.declared.kind.FormKind.{FormKind}
use Rattle.sm_proof.specs.declared.kind.FormKind.TheVariants as kind
use Rattle.sm_proof.specs.declared.kind.TermKind.{TermKind}
use Rattle.sm_proof.specs.declared.kind.TermKind.TheVariants as kinds
use Rattle.sm_proof.specs.declared.line.FormLine.TheVariants as form
use Rattle.sm_proof.specs.declared.line.NodeLine.TheVariants as node
use Rattle.sm_proof.specs.declared.line.TermLine.TheVariants as term
use Rattle.sm_proof.specs.declared.word.Head.TheVariants as head
use Rattle.sm_proof.specs.Fields.{any, copy, side, set, taking}
use Rattle.sm_proof.specs.HeadWords.{version_word, head_of, term_kind_of, form_kind_of}
use Rattle.sm_proof.specs.Lines as line
use Rattle.sm_proof.specs.Lines.{ProofLine, Header, Term, Form, Node, Cert}
use Rattle.sm_proof.specs.Named.{found_or, tested_or, Word, BadLine, BadNumber, Head}
use Rattle.sm_proof.specs.Numbers.{words_of, number_in, literal_in, numbers_in}

-- the line of a literal
unfoldable pub read_literal : List (List ℕ) → Result ProofLine Word
read_literal [] = Err BadLine
read_literal (word ∷ []) =
    found_or (literal_in word) BadNumber (λ (z : ℤ). Ok (Term (term.Lit z)))
read_literal (word ∷ next ∷ words) = Err BadLine

-- a line that makes a term, by the words behind its second
abbrev pub read_term : TermKind → List (List ℕ) → Result ProofLine Word
read_term kinds.Lit = read_literal
read_term kinds.Start = taking (any ∷ []) (λ x. Term (term.Start x))
read_term kinds.Cell = taking [] (Term term.Cell)
read_term kinds.Slot = taking (copy ∷ any ∷ []) (λ c x. Term (term.Slot c x))
read_term kinds.Cur = taking (copy ∷ any ∷ []) (λ c x. Term (term.Cur c x))
read_term kinds.Of = taking (any ∷ side ∷ []) (λ n s. Term (term.Of n s))
read_term kinds.Arg = taking (any ∷ any ∷ []) (λ t k. Term (term.Arg t k))
read_term kinds.Read = taking (any ∷ any ∷ []) (λ t u. Term (term.Read t u))
read_term kinds.Write = taking (any ∷ any ∷ any ∷ []) (λ t u v. Term (term.Write t u v))
read_term kinds.Neg = taking (any ∷ []) (λ t. Term (term.Neg t))
read_term kinds.Add = taking (any ∷ any ∷ []) (λ t u. Term (term.Add t u))
read_term kinds.Sub = taking (any ∷ any ∷ []) (λ t u. Term (term.Sub t u))
read_term kinds.Mul = taking (any ∷ any ∷ []) (λ t u. Term (term.Mul t u))

-- one that makes a formula
abbrev pub read_form : FormKind → List (List ℕ) → Result ProofLine Word
read_form kind.Yes = taking [] (Form form.Yes)
read_form kind.No = taking [] (Form form.No)
read_form kind.Eq = taking (any ∷ any ∷ []) (λ t u. Form (form.Eq t u))
read_form kind.Ne = taking (any ∷ any ∷ []) (λ t u. Form (form.Ne t u))
read_form kind.Le = taking (any ∷ any ∷ []) (λ t u. Form (form.Le t u))
read_form kind.Lt = taking (any ∷ any ∷ []) (λ t u. Form (form.Lt t u))
read_form kind.And = taking (any ∷ any ∷ []) (λ p q. Form (form.And p q))
read_form kind.Or = taking (any ∷ any ∷ []) (λ p q. Form (form.Or p q))

-- a line of a second word
unfoldable pub read_second :
    {K : Type 0} → (List ℕ → Option K) → (K → List (List ℕ) → Result ProofLine Word)
    → List (List ℕ) → Result ProofLine Word
read_second kind_of behind [] = Err BadLine
read_second {K} kind_of behind (word ∷ words) =
    found_or (kind_of word) BadLine (λ (k : K). behind k words)

-- a line `cong`: two terms, and any count of facts
unfoldable pub read_cong : List (List ℕ) → Result ProofLine Word
read_cong [] = Err BadLine
read_cong (t ∷ []) = Err BadLine
read_cong (t ∷ u ∷ facts) =
    found_or (number_in any t) BadNumber
    (λ (m : ℕ). found_or (number_in any u) BadNumber
    (λ (n : ℕ). found_or (numbers_in any facts) BadNumber
    (λ (ns : List ℕ). Ok (Cert (line.Cong m n ns)))))

-- a line but a version line, by the words behind its first
abbrev pub read_rest : Head → List (List ℕ) → Result ProofLine Word
read_rest head.T = read_second term_kind_of read_term
read_rest head.P = read_second form_kind_of read_form
read_rest head.Step = taking (copy ∷ []) (λ c. Node (node.Step c))
read_rest head.Abs = taking (copy ∷ any ∷ []) (λ c n. Node (node.Abs c n))
read_rest head.Fork = taking (copy ∷ []) (λ c. Node (node.Fork c))
read_rest head.Loop = taking (set ∷ any ∷ []) (λ s p. Node (node.Loop s p))
read_rest head.Block = taking (any ∷ any ∷ any ∷ any ∷ any ∷ [])
    (λ k0 k1 k2 k3 p. Node (node.Block k0 k1 k2 k3 p))
read_rest head.Dead = taking [] (Node node.Dead)
read_rest head.End = taking [] (Node node.End)
read_rest head.Both = taking (any ∷ []) (λ n. Cert (line.Both n))
read_rest head.Either = taking (any ∷ []) (λ n. Cert (line.Either n))
read_rest head.Cases = taking (any ∷ any ∷ []) (λ t u. Cert (line.Cases t u))
read_rest head.Order = taking (any ∷ []) (λ n. Cert (line.Order n))
read_rest head.Refl = taking (any ∷ []) (λ t. Cert (line.Refl t))
read_rest head.Sym = taking (any ∷ []) (λ n. Cert (line.Sym n))
read_rest head.Trans = taking (any ∷ any ∷ []) (λ m n. Cert (line.Trans m n))
read_rest head.Subst = taking (any ∷ any ∷ []) (λ m n. Cert (line.Subst m n))
read_rest head.Cong = read_cong
read_rest head.Same = taking (any ∷ any ∷ []) (λ t u. Cert (line.Same t u))
read_rest head.Apart = taking (any ∷ any ∷ []) (λ t u. Cert (line.Apart t u))
read_rest head.Hit = taking (any ∷ any ∷ []) (λ t n. Cert (line.Hit t n))
read_rest head.Miss = taking (any ∷ any ∷ any ∷ []) (λ t u n. Cert (line.Miss t u n))
read_rest head.Lin = taking (any ∷ []) (λ n. Cert (line.Lin n))
read_rest head.Elim = taking (any ∷ any ∷ any ∷ []) (λ m n t. Cert (line.Elim m n t))
read_rest head.Tight = taking (any ∷ []) (λ n. Cert (line.Tight n))
read_rest head.Exact = taking (any ∷ []) (λ n. Cert (line.Exact n))
read_rest head.Close = taking (any ∷ []) (λ n. Cert (line.Close n))
read_rest head.Clash = taking (any ∷ any ∷ []) (λ m n. Cert (line.Clash m n))

-- a version line, by the words behind its first: the versions are 1, 2 and 3
unfoldable pub read_version : List (List ℕ) → Result ProofLine Word
read_version [] = Err BadLine
read_version (word ∷ []) =
    if bytes_eq (codes "1") word then Ok (Header 1) else
    (if bytes_eq (codes "2") word then Ok (Header 2) else
    (if bytes_eq (codes "3") word then Ok (Header 3) else Err BadLine))
read_version (word ∷ next ∷ words) = Err BadLine

-- the line that words spell
unfoldable pub read_words : List (List ℕ) → Result ProofLine Word
read_words [] = Err BadLine
read_words (word ∷ words) =
    if bytes_eq version_word word then read_version words else
    found_or (head_of word) BadLine (λ (h : Head). read_rest h words)

-- the line that bytes without a line feed spell, or BadLine or BadNumber
unfoldable pub read : List ℕ → Result ProofLine Word
read bytes = tested_or (nat_le (length bytes) 4096) BadLine (read_words (words_of bytes))

-- what stands before the first line feed
unfoldable pub first_line : List ℕ → Option (List ℕ)
first_line [] = None
first_line (byte ∷ bytes) =
    if byte == 10 then Some [] else option_map (λ (line : List ℕ). byte ∷ line) (first_line bytes)
