-- Bytes that are no line are refused by one of two words.
use Rattle.sm_proof.proofs.Imports.{◌≡◌, ◌⊎◌, ℕ, Bool, true, false, nat_le, if◌then◌else◌, Option, Some, None, Ok, Err, List, [], ◌∷◌, length, inl, inr, codes, bytes_eq, FormKind, TermKind, any, copy, side, set, version_word, head_of, term_kind_of, form_kind_of, ProofLine, NumberedLine, Header, Term, Form, Node, Cert, found_or, tested_or, BadLine, BadNumber, words_of, number_in, numbers_in, literal_in, read_rest, read_term, read_form, ReadRefuses}
use Rattle.std.proofs.Common.{ℤ}
use Rattle.std.specs.Prelude.{Result}
use Rattle.sm_proof.specs.declared.kind.FormKind.TheVariants as kind
use Rattle.sm_proof.specs.declared.kind.TermKind.TheVariants as kinds
use Rattle.sm_proof.specs.declared.line.FormLine.TheVariants as form
use Rattle.sm_proof.specs.declared.line.NodeLine.TheVariants as node
use Rattle.sm_proof.specs.declared.line.TermLine.TheVariants as term
use Rattle.sm_proof.specs.declared.word.Head.TheVariants as head
use Rattle.sm_proof.specs.Lines as line
use Rattle.sm_proof.specs.Named.{Word, Head}
use Rattle.sm_proof.specs.Reading.{read, read_words, read_second, read_literal, read_cong, read_version}
use Rattle.sm_proof.proofs.FieldLemmas.{IsRefusal, taking_refuses}

literal_refuses : (words : List (List ℕ)) → IsRefusal (read_literal words)
unfolding read_literal
literal_refuses [] = tt
literal_refuses (word ∷ next ∷ words) = tt
literal_refuses (word ∷ []) = by (literal_in word)
  where
    by : (o : Option ℤ) → IsRefusal (found_or o BadNumber (λ (z : ℤ). Ok (Term (term.Lit z))))
    by None = tt
    by (Some z) = tt

term_refuses : (k : TermKind) (words : List (List ℕ)) → IsRefusal (read_term k words)
term_refuses kinds.Lit words = literal_refuses words
term_refuses kinds.Start words = taking_refuses (any ∷ []) (λ x. Term (term.Start x)) words
term_refuses kinds.Cell words = taking_refuses [] (Term term.Cell) words
term_refuses kinds.Slot words = taking_refuses (copy ∷ any ∷ []) (λ c x. Term (term.Slot c x)) words
term_refuses kinds.Cur words = taking_refuses (copy ∷ any ∷ []) (λ c x. Term (term.Cur c x)) words
term_refuses kinds.Of words = taking_refuses (any ∷ side ∷ []) (λ n s. Term (term.Of n s)) words
term_refuses kinds.Arg words = taking_refuses (any ∷ any ∷ []) (λ t k. Term (term.Arg t k)) words
term_refuses kinds.Read words = taking_refuses (any ∷ any ∷ []) (λ t u. Term (term.Read t u)) words
term_refuses kinds.Write words = taking_refuses (any ∷ any ∷ any ∷ []) (λ t u v. Term (term.Write t u v)) words
term_refuses kinds.Neg words = taking_refuses (any ∷ []) (λ t. Term (term.Neg t)) words
term_refuses kinds.Add words = taking_refuses (any ∷ any ∷ []) (λ t u. Term (term.Add t u)) words
term_refuses kinds.Sub words = taking_refuses (any ∷ any ∷ []) (λ t u. Term (term.Sub t u)) words
term_refuses kinds.Mul words = taking_refuses (any ∷ any ∷ []) (λ t u. Term (term.Mul t u)) words

form_refuses : (k : FormKind) (words : List (List ℕ)) → IsRefusal (read_form k words)
form_refuses kind.Yes words = taking_refuses [] (Form form.Yes) words
form_refuses kind.No words = taking_refuses [] (Form form.No) words
form_refuses kind.Eq words = taking_refuses (any ∷ any ∷ []) (λ t u. Form (form.Eq t u)) words
form_refuses kind.Ne words = taking_refuses (any ∷ any ∷ []) (λ t u. Form (form.Ne t u)) words
form_refuses kind.Le words = taking_refuses (any ∷ any ∷ []) (λ t u. Form (form.Le t u)) words
form_refuses kind.Lt words = taking_refuses (any ∷ any ∷ []) (λ t u. Form (form.Lt t u)) words
form_refuses kind.And words = taking_refuses (any ∷ any ∷ []) (λ p q. Form (form.And p q)) words
form_refuses kind.Or words = taking_refuses (any ∷ any ∷ []) (λ p q. Form (form.Or p q)) words

second_refuses : {K : Type 0} (kind_of : List ℕ → Option K) (behind : K → List (List ℕ) → Result ProofLine Word) (words : List (List ℕ))
    → ((k : K) (ws : List (List ℕ)) → IsRefusal (behind k ws)) → IsRefusal (read_second kind_of behind words)
unfolding read_second
second_refuses kind_of behind [] each = tt
second_refuses {K} kind_of behind (word ∷ words) each = by (kind_of word)
  where
    by : (o : Option K) → IsRefusal (found_or o BadLine (λ (k : K). behind k words))
    by None = tt
    by (Some k) = each k words

cong_refuses : (words : List (List ℕ)) → IsRefusal (read_cong words)
unfolding read_cong
cong_refuses [] = tt
cong_refuses (t ∷ []) = tt
cong_refuses (t ∷ u ∷ facts) = by (number_in any t) (number_in any u) (numbers_in any facts)
  where
    by : (o p : Option ℕ) (q : Option (List ℕ))
        → IsRefusal (found_or o BadNumber (λ (m : ℕ). found_or p BadNumber (λ (n : ℕ). found_or q BadNumber (λ (ns : List ℕ). Ok (Cert
        (line.Cong m n ns))))))
    by None p q = tt
    by (Some m) None q = tt
    by (Some m) (Some n) None = tt
    by (Some m) (Some n) (Some ns) = tt

rest_refuses : (h : Head) (words : List (List ℕ)) → IsRefusal (read_rest h words)
rest_refuses head.T words = second_refuses term_kind_of read_term words term_refuses
rest_refuses head.P words = second_refuses form_kind_of read_form words form_refuses
rest_refuses head.Cong words = cong_refuses words
rest_refuses head.Step words = taking_refuses (copy ∷ []) (λ c. Node (node.Step c)) words
rest_refuses head.Abs words = taking_refuses (copy ∷ any ∷ []) (λ c n. Node (node.Abs c n)) words
rest_refuses head.Fork words = taking_refuses (copy ∷ []) (λ c. Node (node.Fork c)) words
rest_refuses head.Loop words = taking_refuses (set ∷ any ∷ []) (λ s p. Node (node.Loop s p)) words
rest_refuses head.Block words = taking_refuses (any ∷ any ∷ any ∷ any ∷ any ∷ []) (λ k0 k1 k2 k3 p. Node (node.Block k0 k1 k2 k3 p)) words
rest_refuses head.Dead words = taking_refuses [] (Node node.Dead) words
rest_refuses head.End words = taking_refuses [] (Node node.End) words
rest_refuses head.Both words = taking_refuses (any ∷ []) (λ n. Cert (line.Both n)) words
rest_refuses head.Either words = taking_refuses (any ∷ []) (λ n. Cert (line.Either n)) words
rest_refuses head.Cases words = taking_refuses (any ∷ any ∷ []) (λ t u. Cert (line.Cases t u)) words
rest_refuses head.Order words = taking_refuses (any ∷ []) (λ n. Cert (line.Order n)) words
rest_refuses head.Refl words = taking_refuses (any ∷ []) (λ t. Cert (line.Refl t)) words
rest_refuses head.Sym words = taking_refuses (any ∷ []) (λ n. Cert (line.Sym n)) words
rest_refuses head.Trans words = taking_refuses (any ∷ any ∷ []) (λ m n. Cert (line.Trans m n)) words
rest_refuses head.Subst words = taking_refuses (any ∷ any ∷ []) (λ m n. Cert (line.Subst m n)) words
rest_refuses head.Same words = taking_refuses (any ∷ any ∷ []) (λ t u. Cert (line.Same t u)) words
rest_refuses head.Apart words = taking_refuses (any ∷ any ∷ []) (λ t u. Cert (line.Apart t u)) words
rest_refuses head.Hit words = taking_refuses (any ∷ any ∷ []) (λ t n. Cert (line.Hit t n)) words
rest_refuses head.Miss words = taking_refuses (any ∷ any ∷ any ∷ []) (λ t u n. Cert (line.Miss t u n)) words
rest_refuses head.Lin words = taking_refuses (any ∷ []) (λ n. Cert (line.Lin n)) words
rest_refuses head.Elim words = taking_refuses (any ∷ any ∷ any ∷ []) (λ m n t. Cert (line.Elim m n t)) words
rest_refuses head.Tight words = taking_refuses (any ∷ []) (λ n. Cert (line.Tight n)) words
rest_refuses head.Exact words = taking_refuses (any ∷ []) (λ n. Cert (line.Exact n)) words
rest_refuses head.Close words = taking_refuses (any ∷ []) (λ n. Cert (line.Close n)) words
rest_refuses head.Clash words = taking_refuses (any ∷ any ∷ []) (λ m n. Cert (line.Clash m n)) words

version_refuses : (words : List (List ℕ)) → IsRefusal (read_version words)
unfolding read_version
version_refuses [] = tt
version_refuses (word ∷ next ∷ words) = tt
version_refuses (word ∷ []) = by (bytes_eq (codes "1") word) (bytes_eq (codes "2") word) (bytes_eq (codes "3") word)
  where
    by : (a b c : Bool) → IsRefusal (if a then Ok (Header 1) else (if b then Ok (Header 2) else (if c then Ok (Header 3) else Err BadLine)))
    by true b c = tt
    by false true c = tt
    by false false true = tt
    by false false false = tt

words_refuse : (words : List (List ℕ)) → IsRefusal (read_words words)
unfolding read_words
words_refuse [] = tt
words_refuse (word ∷ words) = by (bytes_eq version_word word) (head_of word)
  where
    by : (b : Bool) (o : Option Head) → IsRefusal (if b then read_version words else found_or o BadLine (λ (h : Head). read_rest h words))
    by true o = version_refuses words
    by false None = tt
    by false (Some h) = rest_refuses h words

one_of_two : (r : Result ProofLine Word) (w : Word) → IsRefusal r → r ≡ Err w → (w ≡ BadLine) ⊎ (w ≡ BadNumber)
one_of_two (Ok line) w h e = cc
one_of_two (Err BadLine) w h e = inl cc
one_of_two (Err BadNumber) w h e = inr cc
one_of_two (Err _) w h e = absurd h

pub refused : ReadRefuses
unfolding read
refused bytes w is = one_of_two (tested_or (nat_le (length bytes) 4096) BadLine (read_words (words_of bytes))) w (by (nat_le
    (length bytes) 4096)) is
  where
    by : (b : Bool) → IsRefusal (tested_or b BadLine (read_words (words_of bytes)))
    by true = words_refuse (words_of bytes)
    by false = tt
