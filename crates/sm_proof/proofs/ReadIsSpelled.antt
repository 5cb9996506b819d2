-- What is read is a line within its fields, and the bytes are its text.
use Rattle.sm_proof.proofs.Imports.{◌≡◌, ℕ, ◌<◌, ◌≤◌, ◌^◌, Bool, true, false, nat_le, if◌then◌else◌, Option, Some, None, Ok, Err, List, [], ◌∷◌, length, refl, sym, ap, subst, ◌∙◌, arith, codes, bytes_eq, decimal, decimal_digit, bytes_eq-Decides, FormKind, TermKind, IsWithinFields, any, copy, side, set, version_word, head_word, term_word, form_word, head_of, term_kind_of, form_kind_of, ProofLine, NumberedLine, Header, Term, Form, Node, Cert, found_or, tested_or, BadLine, BadNumber, words_of, number_in, numbers_in, literal_in, read_rest, read_term, read_form, spaced, line_words, HasKnownVersion, ReadIsSpelled}
use Rattle.std.proofs.Common.{ℤ}
use Rattle.sm_proof.specs.declared.kind.FormKind.TheVariants as kind
use Rattle.sm_proof.specs.declared.kind.TermKind.TheVariants as kinds
use Rattle.sm_proof.specs.declared.line.FormLine.TheVariants as form
use Rattle.sm_proof.specs.declared.line.NodeLine.TheVariants as node
use Rattle.sm_proof.specs.declared.line.TermLine.TheVariants as term
use Rattle.sm_proof.specs.declared.word.Head.TheVariants as head
use Rattle.sm_proof.specs.Lines as line
use Rattle.sm_proof.specs.Named.{Head}
use Rattle.sm_proof.specs.Reading.{read, read_words, read_second, read_literal, read_cong, read_version}
use Rattle.sm_proof.specs.Spelling.{spelled}
use Rattle.sm_proof.proofs.FieldLemmas.{taking_back}
use Rattle.sm_proof.proofs.KindLemmas.{head_is, term_kind_is, form_kind_is}
use Rattle.sm_proof.proofs.NumberLemmas.{number_back, numbers_back, literal_back, fits_literal}
use Rattle.sm_proof.proofs.SplitLemmas.{spaced_words}

-- words are those of a line within its fields
abbrev pub IsTextOf : List (List ℕ) → ProofLine → Type 0
IsTextOf words line = (words ≡ line_words line) × IsWithinFields line × HasKnownVersion line

-- a number that is at most the greatest has 64 bits
below : (n : ℕ) → n ≤ any → n < 2 ^ 64
below n low = omega arith

literal_is : (words : List (List ℕ)) (l : ProofLine) → read_literal words ≡ Ok l
    → IsTextOf (head_word head.T ∷ term_word kinds.Lit ∷ words) l
unfolding read_literal
literal_is [] l is = cc
literal_is (word ∷ next ∷ words) l is = cc
literal_is (word ∷ []) l is = by (literal_in word) refl is
  where
    by : (o : Option ℤ) → literal_in word ≡ o → found_or o BadNumber (λ (z : ℤ). Ok (Term (term.Lit z))) ≡ Ok l
        → IsTextOf (head_word head.T ∷ term_word kinds.Lit ∷ word ∷ []) l
    by None e h = cc
    by (Some z) e h =
        let b = literal_back z word e in
        let same : Term (term.Lit z) ≡ l = cc in
        subst (IsTextOf (head_word head.T ∷ term_word kinds.Lit ∷ word ∷ [])) same
        (ap (λ (w : List ℕ). head_word head.T ∷ term_word kinds.Lit ∷ w ∷ []) b.1, fits_literal z b.0, tt)

term_is : (k : TermKind) (words : List (List ℕ)) (l : ProofLine) → read_term k words ≡ Ok l
    → IsTextOf (head_word head.T ∷ term_word k ∷ words) l
term_is kinds.Lit words l is = literal_is words l is
term_is kinds.Start words l is =
    taking_back (any ∷ []) (λ x. Term (term.Start x)) words l (λ ws m. IsTextOf (head_word head.T ∷ term_word kinds.Start ∷ ws) m) is
    (λ x hx. (refl, below x hx, tt))
term_is kinds.Cell words l is =
    taking_back [] (Term term.Cell) words l (λ ws m. IsTextOf (head_word head.T ∷ term_word kinds.Cell ∷ ws) m) is
    (refl, tt, tt)
term_is kinds.Slot words l is =
    taking_back (copy ∷ any ∷ []) (λ c x. Term (term.Slot c x)) words l (λ ws m. IsTextOf
    (head_word head.T ∷ term_word kinds.Slot ∷ ws) m) is
    (λ c hc x hx. (refl, (hc, below x hx), tt))
term_is kinds.Cur words l is =
    taking_back (copy ∷ any ∷ []) (λ c x. Term (term.Cur c x)) words l (λ ws m. IsTextOf (head_word head.T ∷ term_word kinds.Cur ∷ ws) m) is
    (λ c hc x hx. (refl, (hc, below x hx), tt))
term_is kinds.Of words l is =
    taking_back (any ∷ side ∷ []) (λ n s. Term (term.Of n s)) words l (λ ws m. IsTextOf (head_word head.T ∷ term_word kinds.Of ∷ ws) m) is
    (λ n hn s hs. (refl, (below n hn, hs), tt))
term_is kinds.Arg words l is =
    taking_back (any ∷ any ∷ []) (λ t k. Term (term.Arg t k)) words l (λ ws m. IsTextOf (head_word head.T ∷ term_word kinds.Arg ∷ ws) m) is
    (λ t ht k hk. (refl, (below t ht, below k hk), tt))
term_is kinds.Read words l is =
    taking_back (any ∷ any ∷ []) (λ t u. Term (term.Read t u)) words l (λ ws m. IsTextOf
    (head_word head.T ∷ term_word kinds.Read ∷ ws) m) is
    (λ t ht u hu. (refl, (below t ht, below u hu), tt))
term_is kinds.Write words l is =
    taking_back (any ∷ any ∷ any ∷ []) (λ t u v. Term (term.Write t u v)) words l (λ ws m. IsTextOf
    (head_word head.T ∷ term_word kinds.Write ∷ ws) m) is
    (λ t ht u hu v hv. (refl, (below t ht, below u hu, below v hv), tt))
term_is kinds.Neg words l is =
    taking_back (any ∷ []) (λ t. Term (term.Neg t)) words l (λ ws m. IsTextOf (head_word head.T ∷ term_word kinds.Neg ∷ ws) m) is
    (λ t ht. (refl, below t ht, tt))
term_is kinds.Add words l is =
    taking_back (any ∷ any ∷ []) (λ t u. Term (term.Add t u)) words l (λ ws m. IsTextOf (head_word head.T ∷ term_word kinds.Add ∷ ws) m) is
    (λ t ht u hu. (refl, (below t ht, below u hu), tt))
term_is kinds.Sub words l is =
    taking_back (any ∷ any ∷ []) (λ t u. Term (term.Sub t u)) words l (λ ws m. IsTextOf (head_word head.T ∷ term_word kinds.Sub ∷ ws) m) is
    (λ t ht u hu. (refl, (below t ht, below u hu), tt))
term_is kinds.Mul words l is =
    taking_back (any ∷ any ∷ []) (λ t u. Term (term.Mul t u)) words l (λ ws m. IsTextOf (head_word head.T ∷ term_word kinds.Mul ∷ ws) m) is
    (λ t ht u hu. (refl, (below t ht, below u hu), tt))

form_is : (k : FormKind) (words : List (List ℕ)) (l : ProofLine) → read_form k words ≡ Ok l
    → IsTextOf (head_word head.P ∷ form_word k ∷ words) l
form_is kind.Yes words l is =
    taking_back [] (Form form.Yes) words l (λ ws m. IsTextOf (head_word head.P ∷ form_word kind.Yes ∷ ws) m) is
    (refl, tt, tt)
form_is kind.No words l is =
    taking_back [] (Form form.No) words l (λ ws m. IsTextOf (head_word head.P ∷ form_word kind.No ∷ ws) m) is
    (refl, tt, tt)
form_is kind.Eq words l is =
    taking_back (any ∷ any ∷ []) (λ t u. Form (form.Eq t u)) words l (λ ws m. IsTextOf (head_word head.P ∷ form_word kind.Eq ∷ ws) m) is
    (λ t ht u hu. (refl, (below t ht, below u hu), tt))
form_is kind.Ne words l is =
    taking_back (any ∷ any ∷ []) (λ t u. Form (form.Ne t u)) words l (λ ws m. IsTextOf (head_word head.P ∷ form_word kind.Ne ∷ ws) m) is
    (λ t ht u hu. (refl, (below t ht, below u hu), tt))
form_is kind.Le words l is =
    taking_back (any ∷ any ∷ []) (λ t u. Form (form.Le t u)) words l (λ ws m. IsTextOf (head_word head.P ∷ form_word kind.Le ∷ ws) m) is
    (λ t ht u hu. (refl, (below t ht, below u hu), tt))
form_is kind.Lt words l is =
    taking_back (any ∷ any ∷ []) (λ t u. Form (form.Lt t u)) words l (λ ws m. IsTextOf (head_word head.P ∷ form_word kind.Lt ∷ ws) m) is
    (λ t ht u hu. (refl, (below t ht, below u hu), tt))
form_is kind.And words l is =
    taking_back (any ∷ any ∷ []) (λ p q. Form (form.And p q)) words l (λ ws m. IsTextOf (head_word head.P ∷ form_word kind.And ∷ ws) m) is
    (λ p hp q hq. (refl, (below p hp, below q hq), tt))
form_is kind.Or words l is =
    taking_back (any ∷ any ∷ []) (λ p q. Form (form.Or p q)) words l (λ ws m. IsTextOf (head_word head.P ∷ form_word kind.Or ∷ ws) m) is
    (λ p hp q hq. (refl, (below p hp, below q hq), tt))

second_term_is : (words : List (List ℕ)) (l : ProofLine) → read_second term_kind_of read_term words ≡ Ok l
    → IsTextOf (head_word head.T ∷ words) l
unfolding read_second
second_term_is [] l is = cc
second_term_is (word ∷ words) l is = by (term_kind_of word) refl is
  where
    by : (o : Option TermKind) → term_kind_of word ≡ o → found_or o BadLine (λ (k : TermKind). read_term k words) ≡ Ok l
        → IsTextOf (head_word head.T ∷ word ∷ words) l
    by None e h = cc
    by (Some k) e h = subst (λ (w : List ℕ). IsTextOf (head_word head.T ∷ w ∷ words) l) (term_kind_is word k e) (term_is k words l h)

second_form_is : (words : List (List ℕ)) (l : ProofLine) → read_second form_kind_of read_form words ≡ Ok l
    → IsTextOf (head_word head.P ∷ words) l
unfolding read_second
second_form_is [] l is = cc
second_form_is (word ∷ words) l is = by (form_kind_of word) refl is
  where
    by : (o : Option FormKind) → form_kind_of word ≡ o → found_or o BadLine (λ (k : FormKind). read_form k words) ≡ Ok l
        → IsTextOf (head_word head.P ∷ word ∷ words) l
    by None e h = cc
    by (Some k) e h = subst (λ (w : List ℕ). IsTextOf (head_word head.P ∷ w ∷ words) l) (form_kind_is word k e) (form_is k words l h)

cong_is : (words : List (List ℕ)) (l : ProofLine) → read_cong words ≡ Ok l → IsTextOf (head_word head.Cong ∷ words) l
unfolding read_cong
cong_is [] l is = cc
cong_is (t ∷ []) l is = cc
cong_is (t ∷ u ∷ facts) l is = by (number_in any t) refl (number_in any u) refl (numbers_in any facts) refl is
  where
    by : (o : Option ℕ) → number_in any t ≡ o → (p : Option ℕ) → number_in any u ≡ p → (q : Option (List ℕ)) → numbers_in any facts ≡ q
        → found_or o BadNumber (λ (m : ℕ). found_or p BadNumber (λ (n : ℕ). found_or q BadNumber (λ (ns : List ℕ). Ok (Cert
        (line.Cong m n ns))))) ≡ Ok l
        → IsTextOf (head_word head.Cong ∷ t ∷ u ∷ facts) l
    by None e p f q g h = cc
    by (Some m) e None f q g h = cc
    by (Some m) e (Some n) f None g h = cc
    by (Some m) e (Some n) f (Some ns) g h =
        let a = number_back any m t e in
        let b = number_back any n u f in
        let c = numbers_back ns facts g in
        let same : Cert (line.Cong m n ns) ≡ l = cc in
        subst (IsTextOf (head_word head.Cong ∷ t ∷ u ∷ facts)) same
        ((λ i. head_word head.Cong ∷ a.1 i ∷ b.1 i ∷ c.1 i), (below m a.0, (below n b.0, c.0)), tt)

rest_is : (h : Head) (words : List (List ℕ)) (l : ProofLine) → read_rest h words ≡ Ok l → IsTextOf (head_word h ∷ words) l
rest_is head.T words l is = second_term_is words l is
rest_is head.P words l is = second_form_is words l is
rest_is head.Cong words l is = cong_is words l is
rest_is head.Step words l is =
    taking_back (copy ∷ []) (λ c. Node (node.Step c)) words l (λ ws m. IsTextOf (head_word head.Step ∷ ws) m) is
    (λ c hc. (refl, hc, tt))
rest_is head.Abs words l is =
    taking_back (copy ∷ any ∷ []) (λ c n. Node (node.Abs c n)) words l (λ ws m. IsTextOf (head_word head.Abs ∷ ws) m) is
    (λ c hc n hn. (refl, (hc, below n hn), tt))
rest_is head.Fork words l is =
    taking_back (copy ∷ []) (λ c. Node (node.Fork c)) words l (λ ws m. IsTextOf (head_word head.Fork ∷ ws) m) is
    (λ c hc. (refl, hc, tt))
rest_is head.Loop words l is =
    taking_back (set ∷ any ∷ []) (λ s p. Node (node.Loop s p)) words l (λ ws m. IsTextOf (head_word head.Loop ∷ ws) m) is
    (λ s hs p hp. (refl, (hs, below p hp), tt))
rest_is head.Block words l is =
    taking_back (any ∷ any ∷ any ∷ any ∷ any ∷ []) (λ k0 k1 k2 k3 p. Node (node.Block k0 k1 k2 k3 p)) words l (λ ws m. IsTextOf
    (head_word head.Block ∷ ws) m) is
    (λ k0 hk0 k1 hk1 k2 hk2 k3 hk3 p hp. (refl, (below k0 hk0, below k1 hk1, below k2 hk2, below k3 hk3, below p hp), tt))
rest_is head.Dead words l is =
    taking_back [] (Node node.Dead) words l (λ ws m. IsTextOf (head_word head.Dead ∷ ws) m) is
    (refl, tt, tt)
rest_is head.End words l is =
    taking_back [] (Node node.End) words l (λ ws m. IsTextOf (head_word head.End ∷ ws) m) is
    (refl, tt, tt)
rest_is head.Both words l is =
    taking_back (any ∷ []) (λ n. Cert (line.Both n)) words l (λ ws m. IsTextOf (head_word head.Both ∷ ws) m) is
    (λ n hn. (refl, (below n hn, tt), tt))
rest_is head.Either words l is =
    taking_back (any ∷ []) (λ n. Cert (line.Either n)) words l (λ ws m. IsTextOf (head_word head.Either ∷ ws) m) is
    (λ n hn. (refl, (below n hn, tt), tt))
rest_is head.Cases words l is =
    taking_back (any ∷ any ∷ []) (λ t u. Cert (line.Cases t u)) words l (λ ws m. IsTextOf (head_word head.Cases ∷ ws) m) is
    (λ t ht u hu. (refl, (below t ht, (below u hu, tt)), tt))
rest_is head.Order words l is =
    taking_back (any ∷ []) (λ n. Cert (line.Order n)) words l (λ ws m. IsTextOf (head_word head.Order ∷ ws) m) is
    (λ n hn. (refl, (below n hn, tt), tt))
rest_is head.Refl words l is =
    taking_back (any ∷ []) (λ t. Cert (line.Refl t)) words l (λ ws m. IsTextOf (head_word head.Refl ∷ ws) m) is
    (λ t ht. (refl, (below t ht, tt), tt))
rest_is head.Sym words l is =
    taking_back (any ∷ []) (λ n. Cert (line.Sym n)) words l (λ ws m. IsTextOf (head_word head.Sym ∷ ws) m) is
    (λ n hn. (refl, (below n hn, tt), tt))
rest_is head.Trans words l is =
    taking_back (any ∷ any ∷ []) (λ m n. Cert (line.Trans m n)) words l (λ ws m. IsTextOf (head_word head.Trans ∷ ws) m) is
    (λ m hm n hn. (refl, (below m hm, (below n hn, tt)), tt))
rest_is head.Subst words l is =
    taking_back (any ∷ any ∷ []) (λ m n. Cert (line.Subst m n)) words l (λ ws m. IsTextOf (head_word head.Subst ∷ ws) m) is
    (λ m hm n hn. (refl, (below m hm, (below n hn, tt)), tt))
rest_is head.Same words l is =
    taking_back (any ∷ any ∷ []) (λ t u. Cert (line.Same t u)) words l (λ ws m. IsTextOf (head_word head.Same ∷ ws) m) is
    (λ t ht u hu. (refl, (below t ht, (below u hu, tt)), tt))
rest_is head.Apart words l is =
    taking_back (any ∷ any ∷ []) (λ t u. Cert (line.Apart t u)) words l (λ ws m. IsTextOf (head_word head.Apart ∷ ws) m) is
    (λ t ht u hu. (refl, (below t ht, (below u hu, tt)), tt))
rest_is head.Hit words l is =
    taking_back (any ∷ any ∷ []) (λ t n. Cert (line.Hit t n)) words l (λ ws m. IsTextOf (head_word head.Hit ∷ ws) m) is
    (λ t ht n hn. (refl, (below t ht, (below n hn, tt)), tt))
rest_is head.Miss words l is =
    taking_back (any ∷ any ∷ any ∷ []) (λ t u n. Cert (line.Miss t u n)) words l (λ ws m. IsTextOf (head_word head.Miss ∷ ws) m) is
    (λ t ht u hu n hn. (refl, (below t ht, (below u hu, (below n hn, tt))), tt))
rest_is head.Lin words l is =
    taking_back (any ∷ []) (λ n. Cert (line.Lin n)) words l (λ ws m. IsTextOf (head_word head.Lin ∷ ws) m) is
    (λ n hn. (refl, (below n hn, tt), tt))
rest_is head.Elim words l is =
    taking_back (any ∷ any ∷ any ∷ []) (λ m n t. Cert (line.Elim m n t)) words l (λ ws m. IsTextOf (head_word head.Elim ∷ ws) m) is
    (λ m hm n hn t ht. (refl, (below m hm, (below n hn, (below t ht, tt))), tt))
rest_is head.Tight words l is =
    taking_back (any ∷ []) (λ n. Cert (line.Tight n)) words l (λ ws m. IsTextOf (head_word head.Tight ∷ ws) m) is
    (λ n hn. (refl, (below n hn, tt), tt))
rest_is head.Exact words l is =
    taking_back (any ∷ []) (λ n. Cert (line.Exact n)) words l (λ ws m. IsTextOf (head_word head.Exact ∷ ws) m) is
    (λ n hn. (refl, (below n hn, tt), tt))
rest_is head.Close words l is =
    taking_back (any ∷ []) (λ n. Cert (line.Close n)) words l (λ ws m. IsTextOf (head_word head.Close ∷ ws) m) is
    (λ n hn. (refl, (below n hn, tt), tt))
rest_is head.Clash words l is =
    taking_back (any ∷ any ∷ []) (λ m n. Cert (line.Clash m n)) words l (λ ws m. IsTextOf (head_word head.Clash ∷ ws) m) is
    (λ m hm n hn. (refl, (below m hm, (below n hn, tt)), tt))

version_is : (words : List (List ℕ)) (l : ProofLine) → read_version words ≡ Ok l → IsTextOf (version_word ∷ words) l
unfolding read_version
version_is [] l is = cc
version_is (word ∷ next ∷ words) l is = cc
version_is (word ∷ []) l is =
    by (bytes_eq (codes "1") word) refl (bytes_eq (codes "2") word) refl (bytes_eq (codes "3") word) refl is
  where
    one : (n : ℕ) → decimal n ≡ word → 1 ≤ n → n ≤ 3 → Header n ≡ l → IsTextOf (version_word ∷ word ∷ []) l
    one n text low high same =
        subst (IsTextOf (version_word ∷ word ∷ [])) same
        (ap (λ (w : List ℕ). version_word ∷ w ∷ []) (sym text), omega arith, (low, high))

    by : (a : Bool) → bytes_eq (codes "1") word ≡ a → (b : Bool) → bytes_eq (codes "2") word ≡ b → (c : Bool)
        → bytes_eq (codes "3") word ≡ c
        → (if a then Ok (Header 1) else (if b then Ok (Header 2) else (if c then Ok (Header 3) else Err BadLine))) ≡ Ok l
        → IsTextOf (version_word ∷ word ∷ []) l
    by true e b f c g h = one 1 (decimal_digit 1 (omega arith) ∙ (bytes_eq-Decides (codes "1") word).0 e) (omega arith) (omega arith) cc
    by false e true f c g h = one 2 (decimal_digit 2 (omega arith) ∙ (bytes_eq-Decides (codes "2") word).0 f) (omega arith) (omega arith) cc
    by false e false f true g h = one 3 (decimal_digit 3 (omega arith)
        ∙ (bytes_eq-Decides (codes "3") word).0 g) (omega arith) (omega arith) cc
    by false e false f false g h = cc

words_are : (words : List (List ℕ)) (l : ProofLine) → read_words words ≡ Ok l → IsTextOf words l
unfolding read_words
words_are [] l is = cc
words_are (word ∷ words) l is = by (bytes_eq version_word word) refl is
  where
    headed : (o : Option Head) → head_of word ≡ o → found_or o BadLine (λ (h : Head). read_rest h words) ≡ Ok l → IsTextOf (word ∷ words) l
    headed None e h = cc
    headed (Some h) e k = subst (λ (w : List ℕ). IsTextOf (w ∷ words) l) (head_is word h e) (rest_is h words l k)

    by : (b : Bool) → bytes_eq version_word word ≡ b
        → (if b then read_version words else found_or (head_of word) BadLine (λ (h : Head). read_rest h words)) ≡ Ok l
        → IsTextOf (word ∷ words) l
    by true e h = subst (λ (w : List ℕ). IsTextOf (w ∷ words) l) ((bytes_eq-Decides version_word word).0 e) (version_is words l h)
    by false e h = headed (head_of word) refl h

-- what is read is the line of the bytes' words
pub read_text : (bytes : List ℕ) (l : ProofLine) → read bytes ≡ Ok l → IsTextOf (words_of bytes) l
unfolding read
read_text bytes l is = by (nat_le (length bytes) 4096) is
  where
    by : (b : Bool) → tested_or b BadLine (read_words (words_of bytes)) ≡ Ok l → IsTextOf (words_of bytes) l
    by false h = cc
    by true h = words_are (words_of bytes) l h

pub read_spelled : ReadIsSpelled
unfolding spelled
read_spelled bytes l is = let t = read_text bytes l is in (sym (spaced_words bytes) ∙ ap spaced t.0, t.1, t.2)
