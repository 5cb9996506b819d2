-- The text of a line is read as the line.
use Rattle.sm_proof.proofs.Imports.{◌≡◌, ℕ, ◌<◌, ◌≤◌, ◌^◌, Bool, true, if◌then◌else◌, Option, Ok, List, [], ◌∷◌, length, map, refl, ap, ◌∙◌, arith, zero, suc, codes, decimal, signed_decimal, FormKind, TermKind, IsWithinFields, IsLiteral, AreNumbers, any, copy, side, set, version_word, head_word, term_word, form_word, head_of, ProofLine, NumberedLine, Header, Term, Form, Node, Cert, found_or, tested_or, node_head, line_head, BadLine, BadNumber, words_of, number_in, numbers_in, read_rest, read_term, read_form, spaced, line_words, HasKnownVersion, SpelledReadsBack, decimal_digit, le_true}
use Rattle.std.proofs.Common.{ℤ}
use Rattle.sm_proof.specs.declared.kind.FormKind.TheVariants as kind
use Rattle.sm_proof.specs.declared.kind.TermKind.TheVariants as kinds
use Rattle.sm_proof.specs.declared.line.FormLine.TheVariants as form
use Rattle.sm_proof.specs.declared.line.NodeLine.TheVariants as node
use Rattle.sm_proof.specs.declared.line.TermLine.TheVariants as term
use Rattle.sm_proof.specs.declared.word.Head.TheVariants as head
use Rattle.sm_proof.specs.Lines as line
use Rattle.sm_proof.specs.Lines.{TermLine, NodeLine, FormLine}
use Rattle.sm_proof.specs.Named.{Head}
use Rattle.sm_proof.specs.Reading.{read, read_words, read_second, read_literal, read_cong, read_version}
use Rattle.sm_proof.specs.Spelling.{spelled}
use Rattle.sm_proof.proofs.ClearLemmas.{line_clear, small_copy, small_side, small_set}
use Rattle.sm_proof.proofs.FieldLemmas.{taking_spelled}
use Rattle.sm_proof.proofs.KindLemmas.{head_found, term_kind_found, form_kind_found, head_no_version}
use Rattle.sm_proof.proofs.NumberLemmas.{number_spelled, numbers_spelled, literal_spelled, literal_fits}
use Rattle.sm_proof.proofs.SplitLemmas.{are_clear, words_spaced}

upto : (n : ℕ) → n < 2 ^ 64 → n ≤ any
upto n low = omega arith

-- words of a line are read behind its first words
rest_read : (h : Head) (words : List (List ℕ)) → read_words (head_word h ∷ words) ≡ read_rest h words
unfolding read_words
rest_read h words =
    ap (λ (b : Bool). if b then read_version words else found_or (head_of (head_word h)) BadLine (λ (k : Head). read_rest k words))
    (head_no_version h)
    ∙ ap (λ (o : Option Head). found_or o BadLine (λ (k : Head). read_rest k words)) (head_found h)

term_read : (k : TermKind) (words : List (List ℕ)) → read_words (head_word head.T ∷ term_word k ∷ words) ≡ read_term k words
unfolding read_second
term_read k words =
    rest_read head.T (term_word k ∷ words)
    ∙ ap (λ (o : Option TermKind). found_or o BadLine (λ (j : TermKind). read_term j words)) (term_kind_found k)

form_read : (k : FormKind) (words : List (List ℕ)) → read_words (head_word head.P ∷ form_word k ∷ words) ≡ read_form k words
unfolding read_second
form_read k words =
    rest_read head.P (form_word k ∷ words)
    ∙ ap (λ (o : Option FormKind). found_or o BadLine (λ (j : FormKind). read_form j words)) (form_kind_found k)

literal_back : (z : ℤ) → IsLiteral z → read_literal (signed_decimal z ∷ []) ≡ Ok (Term (term.Lit z))
unfolding read_literal
literal_back z h =
    ap (λ (o : Option ℤ). found_or o BadNumber (λ (y : ℤ). Ok (Term (term.Lit y)))) (literal_spelled z (literal_fits z h))

cong_back : (t u : ℕ) (ns : List ℕ) → AreNumbers (t ∷ u ∷ ns) → read_cong (map decimal (t ∷ u ∷ ns)) ≡ Ok (Cert (line.Cong t u ns))
unfolding read_cong
cong_back t u ns h =
    let a = number_spelled any t (upto t h.0) (omega (arith, h.0)) in
    let b = number_spelled any u (upto u h.1.0) (omega (arith, h.1.0)) in
    let c = numbers_spelled ns h.1.1 in
    ap (λ (o : Option ℕ). found_or o BadNumber (λ (m : ℕ). found_or (number_in any (decimal u)) BadNumber (λ (n : ℕ). found_or
    (numbers_in any (map decimal ns)) BadNumber (λ (ks : List ℕ). Ok (Cert (line.Cong m n ks)))))) a
    ∙ ap (λ (o : Option ℕ). found_or o BadNumber (λ (n : ℕ). found_or (numbers_in any (map decimal ns)) BadNumber (λ (ks : List ℕ). Ok
    (Cert (line.Cong t n ks))))) b
    ∙ ap (λ (o : Option (List ℕ)). found_or o BadNumber (λ (ks : List ℕ). Ok (Cert (line.Cong t u ks)))) c

term_back : (t : TermLine) → IsWithinFields (Term t) → read_words (line_words (Term t)) ≡ Ok (Term t)
term_back (term.Lit z) h = term_read kinds.Lit (signed_decimal z ∷ []) ∙ literal_back z h
term_back (term.Start x) h =
    term_read kinds.Start (map decimal (x ∷ []))
    ∙ taking_spelled (any ∷ []) (λ x. Term (term.Start x)) (x ∷ []) (Term (term.Start x)) (upto x h, h, refl)
term_back term.Cell h =
    term_read kinds.Cell (map decimal [])
    ∙ taking_spelled [] (Term term.Cell) [] (Term term.Cell) refl
term_back (term.Slot c x) h =
    term_read kinds.Slot (map decimal (c ∷ x ∷ []))
    ∙ taking_spelled (copy ∷ any ∷ []) (λ c x. Term (term.Slot c x)) (c ∷ x ∷ []) (Term (term.Slot c x)) (
      h.0,
      small_copy c h.0,
      (upto x h.1, h.1, refl),
    )
term_back (term.Cur c x) h =
    term_read kinds.Cur (map decimal (c ∷ x ∷ []))
    ∙ taking_spelled (copy ∷ any ∷ []) (λ c x. Term (term.Cur c x)) (c ∷ x ∷ []) (Term (term.Cur c x)) (
      h.0,
      small_copy c h.0,
      (upto x h.1, h.1, refl),
    )
term_back (term.Of n s) h =
    term_read kinds.Of (map decimal (n ∷ s ∷ []))
    ∙ taking_spelled (any ∷ side ∷ []) (λ n s. Term (term.Of n s)) (n ∷ s ∷ []) (Term (term.Of n s)) (
      upto n h.0,
      h.0,
      (h.1, small_side s h.1, refl),
    )
term_back (term.Arg t k) h =
    term_read kinds.Arg (map decimal (t ∷ k ∷ []))
    ∙ taking_spelled (any ∷ any ∷ []) (λ t k. Term (term.Arg t k)) (t ∷ k ∷ []) (Term (term.Arg t k)) (
      upto t h.0,
      h.0,
      (upto k h.1, h.1, refl),
    )
term_back (term.Read t u) h =
    term_read kinds.Read (map decimal (t ∷ u ∷ []))
    ∙ taking_spelled (any ∷ any ∷ []) (λ t u. Term (term.Read t u)) (t ∷ u ∷ []) (Term (term.Read t u)) (
      upto t h.0,
      h.0,
      (upto u h.1, h.1, refl),
    )
term_back (term.Write t u v) h =
    term_read kinds.Write (map decimal (t ∷ u ∷ v ∷ []))
    ∙ taking_spelled (any ∷ any ∷ any ∷ []) (λ t u v. Term (term.Write t u v)) (t ∷ u ∷ v ∷ []) (Term (term.Write t u v)) (
      upto t h.0,
      h.0,
      (upto u h.1, h.1, (upto v h.2, h.2, refl)),
    )
term_back (term.Neg t) h =
    term_read kinds.Neg (map decimal (t ∷ []))
    ∙ taking_spelled (any ∷ []) (λ t. Term (term.Neg t)) (t ∷ []) (Term (term.Neg t)) (upto t h, h, refl)
term_back (term.Add t u) h =
    term_read kinds.Add (map decimal (t ∷ u ∷ []))
    ∙ taking_spelled (any ∷ any ∷ []) (λ t u. Term (term.Add t u)) (t ∷ u ∷ []) (Term (term.Add t u)) (
      upto t h.0,
      h.0,
      (upto u h.1, h.1, refl),
    )
term_back (term.Sub t u) h =
    term_read kinds.Sub (map decimal (t ∷ u ∷ []))
    ∙ taking_spelled (any ∷ any ∷ []) (λ t u. Term (term.Sub t u)) (t ∷ u ∷ []) (Term (term.Sub t u)) (
      upto t h.0,
      h.0,
      (upto u h.1, h.1, refl),
    )
term_back (term.Mul t u) h =
    term_read kinds.Mul (map decimal (t ∷ u ∷ []))
    ∙ taking_spelled (any ∷ any ∷ []) (λ t u. Term (term.Mul t u)) (t ∷ u ∷ []) (Term (term.Mul t u)) (
      upto t h.0,
      h.0,
      (upto u h.1, h.1, refl),
    )

form_back : (f : FormLine) → IsWithinFields (Form f) → read_words (line_words (Form f)) ≡ Ok (Form f)
form_back form.Yes h =
    form_read kind.Yes (map decimal [])
    ∙ taking_spelled [] (Form form.Yes) [] (Form form.Yes) refl
form_back form.No h =
    form_read kind.No (map decimal [])
    ∙ taking_spelled [] (Form form.No) [] (Form form.No) refl
form_back (form.Eq t u) h =
    form_read kind.Eq (map decimal (t ∷ u ∷ []))
    ∙ taking_spelled (any ∷ any ∷ []) (λ t u. Form (form.Eq t u)) (t ∷ u ∷ []) (Form (form.Eq t u)) (
      upto t h.0,
      h.0,
      (upto u h.1, h.1, refl),
    )
form_back (form.Ne t u) h =
    form_read kind.Ne (map decimal (t ∷ u ∷ []))
    ∙ taking_spelled (any ∷ any ∷ []) (λ t u. Form (form.Ne t u)) (t ∷ u ∷ []) (Form (form.Ne t u)) (
      upto t h.0,
      h.0,
      (upto u h.1, h.1, refl),
    )
form_back (form.Le t u) h =
    form_read kind.Le (map decimal (t ∷ u ∷ []))
    ∙ taking_spelled (any ∷ any ∷ []) (λ t u. Form (form.Le t u)) (t ∷ u ∷ []) (Form (form.Le t u)) (
      upto t h.0,
      h.0,
      (upto u h.1, h.1, refl),
    )
form_back (form.Lt t u) h =
    form_read kind.Lt (map decimal (t ∷ u ∷ []))
    ∙ taking_spelled (any ∷ any ∷ []) (λ t u. Form (form.Lt t u)) (t ∷ u ∷ []) (Form (form.Lt t u)) (
      upto t h.0,
      h.0,
      (upto u h.1, h.1, refl),
    )
form_back (form.And p q) h =
    form_read kind.And (map decimal (p ∷ q ∷ []))
    ∙ taking_spelled (any ∷ any ∷ []) (λ p q. Form (form.And p q)) (p ∷ q ∷ []) (Form (form.And p q)) (
      upto p h.0,
      h.0,
      (upto q h.1, h.1, refl),
    )
form_back (form.Or p q) h =
    form_read kind.Or (map decimal (p ∷ q ∷ []))
    ∙ taking_spelled (any ∷ any ∷ []) (λ p q. Form (form.Or p q)) (p ∷ q ∷ []) (Form (form.Or p q)) (
      upto p h.0,
      h.0,
      (upto q h.1, h.1, refl),
    )

node_back : (n : NodeLine) → IsWithinFields (Node n) → read_words (line_words (Node n)) ≡ Ok (Node n)
node_back (node.Step c) h =
    rest_read head.Step (map decimal (c ∷ []))
    ∙ taking_spelled (copy ∷ []) (λ c. Node (node.Step c)) (c ∷ []) (Node (node.Step c)) (h, small_copy c h, refl)
node_back (node.Abs c n) h =
    rest_read head.Abs (map decimal (c ∷ n ∷ []))
    ∙ taking_spelled (copy ∷ any ∷ []) (λ c n. Node (node.Abs c n)) (c ∷ n ∷ []) (Node (node.Abs c n)) (
      h.0,
      small_copy c h.0,
      (upto n h.1, h.1, refl),
    )
node_back (node.Fork c) h =
    rest_read head.Fork (map decimal (c ∷ []))
    ∙ taking_spelled (copy ∷ []) (λ c. Node (node.Fork c)) (c ∷ []) (Node (node.Fork c)) (h, small_copy c h, refl)
node_back (node.Loop s p) h =
    rest_read head.Loop (map decimal (s ∷ p ∷ []))
    ∙ taking_spelled (set ∷ any ∷ []) (λ s p. Node (node.Loop s p)) (s ∷ p ∷ []) (Node (node.Loop s p)) (
      h.0,
      small_set s h.0,
      (upto p h.1, h.1, refl),
    )
node_back (node.Block k0 k1 k2 k3 p) h =
    rest_read head.Block (map decimal (k0 ∷ k1 ∷ k2 ∷ k3 ∷ p ∷ []))
    ∙ taking_spelled (any ∷ any ∷ any ∷ any ∷ any ∷ []) (λ k0 k1 k2 k3 p. Node (node.Block k0 k1 k2 k3 p)) (k0 ∷ k1 ∷ k2 ∷ k3 ∷ p ∷ [])
    (Node (node.Block k0 k1 k2 k3 p)) (
      upto k0 h.0,
      h.0,
      (
        upto k1 h.1,
        h.1,
        (
          upto k2 h.2,
          h.2,
          (
            upto k3 h.3,
            h.3,
            (upto p h.4, h.4, refl),
          ),
        ),
      ),
    )
node_back node.Dead h =
    rest_read head.Dead (map decimal [])
    ∙ taking_spelled [] (Node node.Dead) [] (Node node.Dead) refl
node_back node.End h =
    rest_read head.End (map decimal [])
    ∙ taking_spelled [] (Node node.End) [] (Node node.End) refl

cert_back : (l : NumberedLine) → IsWithinFields (Cert l) → read_words (line_words (Cert l)) ≡ Ok (Cert l)
cert_back (line.Cong t u ns) h = rest_read head.Cong (map decimal (t ∷ u ∷ ns)) ∙ cong_back t u ns h
cert_back (line.Both n) h =
    rest_read head.Both (map decimal (n ∷ []))
    ∙ taking_spelled (any ∷ []) (λ n. Cert (line.Both n)) (n ∷ []) (Cert (line.Both n)) (upto n h.0, h.0, refl)
cert_back (line.Either n) h =
    rest_read head.Either (map decimal (n ∷ []))
    ∙ taking_spelled (any ∷ []) (λ n. Cert (line.Either n)) (n ∷ []) (Cert (line.Either n)) (upto n h.0, h.0, refl)
cert_back (line.Cases t u) h =
    rest_read head.Cases (map decimal (t ∷ u ∷ []))
    ∙ taking_spelled (any ∷ any ∷ []) (λ t u. Cert (line.Cases t u)) (t ∷ u ∷ []) (Cert (line.Cases t u)) (
      upto t h.0,
      h.0,
      (upto u h.1.0, h.1.0, refl),
    )
cert_back (line.Order n) h =
    rest_read head.Order (map decimal (n ∷ []))
    ∙ taking_spelled (any ∷ []) (λ n. Cert (line.Order n)) (n ∷ []) (Cert (line.Order n)) (upto n h.0, h.0, refl)
cert_back (line.Refl t) h =
    rest_read head.Refl (map decimal (t ∷ []))
    ∙ taking_spelled (any ∷ []) (λ t. Cert (line.Refl t)) (t ∷ []) (Cert (line.Refl t)) (upto t h.0, h.0, refl)
cert_back (line.Sym n) h =
    rest_read head.Sym (map decimal (n ∷ []))
    ∙ taking_spelled (any ∷ []) (λ n. Cert (line.Sym n)) (n ∷ []) (Cert (line.Sym n)) (upto n h.0, h.0, refl)
cert_back (line.Trans m n) h =
    rest_read head.Trans (map decimal (m ∷ n ∷ []))
    ∙ taking_spelled (any ∷ any ∷ []) (λ m n. Cert (line.Trans m n)) (m ∷ n ∷ []) (Cert (line.Trans m n)) (
      upto m h.0,
      h.0,
      (upto n h.1.0, h.1.0, refl),
    )
cert_back (line.Subst m n) h =
    rest_read head.Subst (map decimal (m ∷ n ∷ []))
    ∙ taking_spelled (any ∷ any ∷ []) (λ m n. Cert (line.Subst m n)) (m ∷ n ∷ []) (Cert (line.Subst m n)) (
      upto m h.0,
      h.0,
      (upto n h.1.0, h.1.0, refl),
    )
cert_back (line.Same t u) h =
    rest_read head.Same (map decimal (t ∷ u ∷ []))
    ∙ taking_spelled (any ∷ any ∷ []) (λ t u. Cert (line.Same t u)) (t ∷ u ∷ []) (Cert (line.Same t u)) (
      upto t h.0,
      h.0,
      (upto u h.1.0, h.1.0, refl),
    )
cert_back (line.Apart t u) h =
    rest_read head.Apart (map decimal (t ∷ u ∷ []))
    ∙ taking_spelled (any ∷ any ∷ []) (λ t u. Cert (line.Apart t u)) (t ∷ u ∷ []) (Cert (line.Apart t u)) (
      upto t h.0,
      h.0,
      (upto u h.1.0, h.1.0, refl),
    )
cert_back (line.Hit t n) h =
    rest_read head.Hit (map decimal (t ∷ n ∷ []))
    ∙ taking_spelled (any ∷ any ∷ []) (λ t n. Cert (line.Hit t n)) (t ∷ n ∷ []) (Cert (line.Hit t n)) (
      upto t h.0,
      h.0,
      (upto n h.1.0, h.1.0, refl),
    )
cert_back (line.Miss t u n) h =
    rest_read head.Miss (map decimal (t ∷ u ∷ n ∷ []))
    ∙ taking_spelled (any ∷ any ∷ any ∷ []) (λ t u n. Cert (line.Miss t u n)) (t ∷ u ∷ n ∷ []) (Cert (line.Miss t u n)) (
      upto t h.0,
      h.0,
      (upto u h.1.0, h.1.0, (upto n h.1.1.0, h.1.1.0, refl)),
    )
cert_back (line.Lin n) h =
    rest_read head.Lin (map decimal (n ∷ []))
    ∙ taking_spelled (any ∷ []) (λ n. Cert (line.Lin n)) (n ∷ []) (Cert (line.Lin n)) (upto n h.0, h.0, refl)
cert_back (line.Elim m n t) h =
    rest_read head.Elim (map decimal (m ∷ n ∷ t ∷ []))
    ∙ taking_spelled (any ∷ any ∷ any ∷ []) (λ m n t. Cert (line.Elim m n t)) (m ∷ n ∷ t ∷ []) (Cert (line.Elim m n t)) (
      upto m h.0,
      h.0,
      (upto n h.1.0, h.1.0, (upto t h.1.1.0, h.1.1.0, refl)),
    )
cert_back (line.Tight n) h =
    rest_read head.Tight (map decimal (n ∷ []))
    ∙ taking_spelled (any ∷ []) (λ n. Cert (line.Tight n)) (n ∷ []) (Cert (line.Tight n)) (upto n h.0, h.0, refl)
cert_back (line.Exact n) h =
    rest_read head.Exact (map decimal (n ∷ []))
    ∙ taking_spelled (any ∷ []) (λ n. Cert (line.Exact n)) (n ∷ []) (Cert (line.Exact n)) (upto n h.0, h.0, refl)
cert_back (line.Close n) h =
    rest_read head.Close (map decimal (n ∷ []))
    ∙ taking_spelled (any ∷ []) (λ n. Cert (line.Close n)) (n ∷ []) (Cert (line.Close n)) (upto n h.0, h.0, refl)
cert_back (line.Clash m n) h =
    rest_read head.Clash (map decimal (m ∷ n ∷ []))
    ∙ taking_spelled (any ∷ any ∷ []) (λ m n. Cert (line.Clash m n)) (m ∷ n ∷ []) (Cert (line.Clash m n)) (
      upto m h.0,
      h.0,
      (upto n h.1.0, h.1.0, refl),
    )

version_read : (version : ℕ) (word : List ℕ) → decimal version ≡ word → read_words (version_word ∷ word ∷ []) ≡ Ok (Header version)
    → read_words (line_words (Header version)) ≡ Ok (Header version)
version_read version word text is = ap (λ (w : List ℕ). read_words (version_word ∷ w ∷ [])) text ∙ is

version_back : (version : ℕ) → 1 ≤ version → version ≤ 3 → read_words (line_words (Header version)) ≡ Ok (Header version)
unfolding read_words read_version
version_back zero low high = absurd (omega arith)
version_back (suc zero) low high = version_read 1 (codes "1") (decimal_digit 1 (omega arith)) refl
version_back (suc (suc zero)) low high = version_read 2 (codes "2") (decimal_digit 2 (omega arith)) refl
version_back (suc (suc (suc zero))) low high = version_read 3 (codes "3") (decimal_digit 3 (omega arith)) refl
version_back (suc (suc (suc (suc n)))) low high = absurd (omega arith)

words_back : (l : ProofLine) → IsWithinFields l → HasKnownVersion l → read_words (line_words l) ≡ Ok l
words_back (Header version) h k = version_back version k.0 k.1
words_back (Term t) h k = term_back t h
words_back (Form f) h k = form_back f h
words_back (Node n) h k = node_back n h
words_back (Cert l) h k = cert_back l h

some_first : (l : ProofLine) → (word : List ℕ) × ((words : List (List ℕ)) × (line_words l ≡ word ∷ words))
some_first (Header version) = (version_word, (decimal version ∷ [], refl))
some_first (Term t) = (head_word head.T, (_, refl))
some_first (Form f) = (head_word head.P, (_, refl))
some_first (Node n) = (head_word (node_head n), (_, refl))
some_first (Cert l) = (head_word (line_head l), (_, refl))

-- the words of the text are those of the line
words_same : (words : List (List ℕ)) (word : List ℕ) (more : List (List ℕ)) → words ≡ word ∷ more → are_clear words ≡ true
    → words_of (spaced words) ≡ words
words_same [] word more e clear = cc
words_same (w ∷ ws) word more e clear = words_spaced w ws clear

pub spelled_back : SpelledReadsBack
unfolding read spelled
spelled_back l h k short =
    let s = some_first l in
    ap (λ (b : Bool). tested_or b BadLine (read_words (words_of (spaced (line_words l))))) (le_true (length (spaced
    (line_words l))) 4096 short)
    ∙ ap read_words (words_same (line_words l) s.0 s.1.0 s.1.1 (line_clear l h))
    ∙ words_back l h k
