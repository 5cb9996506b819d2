-- No word of a line has a space.
use Rattle.sm_proof.proofs.Imports.{◌≡◌, ℕ, ◌<◌, ◌≤◌, ◌^◌, Bool, true, false, if◌then◌else◌, List, [], ◌∷◌, map, refl, ap, ◌∙◌, arith, pos, negsuc, suc, decimal, signed_decimal, IsWithinFields, AreNumbers, numbers_of, copy, side, set, version_word, head_word, term_word, form_word, ProofLine, Header, Term, Form, Node, Cert, line_words, AllDigits, ne_eqb, Decides-ltb, decimal_is_IsNumeral_wide, digit_from_value, fits, line_head}
use Rattle.std.proofs.Common.{ℤ}
use Rattle.sm_proof.specs.declared.kind.FormKind.TheVariants as kind
use Rattle.sm_proof.specs.declared.kind.TermKind.TheVariants as kinds
use Rattle.sm_proof.specs.declared.line.FormLine.TheVariants as form
use Rattle.sm_proof.specs.declared.line.NodeLine.TheVariants as node
use Rattle.sm_proof.specs.declared.line.TermLine.TheVariants as term
use Rattle.sm_proof.specs.declared.word.Head.TheVariants as head
use Rattle.sm_proof.specs.Named.{Head}
use Rattle.sm_proof.proofs.NumberLemmas.{literal_fits}
use Rattle.sm_proof.proofs.SplitLemmas.{is_clear, are_clear}

pub small_copy : (n : ℕ) → n ≤ copy → n < 2 ^ 64
small_copy n low = omega arith

pub small_side : (n : ℕ) → n ≤ side → n < 2 ^ 64
small_side n low = omega arith

pub small_set : (n : ℕ) → n ≤ set → n < 2 ^ 64
small_set n low = omega arith

-- no space is in a word of a line
digits_clear : (ds : List ℕ) → AllDigits 10 ds → is_clear ds ≡ true
digits_clear [] d = refl
digits_clear (c ∷ cs) d =
    ap (λ (b : Bool). if b then false else is_clear cs) (ne_eqb c 32 (λ (e : c ≡ 32). omega (arith, digit_from_value c d.0)))
    ∙ digits_clear cs d.1

decimal_clear : (n : ℕ) → n < 10 ^ 64 → is_clear (decimal n) ≡ true
decimal_clear n small = digits_clear (decimal n) (decimal_is_IsNumeral_wide n small).0.1

numbers_clear : (ns : List ℕ) → AreNumbers ns → are_clear (map decimal ns) ≡ true
numbers_clear [] h = refl
numbers_clear (n ∷ ns) h =
    ap (λ (b : Bool). if b then are_clear (map decimal ns) else false) (decimal_clear n (omega (arith, h.0))) ∙ numbers_clear ns h.1

signed_clear : (z : ℤ) → fits z ≡ true → is_clear (signed_decimal z) ≡ true
signed_clear (pos n) f = decimal_clear n (omega (arith, (Decides-ltb n (2 ^ 127)).0 f))
signed_clear (negsuc n) f = decimal_clear (suc n) (omega (arith, (Decides-ltb n (2 ^ 127)).0 f))

headed_clear : (word : List ℕ) (words : List (List ℕ)) → is_clear word ≡ true → are_clear words ≡ true → are_clear (word ∷ words) ≡ true
headed_clear word words a b = ap (λ (c : Bool). if c then are_clear words else false) a ∙ b

head_clear : (h : Head) → is_clear (head_word h) ≡ true
head_clear head.T = refl
head_clear head.P = refl
head_clear head.Step = refl
head_clear head.Abs = refl
head_clear head.Fork = refl
head_clear head.Loop = refl
head_clear head.Block = refl
head_clear head.Dead = refl
head_clear head.End = refl
head_clear head.Both = refl
head_clear head.Either = refl
head_clear head.Cases = refl
head_clear head.Order = refl
head_clear head.Refl = refl
head_clear head.Sym = refl
head_clear head.Trans = refl
head_clear head.Subst = refl
head_clear head.Cong = refl
head_clear head.Same = refl
head_clear head.Apart = refl
head_clear head.Hit = refl
head_clear head.Miss = refl
head_clear head.Lin = refl
head_clear head.Elim = refl
head_clear head.Tight = refl
head_clear head.Exact = refl
head_clear head.Close = refl
head_clear head.Clash = refl

-- behind a word and the word of a kind
second_clear : (h : Head) (word : List ℕ) (ns : List ℕ) → is_clear word ≡ true → AreNumbers ns
    → are_clear (head_word h ∷ word ∷ map decimal ns) ≡ true
second_clear h word ns w n = headed_clear (head_word h) (word ∷ map decimal ns) (head_clear h) (headed_clear word (map decimal ns) w
    (numbers_clear ns n))

pub line_clear : (l : ProofLine) → IsWithinFields l → are_clear (line_words l) ≡ true
line_clear (Header version) h = headed_clear version_word (decimal version ∷ []) refl (numbers_clear (version ∷ []) (omega arith, tt))
line_clear (Cert l) h = headed_clear (head_word (line_head l)) (map decimal (numbers_of l)) (head_clear (line_head l)) (numbers_clear
    (numbers_of l) h)
line_clear (Term (term.Lit z)) h =
    headed_clear (head_word head.T) (term_word kinds.Lit ∷ signed_decimal z ∷ []) refl
    (headed_clear (term_word kinds.Lit) (signed_decimal z ∷ []) refl (headed_clear (signed_decimal z) [] (signed_clear z
    (literal_fits z h)) refl))
line_clear (Term (term.Start x)) h = second_clear head.T (term_word kinds.Start) (x ∷ []) refl (h, tt)
line_clear (Term term.Cell) h = second_clear head.T (term_word kinds.Cell) [] refl tt
line_clear (Term (term.Slot c x)) h = second_clear head.T (term_word kinds.Slot) (c ∷ x ∷ []) refl (small_copy c h.0, (h.1, tt))
line_clear (Term (term.Cur c x)) h = second_clear head.T (term_word kinds.Cur) (c ∷ x ∷ []) refl (small_copy c h.0, (h.1, tt))
line_clear (Term (term.Of n s)) h = second_clear head.T (term_word kinds.Of) (n ∷ s ∷ []) refl (h.0, (small_side s h.1, tt))
line_clear (Term (term.Arg t k)) h = second_clear head.T (term_word kinds.Arg) (t ∷ k ∷ []) refl (h.0, (h.1, tt))
line_clear (Term (term.Read t u)) h = second_clear head.T (term_word kinds.Read) (t ∷ u ∷ []) refl (h.0, (h.1, tt))
line_clear (Term (term.Write t u v)) h = second_clear head.T (term_word kinds.Write) (t ∷ u ∷ v ∷ []) refl (h.0, (h.1, (h.2, tt)))
line_clear (Term (term.Neg t)) h = second_clear head.T (term_word kinds.Neg) (t ∷ []) refl (h, tt)
line_clear (Term (term.Add t u)) h = second_clear head.T (term_word kinds.Add) (t ∷ u ∷ []) refl (h.0, (h.1, tt))
line_clear (Term (term.Sub t u)) h = second_clear head.T (term_word kinds.Sub) (t ∷ u ∷ []) refl (h.0, (h.1, tt))
line_clear (Term (term.Mul t u)) h = second_clear head.T (term_word kinds.Mul) (t ∷ u ∷ []) refl (h.0, (h.1, tt))
line_clear (Form form.Yes) h = second_clear head.P (form_word kind.Yes) [] refl tt
line_clear (Form form.No) h = second_clear head.P (form_word kind.No) [] refl tt
line_clear (Form (form.Eq t u)) h = second_clear head.P (form_word kind.Eq) (t ∷ u ∷ []) refl (h.0, (h.1, tt))
line_clear (Form (form.Ne t u)) h = second_clear head.P (form_word kind.Ne) (t ∷ u ∷ []) refl (h.0, (h.1, tt))
line_clear (Form (form.Le t u)) h = second_clear head.P (form_word kind.Le) (t ∷ u ∷ []) refl (h.0, (h.1, tt))
line_clear (Form (form.Lt t u)) h = second_clear head.P (form_word kind.Lt) (t ∷ u ∷ []) refl (h.0, (h.1, tt))
line_clear (Form (form.And p q)) h = second_clear head.P (form_word kind.And) (p ∷ q ∷ []) refl (h.0, (h.1, tt))
line_clear (Form (form.Or p q)) h = second_clear head.P (form_word kind.Or) (p ∷ q ∷ []) refl (h.0, (h.1, tt))
line_clear (Node (node.Step c)) h =
    headed_clear (head_word head.Step) (map decimal (c ∷ [])) refl (numbers_clear (c ∷ []) (small_copy c h, tt))
line_clear (Node (node.Abs c n)) h =
    headed_clear (head_word head.Abs) (map decimal (c ∷ n ∷ [])) refl (numbers_clear (c ∷ n ∷ []) (small_copy c h.0, (h.1, tt)))
line_clear (Node (node.Fork c)) h =
    headed_clear (head_word head.Fork) (map decimal (c ∷ [])) refl (numbers_clear (c ∷ []) (small_copy c h, tt))
line_clear (Node (node.Loop s p)) h =
    headed_clear (head_word head.Loop) (map decimal (s ∷ p ∷ [])) refl (numbers_clear (s ∷ p ∷ []) (small_set s h.0, (h.1, tt)))
line_clear (Node (node.Block k0 k1 k2 k3 p)) h =
    headed_clear (head_word head.Block) (map decimal (k0 ∷ k1 ∷ k2 ∷ k3 ∷ p ∷ [])) refl (numbers_clear (k0 ∷ k1 ∷ k2 ∷ k3 ∷ p ∷ []) (
      h.0,
      (h.1, (h.2, (h.3, (h.4, tt)))),
    ))
line_clear (Node node.Dead) h = headed_clear (head_word head.Dead) (map decimal []) refl (numbers_clear [] tt)
line_clear (Node node.End) h = headed_clear (head_word head.End) (map decimal []) refl (numbers_clear [] tt)
