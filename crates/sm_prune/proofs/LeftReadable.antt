-- Lines by new numbers, which are no greater, can be read back too.
use Rattle.sm_prune.proofs.Imports.{◌≡◌, ℕ, suc, ◌+◌, ◌^◌, ◌<◌, ◌≤◌, Bool, true, false, get_or, List, [], ◌∷◌, ◌++◌, map, length, refl, subst, arith, zero, length-append, with_terms, NumberedLine, ProofLine, Header, Term, Form, Node, Cert, TermLine, NodeLine, FormLine, line_head, renumbered_term, renumbered_form, renumbered_node, renumbered, AreTold, terms_after, forms_after, Numbering, more_if, numbers_after, new_number, line_by, line_before, left_lines, IsReadable, AreReadable}
use Rattle.std.specs.Fmt.{decimal}
use Rattle.std.specs.Str.Parse.{AllDigits, IsNumeral}
use Rattle.std.proofs.lemmas.Fmt.{decimal_is_IsNumeral, decimal_nonempty, length-decimal-le}
use Rattle.std.proofs.lemmas.Str.Parse.{numerals_by_value, tells_digits, digits_value_short}
use Rattle.sm_proof.specs.declared.kind.FormKind.TheVariants as kind
use Rattle.sm_proof.specs.declared.kind.TermKind.TheVariants as kinds
use Rattle.sm_proof.specs.declared.line.FormLine.TheVariants as form
use Rattle.sm_proof.specs.declared.line.NodeLine.TheVariants as node
use Rattle.sm_proof.specs.declared.line.TermLine.TheVariants as term
use Rattle.sm_proof.specs.declared.word.Head.TheVariants as head
use Rattle.sm_proof.specs.FieldRanges.{IsNumber, AreNumbers, IsWithinFields, numbers_of}
use Rattle.sm_proof.specs.HeadWords.{head_word, term_word, form_word}
use Rattle.sm_proof.specs.Lines as line
use Rattle.sm_proof.specs.declared.word.Head.{Head}
use Rattle.sm_proof.specs.Spelling.{spaced, spelled, line_words, HasKnownVersion}

-- a lower number has no more digits
decimal_shorter : (m n : ℕ) → m ≤ n → n < 2 ^ 64 → length (decimal m) ≤ length (decimal n)
decimal_shorter m n low small =
    let k = length (decimal n) in
    let some : 0 < k = decimal_nonempty n small in
    let below : n < 10 ^ k = value_below n small in
    length-decimal-le k m some (let less : m < 10 ^ k = omega arith in less) (let less : m < 2 ^ 64 = omega arith in less)
  where
    value_below : (n : ℕ) → n < 2 ^ 64 → n < 10 ^ length (decimal n)
    value_below n small =
        let is = decimal_is_IsNumeral n small in
        subst (λ (v : ℕ). v < 10 ^ length (decimal n)) is.1
        (digits_value_short (numerals_by_value (AllDigits 10) tells_digits) (decimal n) (length (decimal n)) is.0.1 (omega arith))

-- numbers that are no greater, one by one
abbrev pub AreLower : List ℕ → List ℕ → Type 0
AreLower [] [] = Unit {0}
AreLower [] (n ∷ ns) = ⊥
AreLower (m ∷ ms) [] = ⊥
AreLower (m ∷ ms) (n ∷ ns) = (m ≤ n) × AreLower ms ns

-- words that are no longer
abbrev pub AreShorter : List (List ℕ) → List (List ℕ) → Type 0
AreShorter [] [] = Unit {0}
AreShorter [] (w ∷ ws) = ⊥
AreShorter (v ∷ vs) [] = ⊥
AreShorter (v ∷ vs) (w ∷ ws) = (length v ≤ length w) × AreShorter vs ws

-- numbers are no greater than themselves
lower_same : (ns : List ℕ) → AreLower ns ns
lower_same [] = tt
lower_same (n ∷ ns) = (omega arith, lower_same ns)

-- they are within their fields
lower_within : (ms ns : List ℕ) → AreLower ms ns → AreNumbers ns → AreNumbers ms
lower_within [] [] low all = tt
lower_within [] (n ∷ ns) low all = absurd low
lower_within (m ∷ ms) [] low all = absurd low
lower_within (m ∷ ms) (n ∷ ns) low all =
    ((let a = low.0 in let b = all.0 in omega arith), lower_within ms ns low.1 all.1)

-- their words are shorter
lower_words : (ms ns : List ℕ) → AreLower ms ns → AreNumbers ns → AreShorter (map decimal ms) (map decimal ns)
lower_words [] [] low all = tt
lower_words [] (n ∷ ns) low all = absurd low
lower_words (m ∷ ms) [] low all = absurd low
lower_words (m ∷ ms) (n ∷ ns) low all = (decimal_shorter m n low.0 all.0, lower_words ms ns low.1 all.1)

-- the text of words that are no longer is no longer
spaced_shorter : (vs ws : List (List ℕ)) → AreShorter vs ws → length (spaced vs) ≤ length (spaced ws)
unfolding spaced
spaced_shorter [] [] short = omega arith
spaced_shorter [] (w ∷ ws) short = absurd short
spaced_shorter (v ∷ vs) [] short = absurd short
spaced_shorter (v ∷ []) (w ∷ []) short = short.0
spaced_shorter (v ∷ []) (w ∷ x ∷ ws) short = absurd short.1
spaced_shorter (v ∷ x ∷ vs) (w ∷ []) short = absurd short.1
spaced_shorter (v ∷ x ∷ vs) (w ∷ y ∷ ws) short =
    let later = spaced_shorter (x ∷ vs) (y ∷ ws) short.1 in
    let here = short.0 in
    let a = length-append v (32 ∷ spaced (x ∷ vs)) in
    let b = length-append w (32 ∷ spaced (y ∷ ws)) in
    omega arith

-- a line with shorter words can be read back
readable_by : (l k : ProofLine) → IsReadable k → IsWithinFields l → HasKnownVersion l → AreShorter (line_words l) (line_words k) → IsReadable l
unfolding spelled
readable_by l k is within version short = record {
  within = within;
  version = version;
  short =
      let a = spaced_shorter (line_words l) (line_words k) short in
      let b : length (spaced (line_words k)) ≤ 4096 = is.short in
      let c : length (spaced (line_words l)) ≤ 4096 = omega arith in
      c;
}

-- one word and numbers
pub words_after : (word : List ℕ) (ms ns : List ℕ) → AreLower ms ns → AreNumbers ns →
    AreShorter (word ∷ map decimal ms) (word ∷ map decimal ns)
words_after word ms ns low all = (omega arith, lower_words ms ns low all)

-- two words and numbers
words_after_two : (word second : List ℕ) (ms ns : List ℕ) → AreLower ms ns → AreNumbers ns →
    AreShorter (word ∷ second ∷ map decimal ms) (word ∷ second ∷ map decimal ns)
words_after_two word second ms ns low all = (omega arith, words_after second ms ns low all)

-- numbers that are moved to lower ones
abbrev pub IsLow : (ℕ → ℕ) → Type 0
IsLow move = (n : ℕ) → move n ≤ n

small : (m n : ℕ) → m ≤ n → IsNumber n → IsNumber m
small m n low within = omega arith

-- a line that makes a term
term_readable : (move : ℕ → ℕ) → IsLow move → (l : TermLine) → IsReadable (Term l) → IsReadable (Term (renumbered_term move l))
term_readable move low (term.Lit z) is = is
term_readable move low (term.Start x) is = is
term_readable move low term.Cell is = is
term_readable move low (term.Slot c x) is = is
term_readable move low (term.Cur c x) is = is
term_readable move low (term.Of n side) is = is
term_readable move low (term.Arg t k) is =
    let w = is.within in
    readable_by (Term (term.Arg (move t) k)) (Term (term.Arg t k)) is (small (move t) t (low t) w.0, w.1) tt
    (words_after_two (head_word head.T) (term_word kinds.Arg) (move t ∷ k ∷ []) (t ∷ k ∷ []) (low t, (omega arith, tt)) (w.0, (w.1, tt)))
term_readable move low (term.Read t u) is =
    let w = is.within in
    readable_by (Term (term.Read (move t) (move u))) (Term (term.Read t u)) is
    (small (move t) t (low t) w.0, small (move u) u (low u) w.1) tt
    (words_after_two (head_word head.T) (term_word kinds.Read) (move t ∷ move u ∷ []) (t ∷ u ∷ []) (low t, (low u, tt)) (w.0, (w.1, tt)))
term_readable move low (term.Write t u v) is =
    let w = is.within in
    readable_by (Term (term.Write (move t) (move u) (move v))) (Term (term.Write t u v)) is
    (small (move t) t (low t) w.0, small (move u) u (low u) w.1, small (move v) v (low v) w.2) tt
    (words_after_two (head_word head.T) (term_word kinds.Write) (move t ∷ move u ∷ move v ∷ []) (t ∷ u ∷ v ∷ []) (low t, (low u, (low v, tt))) (w.0, (w.1, (w.2, tt))))
term_readable move low (term.Neg t) is =
    let w = is.within in
    readable_by (Term (term.Neg (move t))) (Term (term.Neg t)) is (small (move t) t (low t) w) tt
    (words_after_two (head_word head.T) (term_word kinds.Neg) (move t ∷ []) (t ∷ []) (low t, tt) (w, tt))
term_readable move low (term.Add t u) is =
    let w = is.within in
    readable_by (Term (term.Add (move t) (move u))) (Term (term.Add t u)) is
    (small (move t) t (low t) w.0, small (move u) u (low u) w.1) tt
    (words_after_two (head_word head.T) (term_word kinds.Add) (move t ∷ move u ∷ []) (t ∷ u ∷ []) (low t, (low u, tt)) (w.0, (w.1, tt)))
term_readable move low (term.Sub t u) is =
    let w = is.within in
    readable_by (Term (term.Sub (move t) (move u))) (Term (term.Sub t u)) is
    (small (move t) t (low t) w.0, small (move u) u (low u) w.1) tt
    (words_after_two (head_word head.T) (term_word kinds.Sub) (move t ∷ move u ∷ []) (t ∷ u ∷ []) (low t, (low u, tt)) (w.0, (w.1, tt)))
term_readable move low (term.Mul t u) is =
    let w = is.within in
    readable_by (Term (term.Mul (move t) (move u))) (Term (term.Mul t u)) is
    (small (move t) t (low t) w.0, small (move u) u (low u) w.1) tt
    (words_after_two (head_word head.T) (term_word kinds.Mul) (move t ∷ move u ∷ []) (t ∷ u ∷ []) (low t, (low u, tt)) (w.0, (w.1, tt)))

-- a line that makes a formula
form_readable : (move move_form : ℕ → ℕ) → IsLow move → IsLow move_form → (l : FormLine) → IsReadable (Form l) →
    IsReadable (Form (renumbered_form move move_form l))
form_readable move move_form low low_form form.Yes is = is
form_readable move move_form low low_form form.No is = is
form_readable move move_form low low_form (form.Eq t u) is =
    let w = is.within in
    readable_by (Form (form.Eq (move t) (move u))) (Form (form.Eq t u)) is
    (small (move t) t (low t) w.0, small (move u) u (low u) w.1) tt
    (words_after_two (head_word head.P) (form_word kind.Eq) (move t ∷ move u ∷ []) (t ∷ u ∷ []) (low t, (low u, tt)) (w.0, (w.1, tt)))
form_readable move move_form low low_form (form.Ne t u) is =
    let w = is.within in
    readable_by (Form (form.Ne (move t) (move u))) (Form (form.Ne t u)) is
    (small (move t) t (low t) w.0, small (move u) u (low u) w.1) tt
    (words_after_two (head_word head.P) (form_word kind.Ne) (move t ∷ move u ∷ []) (t ∷ u ∷ []) (low t, (low u, tt)) (w.0, (w.1, tt)))
form_readable move move_form low low_form (form.Le t u) is =
    let w = is.within in
    readable_by (Form (form.Le (move t) (move u))) (Form (form.Le t u)) is
    (small (move t) t (low t) w.0, small (move u) u (low u) w.1) tt
    (words_after_two (head_word head.P) (form_word kind.Le) (move t ∷ move u ∷ []) (t ∷ u ∷ []) (low t, (low u, tt)) (w.0, (w.1, tt)))
form_readable move move_form low low_form (form.Lt t u) is =
    let w = is.within in
    readable_by (Form (form.Lt (move t) (move u))) (Form (form.Lt t u)) is
    (small (move t) t (low t) w.0, small (move u) u (low u) w.1) tt
    (words_after_two (head_word head.P) (form_word kind.Lt) (move t ∷ move u ∷ []) (t ∷ u ∷ []) (low t, (low u, tt)) (w.0, (w.1, tt)))
form_readable move move_form low low_form (form.And p q) is =
    let w = is.within in
    readable_by (Form (form.And (move_form p) (move_form q))) (Form (form.And p q)) is
    (small (move_form p) p (low_form p) w.0, small (move_form q) q (low_form q) w.1) tt
    (words_after_two (head_word head.P) (form_word kind.And) (move_form p ∷ move_form q ∷ []) (p ∷ q ∷ []) (low_form p, (low_form q, tt)) (w.0, (w.1, tt)))
form_readable move move_form low low_form (form.Or p q) is =
    let w = is.within in
    readable_by (Form (form.Or (move_form p) (move_form q))) (Form (form.Or p q)) is
    (small (move_form p) p (low_form p) w.0, small (move_form q) q (low_form q) w.1) tt
    (words_after_two (head_word head.P) (form_word kind.Or) (move_form p ∷ move_form q ∷ []) (p ∷ q ∷ []) (low_form p, (low_form q, tt)) (w.0, (w.1, tt)))

-- a node; a set is no greater than itself
node_readable : (move_form : ℕ → ℕ) → IsLow move_form → (l : NodeLine) → IsReadable (Node l) → IsReadable (Node (renumbered_node move_form l))
node_readable move_form low (node.Step c) is = is
node_readable move_form low (node.Abs c n) is = is
node_readable move_form low (node.Fork c) is = is
node_readable move_form low (node.Loop set keep) is =
    let w = is.within in
    let few : set < 2 ^ 64 = small_set set w.0 in
    readable_by (Node (node.Loop set (move_form keep))) (Node (node.Loop set keep)) is (w.0, small (move_form keep) keep (low keep) w.1) tt
    (words_after (head_word head.Loop) (set ∷ move_form keep ∷ []) (set ∷ keep ∷ []) (omega arith, (low keep, tt)) (few, (w.1, tt)))
  where
    small_set : (n : ℕ) → n ≤ 255 → n < 2 ^ 64
    small_set n h = omega arith
node_readable move_form low (node.Block k0 k1 k2 k3 keep) is =
    let w = is.within in
    readable_by (Node (node.Block k0 k1 k2 k3 (move_form keep))) (Node (node.Block k0 k1 k2 k3 keep)) is
    (w.0, w.1, w.2, w.3, small (move_form keep) keep (low keep) w.4) tt
    (words_after (head_word head.Block) (k0 ∷ k1 ∷ k2 ∷ k3 ∷ move_form keep ∷ []) (k0 ∷ k1 ∷ k2 ∷ k3 ∷ keep ∷ [])
    (omega arith, (omega arith, (omega arith, (omega arith, (low keep, tt))))) (w.0, (w.1, (w.2, (w.3, (w.4, tt))))))
node_readable move_form low node.Dead is = is
node_readable move_form low node.End is = is

-- a line of a certificate by lower numbers
cert_by : (l k : NumberedLine) → IsReadable (Cert k) → line_head l ≡ line_head k → AreLower (numbers_of l) (numbers_of k) →
    IsReadable (Cert l)
cert_by l k is same low =
    readable_by (Cert l) (Cert k) is (lower_within (numbers_of l) (numbers_of k) low is.within) tt
    (subst (λ (h : Head). AreShorter (line_words (Cert l)) (head_word h ∷ map decimal (numbers_of k))) same
    (words_after (head_word (line_head l)) (numbers_of l) (numbers_of k) low is.within))

cert_readable : (move : ℕ → ℕ) → IsLow move → (l : NumberedLine) → IsReadable (Cert l) → IsReadable (Cert (with_terms move l))
cert_readable move low (line.Both n) is = is
cert_readable move low (line.Either n) is = is
cert_readable move low (line.Cases t u) is =
    cert_by (line.Cases (move t) (move u)) (line.Cases t u) is refl (low t, (low u, tt))
cert_readable move low (line.Order n) is = is
cert_readable move low (line.Refl t) is = cert_by (line.Refl (move t)) (line.Refl t) is refl (low t, tt)
cert_readable move low (line.Sym n) is = is
cert_readable move low (line.Trans m n) is = is
cert_readable move low (line.Subst m n) is = is
cert_readable move low (line.Cong t u ns) is =
    cert_by (line.Cong (move t) (move u) ns) (line.Cong t u ns) is refl (low t, (low u, lower_same ns))
cert_readable move low (line.Same t u) is =
    cert_by (line.Same (move t) (move u)) (line.Same t u) is refl (low t, (low u, tt))
cert_readable move low (line.Apart t u) is =
    cert_by (line.Apart (move t) (move u)) (line.Apart t u) is refl (low t, (low u, tt))
cert_readable move low (line.Hit t n) is = cert_by (line.Hit (move t) n) (line.Hit t n) is refl (low t, (omega arith, tt))
cert_readable move low (line.Miss t u n) is =
    cert_by (line.Miss (move t) (move u) n) (line.Miss t u n) is refl (low t, (low u, (omega arith, tt)))
cert_readable move low (line.Lin n) is = is
cert_readable move low (line.Elim m n t) is =
    cert_by (line.Elim m n (move t)) (line.Elim m n t) is refl (omega arith, (omega arith, (low t, tt)))
cert_readable move low (line.Tight n) is = is
cert_readable move low (line.Exact n) is = is
cert_readable move low (line.Close n) is = is
cert_readable move low (line.Clash m n) is = is

-- any line
line_readable : (move move_form : ℕ → ℕ) → IsLow move → IsLow move_form → (l : ProofLine) → IsReadable l →
    IsReadable (renumbered move move_form l)
line_readable move move_form low low_form (Header version) is = is
line_readable move move_form low low_form (Term t) is = term_readable move low t is
line_readable move move_form low low_form (Form f) is = form_readable move move_form low low_form f is
line_readable move move_form low low_form (Node n) is = node_readable move_form low_form n is
line_readable move move_form low low_form (Cert l) is = cert_readable move low l is

-- new numbers, the first that of number k: none is greater than what it stands for
abbrev pub AreLow : ℕ → List ℕ → Type 0
AreLow k [] = Unit {0}
AreLow k (n ∷ ns) = (n ≤ k) × AreLow (suc k) ns

low_at : (k : ℕ) (moved : List ℕ) (n : ℕ) → AreLow k moved → get_or moved n 0 ≤ k + n
low_at k [] n all = omega arith
low_at k (m ∷ moved) zero all = let a = all.0 in omega arith
low_at k (m ∷ moved) (suc n) all = let a = low_at (suc k) moved n all.1 in omega arith

low_more : (k : ℕ) (moved : List ℕ) (n : ℕ) → AreLow k moved → n ≤ k + length moved → AreLow k (moved ++ n ∷ [])
low_more k [] n all low = ((omega arith), tt)
low_more k (m ∷ moved) n all low = (all.0, low_more (suc k) moved n all.1 (omega arith))

-- so they are in a numbering, where no more are left than there are
pub record IsLowNumbering (m : Numbering) : Type 0 where
  pub terms : AreLow 0 m.terms
  pub forms : AreLow 0 m.forms
  pub terms_few : m.terms_left ≤ length m.terms
  pub forms_few : m.forms_left ≤ length m.forms

few_more : (b : Bool) (k n : ℕ) → k ≤ n → more_if b k ≤ suc n
few_more true k n h = omega arith
few_more false k n h = omega arith

low_after : (b : Bool) (l : ProofLine) (m : Numbering) → IsLowNumbering m → IsLowNumbering (numbers_after b l m)
low_after b (Header version) m low = low
low_after b (Term t) m low = record {
  terms = low_more 0 m.terms m.terms_left low.terms (let a = low.terms_few in omega arith);
  forms = low.forms;
  terms_few =
      let a = length-append m.terms (m.terms_left ∷ []) in
      let c = few_more b m.terms_left (length m.terms) low.terms_few in
      omega arith;
  forms_few = low.forms_few;
}
low_after b (Form f) m low = record {
  terms = low.terms;
  forms = low_more 0 m.forms m.forms_left low.forms (let a = low.forms_few in omega arith);
  terms_few = low.terms_few;
  forms_few =
      let a = length-append m.forms (m.forms_left ∷ []) in
      let c = few_more b m.forms_left (length m.forms) low.forms_few in
      omega arith;
}
low_after b (Node n) m low = low
low_after b (Cert l) m low = low

low_number : (moved : List ℕ) → AreLow 0 moved → IsLow (new_number moved)
low_number moved all n = let a = low_at 0 moved n all in omega arith

-- the lines that are left can be read back
pub left_readable : (m : Numbering) (bs : List Bool) (lines : List ProofLine) → IsLowNumbering m → AreReadable lines →
    AreReadable (left_lines m bs lines)
left_readable m [] lines low are = tt
left_readable m (b ∷ bs) [] low are = tt
left_readable m (true ∷ bs) (l ∷ lines) low are = (
  line_readable (new_number m.terms) (new_number m.forms) (low_number m.terms low.terms) (low_number m.forms low.forms) l are.0,
  left_readable (numbers_after true l m) bs lines (low_after true l m low) are.1,
)
left_readable m (false ∷ bs) (l ∷ lines) low are =
    left_readable (numbers_after false l m) bs lines (low_after false l m low) are.1
