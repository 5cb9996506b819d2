-- The text of a line has no line feed, and is no longer than a line may be.
use Rattle.sm_write.proofs.Imports.{◌≡◌, ℕ, ℤ, pos, negsuc, suc, ◌+◌, ◌*◌, ◌^◌, ◌<◌, ◌≤◌, ◌==◌, Bool, true, false, if◌then◌else◌, List, [], ◌∷◌, ◌++◌, map, length, refl, ap, ◌∙◌, arith, decimal, signed_decimal, ne_eqb, Decides-ltb, facts_named, IsWithinFields, AreNumbers, numbers_of, version_word, head_word, term_word, form_word, ProofLine, NumberedLine, Header, Form, Cert, TermLine, NodeLine, FormLine, line_head, Head, line_words, HasKnownVersion, IsReadable, version_where, AreShortNumbers}
use Rattle.std.proofs.Common.{length-append}
use Rattle.std.specs.Str.Parse.{AllDigits}
use Rattle.std.proofs.lemmas.Fmt.{decimal_is_IsNumeral_wide, length-decimal-le, length-decimal-le_wide}
use Rattle.std.proofs.lemmas.Str.Parse.{digit_from_value}
use Rattle.sm_num.specs.Range.{fits}
use Rattle.sm_proof.specs.declared.kind.FormKind.TheVariants as kind
use Rattle.sm_proof.specs.declared.kind.TermKind.TheVariants as kinds
use Rattle.sm_proof.specs.declared.line.FormLine.TheVariants as form
use Rattle.sm_proof.specs.declared.line.NodeLine.TheVariants as node
use Rattle.sm_proof.specs.declared.line.TermLine.TheVariants as term
use Rattle.sm_proof.specs.declared.word.Head.TheVariants as head
use Rattle.sm_proof.specs.Fields.{copy, side, set}
use Rattle.sm_proof.specs.Lines.{Term, Node}
use Rattle.sm_proof.specs.Lines as line
use Rattle.sm_proof.specs.Spelling.{spaced, spelled}
use Rattle.sm_proof.proofs.NumberLemmas.{literal_fits}
use Rattle.sm_proof.proofs.ClearLemmas.{small_copy, small_side, small_set}

-- whether bytes have a line feed
abbrev pub has_feed : List ℕ → Bool
has_feed [] = false
has_feed (byte ∷ bytes) = if byte == 10 then true else has_feed bytes

-- words with none, of which none is long
abbrev pub AreWords : List (List ℕ) → Type 0
AreWords [] = Unit {0}
AreWords (word ∷ words) = (has_feed word ≡ false) × (length word ≤ 40) × AreWords words

-- the words of a line are few, and then numbers
pub record IsShaped (l : ProofLine) : Type 0 where
  pub front : List (List ℕ)
  pub numbers : List ℕ
  pub words : line_words l ≡ front ++ map decimal numbers
  pub few : length front ≤ 3
  pub fine : AreWords front
  pub fields : AreNumbers numbers

digits_plain : (ds : List ℕ) → AllDigits 10 ds → has_feed ds ≡ false
digits_plain [] d = refl
digits_plain (c ∷ cs) d =
    ap (λ (b : Bool). if b then true else has_feed cs) (ne_eqb c 10 (λ (e : c ≡ 10). omega (arith, digit_from_value c d.0)))
    ∙ digits_plain cs d.1

decimal_plain : (n : ℕ) → n < 10 ^ 64 → has_feed (decimal n) ≡ false
decimal_plain n small = digits_plain (decimal n) (decimal_is_IsNumeral_wide n small).0.1

signed_plain : (z : ℤ) → fits z ≡ true → has_feed (signed_decimal z) ≡ false
signed_plain (pos n) f = decimal_plain n (omega (arith, (Decides-ltb n (2 ^ 127)).0 f))
signed_plain (negsuc n) f = decimal_plain (suc n) (omega (arith, (Decides-ltb n (2 ^ 127)).0 f))

signed_length : (z : ℤ) → fits z ≡ true → length (signed_decimal z) ≤ 40
signed_length (pos n) f =
    let low = (Decides-ltb n (2 ^ 127)).0 f in
    omega (arith, length-decimal-le_wide 39 n (omega arith) (omega (arith, low)) (omega (arith, low)))
signed_length (negsuc n) f =
    let low = (Decides-ltb n (2 ^ 127)).0 f in
    omega (arith, length-decimal-le_wide 39 (suc n) (omega arith) (omega (arith, low)) (omega (arith, low)))

head_fine : (h : Head) → (has_feed (head_word h) ≡ false) × (length (head_word h) ≤ 40)
head_fine head.T = (refl, omega arith)
head_fine head.P = (refl, omega arith)
head_fine head.Step = (refl, omega arith)
head_fine head.Abs = (refl, omega arith)
head_fine head.Fork = (refl, omega arith)
head_fine head.Loop = (refl, omega arith)
head_fine head.Block = (refl, omega arith)
head_fine head.Dead = (refl, omega arith)
head_fine head.End = (refl, omega arith)
head_fine head.Both = (refl, omega arith)
head_fine head.Either = (refl, omega arith)
head_fine head.Cases = (refl, omega arith)
head_fine head.Order = (refl, omega arith)
head_fine head.Refl = (refl, omega arith)
head_fine head.Sym = (refl, omega arith)
head_fine head.Trans = (refl, omega arith)
head_fine head.Subst = (refl, omega arith)
head_fine head.Cong = (refl, omega arith)
head_fine head.Same = (refl, omega arith)
head_fine head.Apart = (refl, omega arith)
head_fine head.Hit = (refl, omega arith)
head_fine head.Miss = (refl, omega arith)
head_fine head.Lin = (refl, omega arith)
head_fine head.Elim = (refl, omega arith)
head_fine head.Tight = (refl, omega arith)
head_fine head.Exact = (refl, omega arith)
head_fine head.Close = (refl, omega arith)
head_fine head.Clash = (refl, omega arith)

-- a line of one word and numbers
headed : (l : ProofLine) (h : Head) (ns : List ℕ) → line_words l ≡ head_word h ∷ map decimal ns → AreNumbers ns → IsShaped l
headed l h ns e are = record {
  front = head_word h ∷ [];
  numbers = ns;
  words = e;
  few = omega arith;
  fine = ((head_fine h).0, (head_fine h).1, tt);
  fields = are;
}

-- a line of two words and numbers
seconded : (l : ProofLine) (h : Head) (word : List ℕ) (ns : List ℕ) → line_words l ≡ head_word h ∷ word ∷ map decimal ns →
    has_feed word ≡ false → length word ≤ 40 → AreNumbers ns → IsShaped l
seconded l h word ns e plain short are = record {
  front = head_word h ∷ word ∷ [];
  numbers = ns;
  words = e;
  few = omega arith;
  fine = ((head_fine h).0, (head_fine h).1, (plain, short, tt));
  fields = are;
}

term_shaped : (t : TermLine) → IsWithinFields (Term t) → IsShaped (Term t)
term_shaped (term.Lit z) h =
    let f = literal_fits z h in
    record {
      front = head_word head.T ∷ term_word kinds.Lit ∷ signed_decimal z ∷ [];
      numbers = [];
      words = refl;
      few = omega arith;
      fine = (refl, omega arith, (refl, omega arith, (signed_plain z f, signed_length z f, tt)));
      fields = tt;
    }
term_shaped (term.Start x) h = seconded (Term (term.Start x)) head.T (term_word kinds.Start) (x ∷ []) refl refl (omega arith) (h, tt)
term_shaped term.Cell h = seconded (Term term.Cell) head.T (term_word kinds.Cell) [] refl refl (omega arith) tt
term_shaped (term.Slot c x) h =
    seconded (Term (term.Slot c x)) head.T (term_word kinds.Slot) (c ∷ x ∷ []) refl refl (omega arith) (small_copy c h.0, (h.1, tt))
term_shaped (term.Cur c x) h =
    seconded (Term (term.Cur c x)) head.T (term_word kinds.Cur) (c ∷ x ∷ []) refl refl (omega arith) (small_copy c h.0, (h.1, tt))
term_shaped (term.Of n s) h =
    seconded (Term (term.Of n s)) head.T (term_word kinds.Of) (n ∷ s ∷ []) refl refl (omega arith) (h.0, (small_side s h.1, tt))
term_shaped (term.Arg t k) h =
    seconded (Term (term.Arg t k)) head.T (term_word kinds.Arg) (t ∷ k ∷ []) refl refl (omega arith) (h.0, (h.1, tt))
term_shaped (term.Read t u) h =
    seconded (Term (term.Read t u)) head.T (term_word kinds.Read) (t ∷ u ∷ []) refl refl (omega arith) (h.0, (h.1, tt))
term_shaped (term.Write t u v) h =
    seconded (Term (term.Write t u v)) head.T (term_word kinds.Write) (t ∷ u ∷ v ∷ []) refl refl (omega arith) (h.0, (h.1, (h.2, tt)))
term_shaped (term.Neg t) h = seconded (Term (term.Neg t)) head.T (term_word kinds.Neg) (t ∷ []) refl refl (omega arith) (h, tt)
term_shaped (term.Add t u) h =
    seconded (Term (term.Add t u)) head.T (term_word kinds.Add) (t ∷ u ∷ []) refl refl (omega arith) (h.0, (h.1, tt))
term_shaped (term.Sub t u) h =
    seconded (Term (term.Sub t u)) head.T (term_word kinds.Sub) (t ∷ u ∷ []) refl refl (omega arith) (h.0, (h.1, tt))
term_shaped (term.Mul t u) h =
    seconded (Term (term.Mul t u)) head.T (term_word kinds.Mul) (t ∷ u ∷ []) refl refl (omega arith) (h.0, (h.1, tt))

form_shaped : (f : FormLine) → IsWithinFields (Form f) → IsShaped (Form f)
form_shaped form.Yes h = seconded (Form form.Yes) head.P (form_word kind.Yes) [] refl refl (omega arith) tt
form_shaped form.No h = seconded (Form form.No) head.P (form_word kind.No) [] refl refl (omega arith) tt
form_shaped (form.Eq t u) h = seconded (Form (form.Eq t u)) head.P (form_word kind.Eq) (t ∷ u ∷ []) refl refl (omega arith) (h.0, (h.1, tt))
form_shaped (form.Ne t u) h = seconded (Form (form.Ne t u)) head.P (form_word kind.Ne) (t ∷ u ∷ []) refl refl (omega arith) (h.0, (h.1, tt))
form_shaped (form.Le t u) h = seconded (Form (form.Le t u)) head.P (form_word kind.Le) (t ∷ u ∷ []) refl refl (omega arith) (h.0, (h.1, tt))
form_shaped (form.Lt t u) h = seconded (Form (form.Lt t u)) head.P (form_word kind.Lt) (t ∷ u ∷ []) refl refl (omega arith) (h.0, (h.1, tt))
form_shaped (form.And p q) h =
    seconded (Form (form.And p q)) head.P (form_word kind.And) (p ∷ q ∷ []) refl refl (omega arith) (h.0, (h.1, tt))
form_shaped (form.Or p q) h = seconded (Form (form.Or p q)) head.P (form_word kind.Or) (p ∷ q ∷ []) refl refl (omega arith) (h.0, (h.1, tt))

node_shaped : (n : NodeLine) → IsWithinFields (Node n) → IsShaped (Node n)
node_shaped (node.Step c) h = headed (Node (node.Step c)) head.Step (c ∷ []) refl (small_copy c h, tt)
node_shaped (node.Abs c n) h = headed (Node (node.Abs c n)) head.Abs (c ∷ n ∷ []) refl (small_copy c h.0, (h.1, tt))
node_shaped (node.Fork c) h = headed (Node (node.Fork c)) head.Fork (c ∷ []) refl (small_copy c h, tt)
node_shaped (node.Loop set keep) h = headed (Node (node.Loop set keep)) head.Loop (set ∷ keep ∷ []) refl (small_set set h.0, (h.1, tt))
node_shaped (node.Block k0 k1 k2 k3 keep) h =
    headed (Node (node.Block k0 k1 k2 k3 keep)) head.Block (k0 ∷ k1 ∷ k2 ∷ k3 ∷ keep ∷ []) refl
    (h.0, (h.1, (h.2, (h.3, (h.4, tt)))))
node_shaped node.Dead h = headed (Node node.Dead) head.Dead [] refl tt
node_shaped node.End h = headed (Node node.End) head.End [] refl tt

-- each line
pub shaped : (l : ProofLine) → IsWithinFields l → HasKnownVersion l → IsShaped l
shaped (Header version) h known = record {
  front = version_word ∷ [];
  numbers = version ∷ [];
  words = refl;
  few = omega arith;
  fine = (refl, omega arith, tt);
  fields = (omega (arith, h), tt);
}
shaped (Term t) h known = term_shaped t h
shaped (Form f) h known = form_shaped f h
shaped (Node n) h known = node_shaped n h
shaped (Cert l) h known = headed (Cert l) (line_head l) (numbers_of l) refl h

-- words with no line feed make bytes with none
append_plain : (xs ys : List ℕ) → has_feed xs ≡ false → has_feed ys ≡ false → has_feed (xs ++ ys) ≡ false
append_plain [] ys a b = b
append_plain (x ∷ xs) ys a b = by (x == 10) refl a (λ (h : has_feed xs ≡ false). append_plain xs ys h b)
  where
    by : (c : Bool) → (x == 10) ≡ c → (if c then true else has_feed xs) ≡ false → (has_feed xs ≡ false → has_feed (xs ++ ys) ≡ false) →
        has_feed (x ∷ xs ++ ys) ≡ false
    by true e h later = absurd cc
    by false e h later = ap (λ (c : Bool). if c then true else has_feed (xs ++ ys)) e ∙ later h

abbrev ArePlain : List (List ℕ) → Type 0
ArePlain [] = Unit {0}
ArePlain (word ∷ words) = (has_feed word ≡ false) × ArePlain words

spaced_plain : (words : List (List ℕ)) → ArePlain words → has_feed (spaced words) ≡ false
unfolding spaced
spaced_plain [] are = refl
spaced_plain (word ∷ []) are = are.0
spaced_plain (word ∷ next ∷ words) are = append_plain word (32 ∷ spaced (next ∷ words)) are.0 (spaced_plain (next ∷ words) are.1)

numbers_plain : (ns : List ℕ) → AreNumbers ns → ArePlain (map decimal ns)
numbers_plain [] are = tt
numbers_plain (n ∷ ns) are = (decimal_plain n (omega (arith, are.0)), numbers_plain ns are.1)

all_plain : (front : List (List ℕ)) (ns : List ℕ) → AreWords front → AreNumbers ns → ArePlain (front ++ map decimal ns)
all_plain [] ns fine are = numbers_plain ns are
all_plain (word ∷ words) ns fine are = (fine.0, all_plain words ns fine.2 are)

-- the text of a line has no line feed
pub is_one_line : (l : ProofLine) → IsWithinFields l → HasKnownVersion l → has_feed (spelled l) ≡ false
unfolding spelled
is_one_line l h known =
    let s = shaped l h known in
    ap (λ (ws : List (List ℕ)). has_feed (spaced ws)) s.words
    ∙ spaced_plain (s.front ++ map decimal s.numbers) (all_plain s.front s.numbers s.fine s.fields)

-- how long words are, each with a space
abbrev weight : List (List ℕ) → ℕ
weight [] = 0
weight (word ∷ words) = suc (length word) + weight words

spaced_length : (words : List (List ℕ)) → length (spaced words) ≤ weight words
unfolding spaced
spaced_length [] = omega arith
spaced_length (word ∷ []) = omega arith
spaced_length (word ∷ next ∷ words) =
    omega (arith, length-append word (32 ∷ spaced (next ∷ words)), spaced_length (next ∷ words))

front_weight : (front : List (List ℕ)) (words : List (List ℕ)) → AreWords front → weight (front ++ words) ≤ 41 * length front + weight words
front_weight [] words fine = omega arith
front_weight (word ∷ front) words fine = omega (arith, fine.1, front_weight front words fine.2)

numbers_weight : (ns : List ℕ) → AreNumbers ns → weight (map decimal ns) ≤ 21 * length ns
numbers_weight [] are = omega arith
numbers_weight (n ∷ ns) are =
    omega (arith, length-decimal-le 20 n (omega arith) (omega (arith, are.0)) are.0, numbers_weight ns are.1)

short_weight : (ns : List ℕ) → AreShortNumbers ns → weight (map decimal ns) ≤ 20 * length ns
short_weight [] are = omega arith
short_weight (n ∷ ns) are =
    omega (arith, length-decimal-le 19 n (omega arith) (omega (arith, are.0)) (omega (arith, are.0)), short_weight ns are.1)

-- a line of few numbers
pub short_by_count : (l : ProofLine) → (h : IsWithinFields l) → (known : HasKnownVersion l) →
    length (shaped l h known).numbers ≤ 5 → length (spelled l) ≤ 4096
unfolding spelled
short_by_count l h known few =
    let s = shaped l h known in
    let text = ap (λ (ws : List (List ℕ)). length (spaced ws)) s.words in
    omega (
      arith,
      text,
      spaced_length (s.front ++ map decimal s.numbers),
      front_weight s.front (map decimal s.numbers) s.fine,
      numbers_weight s.numbers s.fields,
      s.few,
      few,
    )

-- a line of a certificate of few numbers, all short
pub short_cert : (l : NumberedLine) → AreShortNumbers (numbers_of l) → length (numbers_of l) ≤ 202 → length (spelled (Cert l)) ≤ 4096
unfolding spelled
short_cert l are few =
    omega (
      arith,
      spaced_length (head_word (line_head l) ∷ map decimal (numbers_of l)),
      short_weight (numbers_of l) are,
      (head_fine (line_head l)).1,
      few,
    )

-- a line that names few facts has few numbers
pub numbers_few : (l : NumberedLine) → length (facts_named l) ≤ 200 → length (numbers_of l) ≤ 202
numbers_few (line.Both n) few = omega arith
numbers_few (line.Either n) few = omega arith
numbers_few (line.Cases t u) few = omega arith
numbers_few (line.Order n) few = omega arith
numbers_few (line.Refl t) few = omega arith
numbers_few (line.Sym n) few = omega arith
numbers_few (line.Trans m n) few = omega arith
numbers_few (line.Subst m n) few = omega arith
numbers_few (line.Cong t u ns) few = omega arith
numbers_few (line.Same t u) few = omega arith
numbers_few (line.Apart t u) few = omega arith
numbers_few (line.Hit t n) few = omega arith
numbers_few (line.Miss t u n) few = omega arith
numbers_few (line.Lin n) few = omega arith
numbers_few (line.Elim m n t) few = omega arith
numbers_few (line.Tight n) few = omega arith
numbers_few (line.Exact n) few = omega arith
numbers_few (line.Close n) few = omega arith
numbers_few (line.Clash m n) few = omega arith

-- lines that are read back: those of terms
term_few : (t : TermLine) → (h : IsWithinFields (Term t)) → length (shaped (Term t) h tt).numbers ≤ 5
unfolding shaped term_shaped seconded
term_few (term.Lit z) h = omega arith
term_few (term.Start x) h = omega arith
term_few term.Cell h = omega arith
term_few (term.Slot c x) h = omega arith
term_few (term.Cur c x) h = omega arith
term_few (term.Of n s) h = omega arith
term_few (term.Arg t k) h = omega arith
term_few (term.Read t u) h = omega arith
term_few (term.Write t u v) h = omega arith
term_few (term.Neg t) h = omega arith
term_few (term.Add t u) h = omega arith
term_few (term.Sub t u) h = omega arith
term_few (term.Mul t u) h = omega arith

pub term_readable : (t : TermLine) → IsWithinFields (Term t) → IsReadable (Term t)
term_readable t h = record { within = h; version = tt; short = short_by_count (Term t) h tt (term_few t h) }

-- of formulas
form_few : (f : FormLine) → (h : IsWithinFields (Form f)) → length (shaped (Form f) h tt).numbers ≤ 5
unfolding shaped form_shaped seconded
form_few form.Yes h = omega arith
form_few form.No h = omega arith
form_few (form.Eq t u) h = omega arith
form_few (form.Ne t u) h = omega arith
form_few (form.Le t u) h = omega arith
form_few (form.Lt t u) h = omega arith
form_few (form.And p q) h = omega arith
form_few (form.Or p q) h = omega arith

pub form_readable : (f : FormLine) → IsWithinFields (Form f) → IsReadable (Form f)
form_readable f h = record { within = h; version = tt; short = short_by_count (Form f) h tt (form_few f h) }

-- of nodes
node_few : (n : NodeLine) → (h : IsWithinFields (Node n)) → length (shaped (Node n) h tt).numbers ≤ 5
unfolding shaped node_shaped headed
node_few (node.Step c) h = omega arith
node_few (node.Abs c n) h = omega arith
node_few (node.Fork c) h = omega arith
node_few (node.Loop mask keep) h = omega arith
node_few (node.Block k0 k1 k2 k3 keep) h = omega arith
node_few node.Dead h = omega arith
node_few node.End h = omega arith

pub node_readable : (n : NodeLine) → IsWithinFields (Node n) → IsReadable (Node n)
node_readable n h = record { within = h; version = tt; short = short_by_count (Node n) h tt (node_few n h) }

-- the line of a version from 1 to 3 is read back from its text
known_readable : (n : ℕ) → 1 ≤ n → n ≤ 3 → IsReadable (Header n)
unfolding shaped
known_readable n low high =
    let within : IsWithinFields (Header n) = omega arith in
    let known : HasKnownVersion (Header n) = (low, high) in
    record { within = within; version = known; short = short_by_count (Header n) within known (omega arith) }

pub header_readable : (exact assumes : Bool) → IsReadable (Header (version_where exact assumes))
header_readable true assumes = known_readable 3 (omega arith) (omega arith)
header_readable false true = known_readable 2 (omega arith) (omega arith)
header_readable false false = known_readable 1 (omega arith) (omega arith)
