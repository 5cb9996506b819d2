-- The canonical text of a task that is made up spells it.
use Rattle.sm_gen.proofs.Imports.{◌≡◌, ℕ, zero, suc, pos, ◌+◌, ◌<◌, ◌≤◌, ◌^◌, Bool, true, false, ◌&&◌, List, [], ◌∷◌, ◌++◌, map, unwrap_or, slice_get, Option, refl, sym, ap, ap₂, ◌∙◌, subst, arith, lit<, nat_tests, decimal_is_IsNumeral, length-decimal-le, decimal, range_with_len, list_all, position_or_len, AllByRecursion, bytes_eq, Copy, O, A, B, M, Num, Parts, is_among, with_text, with_sort, IsTask, with_text-among, has_edits, edit_of, name_of, counted, holes, value_of, generated}
use Rattle.std.proofs.lemmas.Str.Parse.{digit_from_value}
use Rattle.std.specs.Str.Parse.{AllDigits}
use Rattle.sm_syntax.specs.declared.symbol.Symbol.TheVariants as s
use Rattle.sm_syntax.specs.text.MarkedSymbols.{plain}
use Rattle.sm_syntax.specs.declared.symbol.Symbol.{Symbol}
use Rattle.sm_syntax.specs.text.Tokens.{Lexed, is_word_byte, mark_of_word, reserved_words}
use Rattle.sm_text.specs.printing.Canonical.{task_pieces}
use Rattle.sm_text.specs.printing.Named.{HasText}
use Rattle.sm_text.specs.printing.Pieces.{pieces_text}
use Rattle.sm_text.proofs.RoundTrip.CodeSpelled.{Fits, IsPrintable}
use Rattle.sm_text.proofs.RoundTrip.Content.{content_of, content_used, content_listed, content_declared, content_filled, content_of_lists, content_of_task, task_content}
use Rattle.sm_text.proofs.RoundTrip.Spelled.{task_written}
use Rattle.sm_text.proofs.RoundTrip.Symbols.{names_by, IsIn}
use Rattle.sm_text.proofs.RoundTrip.TaskApart.{task_relexed}
use Rattle.sm_text.proofs.RoundTrip.TaskSpelled.{ArePrintable, HasOutput, task_shown}
use Rattle.sm_text.proofs.RoundTrip.Tasks.{AllIn, all_spelled, IsContent, pieces_again}
use Rattle.sm_text.proofs.RoundTrip.TextTokens.{IsNameText, IsLiteral}
use Rattle.sm_gen.proofs.NameTexts.{names_more, text_at, place_of, stands}
use Rattle.sm_gen.proofs.Valid.{fillings, valid}

-- a name's text is a word that isn't reserved
digits_are_word : (ds : List ℕ) → AllDigits 10 ds → list_all is_word_byte ds ≡ true
digits_are_word [] all = refl
digits_are_word (d ∷ ds) all =
    let digit = digit_from_value d all.0 in
    ap₂ (λ (p q : Bool). p && q) (in_word d digit.0 digit.1) (digits_are_word ds all.1)
  where
    in_word : (d : ℕ) → 48 ≤ d → d ≤ 57 → is_word_byte d ≡ true
    in_word d low high = grind (arith, nat_tests)

name_text : (n : ℕ) → n < 1000 → IsNameText (name_of n)
unfolding mark_of_word reserved_words
name_text zero few = record { start = refl; word = refl; short = omega arith; free = refl }
name_text (suc zero) few = record { start = refl; word = refl; short = omega arith; free = refl }
name_text (suc (suc k)) few =
    let wide : 1000 < 2 ^ 64 = lit< tt in
    let numeral = decimal_is_IsNumeral (suc k) (omega (arith, few, wide)) in
    let digits = length-decimal-le 3 (suc k) (omega arith) (omega (arith, few)) (omega (arith, few, wide)) in
    record { start = refl; word = digits_are_word (decimal (suc k)) numeral.0.1; short = omega (arith, digits); free = refl }

-- the names of n names
abbrev pub names_to : ℕ → List (List ℕ)
names_to n = map name_of (range_with_len 0 n)

-- the text of one of them
text_of_name : (n x : ℕ) → x < n → unwrap_or (slice_get (names_to n) x) [] ≡ name_of x
text_of_name n x here =
    let at : 0 + x ≡ x = omega arith in
    ap (λ (o : Option (List ℕ)). unwrap_or o []) (text_at 0 n x here) ∙ ap name_of at

name_in : (n x : ℕ) → n < 1000 → x < n → IsIn (names_to n) (s.Name (record { 0 = x }))
name_in n x few here =
    let text = text_of_name n x here in
    let T : List ℕ → Type 0 = λ l. IsNameText l in
    record {
      spelled = subst T (sym text) (name_text x (omega (arith, few, here)));
      own = ap (λ (l : List ℕ). position_or_len (bytes_eq l) (names_to n)) text
          ∙ place_of 0 n x x (omega arith) here (omega (arith, few, here));
      among = ap (is_among (names_to n)) text ∙ stands 0 n x x (omega arith) here;
    }

-- a symbol that a text of n names may have
abbrev pub IsFit : ℕ → Symbol → Type 0
IsFit n (s.Mark m) = Unit {0}
IsFit n (s.Number z) = IsLiteral z
IsFit n (s.Name x) = x.0 < n

abbrev pub AreFit : ℕ → List Symbol → Type 0
AreFit n ss = AllByRecursion (IsFit n) ss

fit_both : (n : ℕ) (ss ts : List Symbol) → AreFit n ss → AreFit n ts → AreFit n (ss ++ ts)
fit_both n [] ts a b = b
fit_both n (t ∷ ss) ts a b = (a.0, fit_both n ss ts a.1 b)

fit_in : (n : ℕ) (ss : List Symbol) → n < 1000 → AreFit n ss → AllIn (names_to n) ss
fit_in n [] few h = tt
fit_in n (s.Mark m ∷ ss) few h = (record { spelled = tt; own = tt; among = tt }, fit_in n ss few h.1)
fit_in n (s.Number z ∷ ss) few h = (record { spelled = h.0; own = tt; among = tt }, fit_in n ss few h.1)
fit_in n (s.Name x ∷ ss) few h = (name_in n x.0 few h.0, fit_in n ss few h.1)

-- literals are small
small_literal : (z : ℕ) → z ≤ 1000 → IsLiteral (pos z)
small_literal z small = omega (arith, small, lit< {m = 1000} {n = 2 ^ 127} tt)

-- names that are counted
listed_fit : (n a k : ℕ) → a + k ≤ n → AreFit n (content_listed (range_with_len a k))
listed_fit n a zero few = tt
listed_fit n a (suc k) few = (omega (arith, few), listed_fit n (a + 1) k (omega (arith, few)))

declared_fit : (n a k : ℕ) → a + k ≤ n → AreFit n (content_declared (with_sort Num (range_with_len a k)))
declared_fit n a zero few = tt
declared_fit n a (suc k) few = (omega (arith, few), declared_fit n (a + 1) k (omega (arith, few)))

holes_fit : (n a k : ℕ) → a + k ≤ 1000 → AreFit n (content_used (holes (range_with_len a k)))
holes_fit n a zero few = tt
holes_fit n a (suc k) few = (small_literal a (omega (arith, few)), holes_fit n (a + 1) k (omega (arith, few)))

shared_fit : (n size : ℕ) → size ≤ 190 → 2 ≤ n → AreFit n (content_used (counted (holes (range_with_len 1 size))))
shared_fit n size small two =
    let i : 0 < n = omega (arith, two) in
    let limit : 1 < n = omega (arith, two) in
    (i, (small_literal 0 (omega arith), (i, (limit, (i, (i, (small_literal 1 (omega arith), holes_fit n 1 size (omega (arith, small)))))))))

added_small : (seed h : ℕ) → (edit_of seed h).added ≤ 1000
added_small seed h = omega arith

value_fit : (n : ℕ) (b : Bool) (added : ℕ) → 2 ≤ n → added ≤ 1000 → AreFit n (content_of (value_of b added))
value_fit n false added two small = (omega (arith, two), tt)
value_fit n true added two small = (omega (arith, two), (small_literal added small, tt))

filled_fit : (seed : ℕ) (c : Copy) (n a k : ℕ) → a + k < n → n ≤ 1000 → 2 ≤ n →
    AreFit n (content_filled (fillings seed c (range_with_len a k)))
filled_fit seed c n a zero few most two = tt
filled_fit seed c n a (suc k) few most two =
    let e = value_of (has_edits (edit_of seed a).editor c) (edit_of seed a).added in
    let rest = content_filled (fillings seed c (range_with_len (a + 1) k)) in
    let value = value_fit n (has_edits (edit_of seed a).editor c) (edit_of seed a).added two (added_small seed a) in (
      small_literal a (omega (arith, few, most)),
      (
        omega (arith, few),
        fit_both n (content_of e ++ []) rest (fit_both n (content_of e) [] value tt)
            (filled_fit seed c n (a + 1) k (omega (arith, few)) most two),
      ),
    )

lists_fit : (seed size n : ℕ) → 1 + size < n → n ≤ 1000 → AreFit n (content_of_lists (generated seed size).fillings)
lists_fit seed size n few most =
    let two : 2 ≤ n = omega (arith, few) in
    let one : (c : Copy) → AreFit n (content_filled (fillings seed c (range_with_len 1 size))) =
    λ c. filled_fit seed c n 1 size few most two in
    let of_list : Copy → List Symbol = λ c. content_filled (fillings seed c (range_with_len 1 size)) in
    fit_both n (of_list O) _ (one O) (fit_both n (of_list A) _ (one A) (fit_both n (of_list B) (of_list M) (one B) (one M)))

-- what follows the declarations
abbrev rest_of : ℕ → ℕ → List Symbol
rest_of seed size =
    let t = generated seed size in
    content_listed t.outputs ++ (content_used t.shared ++ content_of_lists t.fillings)

rest_fit : (seed size : ℕ) → size ≤ 190 → AreFit (size + 2) (rest_of seed size)
rest_fit seed size small =
    let t = generated seed size in
    let n = size + 2 in
    fit_both n (content_listed t.outputs) _ (listed_fit n 2 size (omega arith))
    (fit_both n (content_used t.shared) (content_of_lists t.fillings) (shared_fit n size small (omega arith))
    (lists_fit seed size n (omega arith) (omega (arith, small))))

-- names that are known add none
known_stay : (names : List (List ℕ)) (ss : List Symbol) → AllIn names ss → names_by names names ss ≡ names
known_stay names [] h = refl
known_stay names (s.Mark m ∷ ss) h = known_stay names ss h.1
known_stay names (s.Number z ∷ ss) h = known_stay names ss h.1
known_stay names (s.Name x ∷ ss) h =
    ap (λ (l : List (List ℕ)). names_by names l ss) (with_text-among names (unwrap_or (slice_get names x.0) []) h.0.among)
    ∙ known_stay names ss h.1

-- declarations of the next names add each name
declared_add : (n a k : ℕ) (ss : List Symbol) → n < 1000 → a + k ≡ n →
    names_by (names_to n) (names_to a) (content_declared (with_sort Num (range_with_len a k)) ++ ss) ≡ names_by (names_to n) (names_to n) ss
declared_add n a zero ss few at =
    let e : a ≡ n = omega (arith, at) in ap (λ (m : ℕ). names_by (names_to n) (names_to m) ss) e
declared_add n a (suc k) ss few at =
    let more = content_declared (with_sort Num (range_with_len (a + 1) k)) ++ ss in
    ap (λ (l : List (List ℕ)). names_by (names_to n) l more)
    (ap (with_text (names_to a)) (text_of_name n a (omega (arith, at))) ∙ names_more a (omega (arith, at, few)))
    ∙ declared_add n (a + 1) k ss few (omega (arith, at))

content_right : (seed size : ℕ) → size ≤ 190 → IsContent (names_to (size + 2)) (content_of_task (generated seed size))
content_right seed size small =
    let n = size + 2 in
    let few : n < 1000 = omega (arith, small) in
    let rest = rest_fit seed size small in
    record {
      all = fit_in n (content_of_task (generated seed size)) few
          (fit_both n (content_declared (with_sort Num (range_with_len 0 n))) (rest_of seed size) (declared_fit n 0 n (omega arith)) rest);
      numbered = declared_add n 0 n (rest_of seed size) few (omega arith)
          ∙ known_stay (names_to n) (rest_of seed size) (fit_in n (rest_of seed size) few rest);
    }

-- nothing nests too deep
holes_print : (d a k : ℕ) → 1 ≤ a → a + k ≤ 1000 → IsPrintable d (holes (range_with_len a k))
holes_print d a zero one few = tt
holes_print d a (suc k) one few = ((one, omega (arith, few)), holes_print d (a + 1) k (omega arith) (omega (arith, few)))

shared_prints : (size : ℕ) → size ≤ 190 → IsPrintable 1 (counted (holes (range_with_len 1 size)))
shared_prints size small = (
  record { depth = omega arith; reads = omega arith },
  (
    omega arith,
    record { depth = omega arith; reads = omega arith },
    (record { depth = omega arith; reads = omega arith }, tt),
    holes_print 1 1 size (omega arith) (omega (arith, small)),
  ),
)

value_shown : (b : Bool) (added : ℕ) → Fits 2 (value_of b added) × Unit {0}
value_shown false added = (record { depth = omega arith; reads = omega arith }, tt)
value_shown true added = (record { depth = omega arith; reads = omega arith }, tt)

filled_print : (seed : ℕ) (c : Copy) (a k : ℕ) → 1 ≤ a → a + k ≤ 1000 → ArePrintable (fillings seed c (range_with_len a k))
filled_print seed c a zero one few = tt
filled_print seed c a (suc k) one few = (
  (one, omega (arith, few)),
  value_shown (has_edits (edit_of seed a).editor c) (edit_of seed a).added,
  filled_print seed c (a + 1) k (omega arith) (omega (arith, few)),
)

some_outputs : (k : ℕ) → 1 ≤ k → HasOutput (range_with_len 2 k)
some_outputs zero some = absurd (omega (arith, some))
some_outputs (suc k) some = tt

pub spelled : (seed size : ℕ) → 1 ≤ size → size ≤ 190 → HasText (generated seed size)
spelled seed size some small =
    let t = generated seed size in
    let names = names_to (size + 2) in
    let has = content_right seed size small in
    let cut = task_relexed names t (task_written names t (all_spelled names (content_of_task t) has.all)) in
    let shown = task_shown t (record {
      outputs = some_outputs size some;
      assumed = tt;
      shared = shared_prints size small;
      fillings = λ c. filled_print seed c 1 size (omega arith) (omega (arith, small));
    }) in
    let again = pieces_again names (task_pieces t) (content_of_task t) has (task_content shown) cut in
    let G : List Symbol → Type 0 = λ ss. IsTask (map plain ss) t in (
      pieces_text names (task_pieces t),
      record {
        text = record {
          tokens = ap (λ (l : Lexed). l.1) cut;
          names = sym again.names_same;
          grammar = subst G (sym again.symbols_same) shown;
        };
        valid = valid seed size small;
      },
    )

-- so some text spells whatever has its parts
pub has_text : (t : Parts) (seed size : ℕ) → t ≡ generated seed size → 1 ≤ size → size ≤ 190 → HasText t
has_text t seed size same some small =
    let T : Parts → Type 0 = λ u. HasText u in
    subst T (sym same) (spelled seed size some small)
