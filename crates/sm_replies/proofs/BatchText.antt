-- The lines of a batch's text, by their numbers.
use Rattle.sm_replies.proofs.Imports.{◌≡◌, ◌<◌, ◌≤◌, ◌+◌, ◌^◌, ◌==◌, ℕ, zero, suc, Bool, true, false, if◌then◌else◌, List, [], ◌∷◌, ◌++◌, Some, length, slice_get, get_or, codes, decimal, refl, sym, ap, subst, ◌∙◌, append_assoc, append-nil, arith, AllZip, Contains, HasNoEnd, bad_list_line, Line, first_line, numbered, texts, HasAccepted}
use Rattle.std.specs.Str.Parse.{AllDigits}
use Rattle.std.proofs.lemmas.Bool.Decides.{nat_tests}
use Rattle.std.proofs.lemmas.Fmt.{decimal_injective, decimal_is_IsNumeral}
use Rattle.std.proofs.lemmas.Str.Parse.{digit_from_value}
use Rattle.sm_check.proofs.LineLemmas.{lines_in-line}
use Rattle.sm_proof.specs.Verdicts.{FileLines, lines_in}
use Rattle.sm_words.specs.Lines.{spaced}
use Rattle.sm_answers.proofs.ListsLemmas.{line_first}

-- ---- digits

digits_of : (n : ℕ) → n < 2 ^ 64 → AllDigits 10 (decimal n)
digits_of n small = (decimal_is_IsNumeral n small).0.1

no_end_digits : (ds : List ℕ) → AllDigits 10 ds → HasNoEnd ds
no_end_digits [] h = tt
no_end_digits (d ∷ ds) (first, more) =
    let in_range = digit_from_value d first in
    let low = in_range.0 in
    let other : (d == 10) ≡ false = grind (arith, nat_tests) in
    (other, no_end_digits ds more)

-- digits before a space are told by the whole
split_space : (ds es xs ys : List ℕ) → AllDigits 10 ds → AllDigits 10 es → ds ++ 32 ∷ xs ≡ es ++ 32 ∷ ys → (ds ≡ es) × (xs ≡ ys)
split_space [] [] xs ys a b e = let same : xs ≡ ys = cc in (refl, same)
split_space [] (c ∷ es) xs ys a b e =
    let low = (digit_from_value c b.0).0 in
    let head : 32 ≡ c = cc in absurd (omega (arith, low, head))
split_space (c ∷ ds) [] xs ys a b e =
    let low = (digit_from_value c a.0).0 in
    let head : c ≡ 32 = cc in absurd (omega (arith, low, head))
split_space (c ∷ ds) (d ∷ es) xs ys a b e =
    let head : c ≡ d = cc in
    let tail : ds ++ 32 ∷ xs ≡ es ++ 32 ∷ ys = cc in
    let more = split_space ds es xs ys a.1 b.1 tail in
    (rw (head, more.0) refl, more.1)

-- ---- no ends

no_end_both : (xs ys : List ℕ) → HasNoEnd xs → HasNoEnd ys → HasNoEnd (xs ++ ys)
no_end_both [] ys a b = b
no_end_both (x ∷ xs) ys a b = (a.0, no_end_both xs ys a.1 b)

pub no_end_first : (text : List ℕ) → HasNoEnd (first_line text)
no_end_first [] = tt
no_end_first (b ∷ bs) = go (no_end_first bs) (b == 10) refl
  where
    go : HasNoEnd (first_line bs) → (ends : Bool) → (b == 10) ≡ ends → HasNoEnd (if ends then [] else b ∷ first_line bs)
    go more true is = tt
    go more false is = (is, more)

-- whether no byte ends a line
abbrev none_ends : List ℕ → Bool
none_ends [] = true
none_ends (b ∷ bs) = if b == 10 then false else none_ends bs

-- bytes of which a test says that none ends a line
pub no_end_by : (bytes : List ℕ) → none_ends bytes ≡ true → HasNoEnd bytes
no_end_by [] e = tt
no_end_by (b ∷ bs) e = go (no_end_by bs) (b == 10) refl e
  where
    go : (none_ends bs ≡ true → HasNoEnd bs) → (ends : Bool) → (b == 10) ≡ ends → (if ends then false else none_ends bs) ≡ true
        → HasNoEnd (b ∷ bs)
    go more true is h = absurd cc
    go more false is h = (is, more h)

-- ---- lines with numbers

-- a line with its number, without its end
abbrev numbered_text : ℕ → List ℕ → List ℕ
numbered_text n line = decimal n ++ spaced (line ∷ [])

abbrev numbered_texts : ℕ → List (List ℕ) → List (List ℕ)
numbered_texts n [] = []
numbered_texts n (line ∷ lines) = numbered_text n line ∷ numbered_texts (suc n) lines

no_end_numbered : (n : ℕ) (line : List ℕ) → n < 2 ^ 64 → HasNoEnd line → HasNoEnd (numbered_text n line)
no_end_numbered n line small h =
    no_end_both (decimal n) (spaced (line ∷ [])) (no_end_digits (decimal n) (digits_of n small))
    (refl, subst HasNoEnd (sym (append-nil line)) h)

-- lines without ends in them are those of their text
abbrev pub AreWhole : List (List ℕ) → Type 0
AreWhole [] = Unit {0}
AreWhole (line ∷ lines) = HasNoEnd line × AreWhole lines

lines_numbered : (n : ℕ) (lines : List (List ℕ)) → n + length lines < 2 ^ 64 → AreWhole lines
    → (lines_in (numbered n lines)).ended ≡ numbered_texts n lines
lines_numbered n [] small h = refl
lines_numbered n (line ∷ lines) small (first, more) =
    let text = numbered_text n line in
    let here : n < 2 ^ 64 = omega (arith, small) in
    let next : suc n + length lines < 2 ^ 64 = omega (arith, small) in
    ap (λ (bs : List ℕ). (lines_in bs).ended) (append_assoc text (10 ∷ []) (numbered (suc n) lines))
    ∙ ap (λ (fs : FileLines). fs.ended) (line_first text (numbered (suc n) lines) (no_end_numbered n line here first))
    ∙ ap (λ (ls : List (List ℕ)). text ∷ ls) (lines_numbered (suc n) lines next more)

-- a numbered line that is accepted is at the place of its number
accepted_here : (n m : ℕ) (line : List ℕ) → n < 2 ^ 64 → m < 2 ^ 64 → numbered_text n line ≡ decimal m ++ codes " Accepted"
    → (n ≡ m) × (line ≡ codes "Accepted")
accepted_here n m line here there e =
    let both =
    split_space (decimal n) (decimal m) (line ++ []) (codes "Accepted") (digits_of n here) (digits_of m there) e in
    (decimal_injective n m here there both.0, sym (append-nil line) ∙ both.1)

-- what stands at the place of a number
pub record StandsAccepted (R : List ℕ → Line → Type 0) (names : List (List ℕ)) (k : ℕ) : Type 0 where
  pub name : List ℕ
  pub line : Line
  pub at : slice_get names k ≡ Some name
  pub is : R name line
  pub accepted : line.1 ≡ codes "Accepted"

accepted_at : (R : List ℕ → Line → Type 0) (n m : ℕ) (names : List (List ℕ)) (lines : List Line) (j : ℕ)
    → n + length lines < 2 ^ 64 → m < 2 ^ 64 → AllZip R names lines → j < length (numbered_texts n (texts lines))
    → get_or (numbered_texts n (texts lines)) j (decimal m ++ codes " Accepted") ≡ decimal m ++ codes " Accepted"
    → (m ≡ n + j) × StandsAccepted R names j
accepted_at R n m [] [] j small most all within is = absurd (omega (arith, within))
accepted_at R n m [] (l ∷ ls) j small most all within is = absurd all
accepted_at R n m (name ∷ names) [] j small most all within is = absurd all
accepted_at R n m (name ∷ names) (l ∷ ls) zero small most (first, all) within is =
    let here = accepted_here n m l.1 (omega (arith, small)) most is in
    let same = here.0 in
    (omega (arith, same), record { name = name; line = l; at = refl; is = first; accepted = here.1 })
accepted_at R n m (name ∷ names) (l ∷ ls) (suc j) small most (first, all) within is =
    let more = accepted_at R (suc n) m names ls j (omega (arith, small)) most all (omega (arith, within)) is in
    let number = more.0 in
    (omega (arith, number), record { name = more.1.name; line = more.1.line; at = more.1.at; is = more.1.is; accepted = more.1.accepted })

-- where a text has such a line, the name at its place has it
pub accepted_name : (R : List ℕ → Line → Type 0) (names : List (List ℕ)) (lines : List Line) (k : ℕ) → length lines ≤ 1000 → k < 1000
    → AreWhole (texts lines) → AllZip R names lines → HasAccepted k (numbered 1 (texts lines)) → StandsAccepted R names k
accepted_name R names lines k few below whole all has =
    let long : length (texts lines) ≡ length lines = length_texts lines in
    let small : 1 + length (texts lines) < 2 ^ 64 = omega (arith, long, few) in
    let are = lines_numbered 1 (texts lines) small whole in
    let at =
    subst (λ (ls : List (List ℕ)). Contains ls (decimal (suc k) ++ codes " Accepted")) are has in
    let found =
    accepted_at R 1 (suc k) names lines at.0 (omega (arith, few)) (omega (arith, below)) all at.1 at.2 in
    let number = found.0 in
    let place : at.0 ≡ k = omega (arith, number) in
    subst (λ (j : ℕ). StandsAccepted R names j) place found.1
  where
    length_texts : (ls : List Line) → length (texts ls) ≡ length ls
    length_texts [] = refl
    length_texts (l ∷ ls) = ap suc (length_texts ls)

-- ---- texts without such lines

-- one line that begins with no digit isn't one
pub no_accepted : (b : ℕ) (bs : List ℕ) (text : List ℕ) (k : ℕ) → 57 < b → HasNoEnd (b ∷ bs) → text ≡ (b ∷ bs) ++ 10 ∷ [] → k < 1000
    → HasAccepted k text → ⊥
no_accepted b bs text k high whole is below has =
    let alone : (lines_in text).ended ≡ (b ∷ bs) ∷ [] =
    ap (λ (t : List ℕ). (lines_in t).ended) is ∙ ap (λ (fs : FileLines). fs.ended) (lines_in-line (b ∷ bs) whole) in
    let at = subst (λ (ls : List (List ℕ)). Contains ls (decimal (suc k) ++ codes " Accepted")) alone has in
    go at.0 at.1 at.2
  where
    begins : (ds : List ℕ) → AllDigits 10 ds → b ∷ bs ≡ ds ++ codes " Accepted" → ⊥
    begins [] h e = let head : b ≡ 32 = cc in omega (arith, high, head)
    begins (d ∷ ds) h e =
        let most = (digit_from_value d h.0).1 in
        let head : b ≡ d = cc in omega (arith, high, head, most)

    go : (j : ℕ) → j < length ((b ∷ bs) ∷ []) → get_or ((b ∷ bs) ∷ []) j (decimal (suc k) ++ codes " Accepted") ≡ decimal (suc k) ++ codes " Accepted"
        → ⊥
    go zero within e = begins (decimal (suc k)) (digits_of (suc k) (omega (arith, below))) e
    go (suc j) within e = omega (arith, within)

-- the line on a bad line of a list is none
pub bad_not_accepted : (number k : ℕ) (text : List ℕ) → number ≤ 1001 → k < 1000 → text ≡ bad_list_line number → HasAccepted k text → ⊥
bad_not_accepted number k text few below is has =
    let word = spaced (codes "BadList" ∷ decimal number ∷ []) in
    let digits = no_end_digits (decimal number) (digits_of number (omega (arith, few))) in
    let whole : HasNoEnd (codes "Refused" ++ word) =
    no_end_both (codes "Refused BadList ") (decimal number ++ []) (no_end_by (codes "Refused BadList ") refl)
    (subst HasNoEnd (sym (append-nil (decimal number))) digits) in
    no_accepted 82 (codes "efused" ++ word) text k (omega arith) whole is below has
