-- The first line of bytes, and those behind it.
use Rattle.sm_answers.proofs.Imports.{◌≡◌, ◌+◌, ℕ, Bool, true, false, List, [], ◌∷◌, ◌++◌, drop, append_assoc, refl, sym, ap, ◌∙◌, take-append-drop, IsUtf8, is_utf8, with_byte, FileLines, in_first_line, lines_in, line_before}
use Rattle.std.proofs.Common.{take}
use Rattle.std.proofs.lemmas.Str.{IsUtf8-from_is_utf8}
use Rattle.sm_check.specs.LineEnds.{HasNoEnd}

-- bytes without an end, and then an end, are a line
pub line_first : (front more : List ℕ) → HasNoEnd front → lines_in (front ++ 10 ∷ more) ≡ line_before front (lines_in more)
line_first [] more h = refl
line_first (b ∷ bs) more h =
    ap (λ (t : Bool). with_byte t b (lines_in (bs ++ 10 ∷ more))) h.0
    ∙ ap (λ (all : FileLines). in_first_line b all.ended all.rest) (line_first bs more h.1)

-- bytes without an end, and then an end, are the first line, by where the end is
pub first_by : (bytes : List ℕ) (n : ℕ) → HasNoEnd (take n bytes) → take (n + 1) bytes ≡ take n bytes ++ 10 ∷ [] →
    lines_in bytes ≡ line_before (take n bytes) (lines_in (drop (n + 1) bytes))
first_by bytes n h ends =
    let split : bytes ≡ take n bytes ++ 10 ∷ drop (n + 1) bytes =
    sym (take-append-drop (n + 1) bytes)
    ∙ ap (λ (x : List ℕ). x ++ drop (n + 1) bytes) ends
    ∙ append_assoc (take n bytes) (10 ∷ []) (drop (n + 1) bytes) in
    ap lines_in split ∙ line_first (take n bytes) (drop (n + 1) bytes) h

-- bytes that are no UTF-8 don't pass the test
pub not_utf8 : (bytes : List ℕ) → ¬ IsUtf8 bytes → is_utf8 bytes ≡ false
not_utf8 bytes none = go (is_utf8 bytes) refl
  where
    go : (test : Bool) → is_utf8 bytes ≡ test → test ≡ false
    go true is = absurd (none (IsUtf8-from_is_utf8 bytes is))
    go false is = refl
