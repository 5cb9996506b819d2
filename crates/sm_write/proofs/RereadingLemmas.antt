-- A text of lines is read back, line by line, and lines are written one after another.
use Rattle.sm_write.proofs.Imports.{◌≡◌, ℕ, suc, ◌==◌, Bool, true, false, if◌then◌else◌, Option, Some, None, Result, Ok, option_map, List, [], ◌∷◌, ◌++◌, length, map, take, drop, ◌-◌, arith, refl, ap, sym, subst, ◌∙◌, same_Some, map-append, take_all, length-drop, Word, ProofLine, Line, spelled, spelled_back, bytes_of, IsReadable, AreReadable, line_text}
use Rattle.std.proofs.Common.{append_assoc, append-nil}
use Rattle.sm_proof.specs.Lines.{line_of}
use Rattle.sm_proof.specs.Reading.{first_line, read}
use Rattle.sm_proof.proofs.ProgressLemmas.{same_end}
use Rattle.sm_write.proofs.SpellingLemmas.{has_feed, is_one_line}

-- what stands before the first line feed
first_feed : (word bytes : List ℕ) → has_feed word ≡ false → first_line (word ++ 10 ∷ bytes) ≡ Some word
unfolding first_line
first_feed [] bytes clear = refl
first_feed (byte ∷ word) bytes clear = by (byte == 10) refl clear (λ (h : has_feed word ≡ false). first_feed word bytes h)
  where
    by : (b : Bool) → (byte == 10) ≡ b → (if b then true else has_feed word) ≡ false →
        (has_feed word ≡ false → first_line (word ++ 10 ∷ bytes) ≡ Some word) →
        first_line (byte ∷ word ++ 10 ∷ bytes) ≡ Some (byte ∷ word)
    by true e h later = absurd cc
    by false e h later =
        ap
        (λ (b : Bool). if b then Some [] else option_map (λ (line : List ℕ). byte ∷ line) (first_line (word ++ 10 ∷ bytes))) e
        ∙ ap (λ (o : Option (List ℕ)). option_map (λ (line : List ℕ). byte ∷ line) o) (later h)

-- what stands behind it
drop_word : (word bytes : List ℕ) → drop (suc (length word)) (word ++ 10 ∷ bytes) ≡ bytes
drop_word [] bytes = refl
drop_word (byte ∷ word) bytes = drop_word word bytes

-- the first line of a text that is read is the one that was written, and behind it stands what was written behind it
pub next_is : (text : List ℕ) (l k : ProofLine) (rest : List ℕ) (size : ℕ) → text ≡ spelled l ++ 10 ∷ rest → IsReadable l →
    option_map read (first_line text) ≡ Some (Ok k) → option_map (λ (line : List ℕ). suc (length line)) (first_line text) ≡ Some size →
    (k ≡ l) × (drop size text ≡ rest)
next_is text l k rest size is readable reads long =
    let first : first_line text ≡ Some (spelled l) =
    ap first_line is ∙ first_feed (spelled l) rest (is_one_line l readable.within readable.version) in
    let back : read (spelled l) ≡ Ok l = spelled_back l readable.within readable.version readable.short in
    let both : Some (read (spelled l)) ≡ Some (Ok k) =
    ap (λ (o : Option (List ℕ)). option_map read o) (sym first) ∙ reads in
    let same : read (spelled l) ≡ Ok k = same_Some (read (spelled l)) (Ok k) both in
    let count : Some (suc (length (spelled l))) ≡ Some size =
    ap (λ (o : Option (List ℕ)). option_map (λ (line : List ℕ). suc (length line)) o) (sym first) ∙ long in (
      same_end k l (sym same ∙ back),
      ap (λ (n : ℕ). drop n text) (sym (same_Some (suc (length (spelled l))) size count))
          ∙ (ap (drop (suc (length (spelled l)))) is ∙ drop_word (spelled l) rest),
    )

-- all bytes behind some
rest_whole : (size : ℕ) (text : List ℕ) → take (length text - size) (drop size text) ≡ drop size text
rest_whole size text =
    take_all (length text - size) (drop size text)
    (let a : length (drop size text) ≡ length text - size = length-drop size text in omega arith)

-- what was read and what stands behind it, as a part of the text
pub next_part : (text : List ℕ) (l k : ProofLine) (rest : List ℕ) (size : ℕ) → text ≡ spelled l ++ 10 ∷ rest → IsReadable l →
    option_map read (first_line text) ≡ Some (Ok k) → option_map (λ (line : List ℕ). suc (length line)) (first_line text) ≡ Some size →
    (k ≡ l) × (take (length text - size) (drop size text) ≡ rest)
next_part text l k rest size is readable reads long =
    let next = next_is text l k rest size is readable reads long in
    (next.0, rest_whole size text ∙ next.1)

-- the lines so far are those before the lines that are left
abbrev pub AreSoFar : List ℕ → List ℕ → List Line → Type 0
AreSoFar text left lines =
    (all : List ProofLine) → text ≡ bytes_of all → AreReadable all →
    (rest : List ProofLine) × (left ≡ bytes_of rest) × AreReadable rest × (map line_of lines ++ rest ≡ all)

-- what is told of a line and what stands behind it
abbrev pub IsNextLine : List ℕ → List ℕ → Line → Type 0
IsNextLine left more line =
    (l : ProofLine) (rest : List ℕ) → left ≡ spelled l ++ 10 ∷ rest → IsReadable l → (line_of line ≡ l) × (more ≡ rest)

-- none so far
pub none_so_far : (text : List ℕ) → AreSoFar text text []
none_so_far text = λ (all : List ProofLine) (is : text ≡ bytes_of all) (are : AreReadable all). (all, is, are, refl)

-- one line more
pub one_so_far : (text left more : List ℕ) (lines grown : List Line) (line : Line) → (length left ≡ 0 → ⊥) →
    grown ≡ lines ++ line ∷ [] → IsNextLine left more line → AreSoFar text left lines → AreSoFar text more grown
one_so_far text left more lines grown line some put next so = λ (all : List ProofLine) (is : text ≡ bytes_of all) (are : AreReadable all).
    let here = so all is are in
    of all here.0 here.1 here.2 here.3
  where
    of : (all rest : List ProofLine) → left ≡ bytes_of rest → AreReadable rest → map line_of lines ++ rest ≡ all →
        (later : List ProofLine) × (more ≡ bytes_of later) × AreReadable later × (map line_of grown ++ later ≡ all)
    of all [] is are same = absurd (some (ap length is))
    of all (l ∷ later) is are same =
        let one = next l (bytes_of later) is are.0 in (
          later,
          one.1,
          are.1,
          ap (λ (v : List Line). map line_of v ++ later) put
              ∙ (ap (λ (v : List ProofLine). v ++ later) (map-append line_of lines (line ∷ []))
              ∙ (ap (λ (k : ProofLine). (map line_of lines ++ k ∷ []) ++ later) one.0
              ∙ (append_assoc (map line_of lines) (l ∷ []) later ∙ same))),
        )

-- all of them
pub all_so_far : (text left : List ℕ) (lines : List Line) → left ≡ [] → AreSoFar text left lines → (all : List ProofLine) →
    text ≡ bytes_of all → AreReadable all → map line_of lines ≡ all
all_so_far text left lines none so all is are =
    let here = so all is are in
    of here.0 (sym none ∙ here.1) here.3
  where
    full : (word bytes : List ℕ) → [] ≡ word ++ 10 ∷ bytes → ⊥
    full [] bytes e = cc
    full (byte ∷ word) bytes e = cc

    of : (rest : List ProofLine) → [] ≡ bytes_of rest → map line_of lines ++ rest ≡ all → map line_of lines ≡ all
    of [] e same = sym (append-nil (map line_of lines)) ∙ same
    of (l ∷ rest) e same = absurd (full (spelled l) (bytes_of rest) e)

-- a line more is written before others
pub written_more : (old new : List ℕ) (l : ProofLine) (lines : List ProofLine) (all : List ℕ) → new ≡ old ++ line_text l →
    old ++ bytes_of (l ∷ lines) ≡ all → new ++ bytes_of lines ≡ all
written_more old new l lines all put is =
    ap (λ (b : List ℕ). b ++ bytes_of lines) put
    ∙ (append_assoc old (line_text l) (bytes_of lines)
    ∙ (ap (λ (b : List ℕ). old ++ b) (append_assoc (spelled l) (10 ∷ []) (bytes_of lines)) ∙ is))
