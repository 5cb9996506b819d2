-- Which files a list names, a line each, and what is answered where it names none. The count of read
-- faults was `before`, and is `now`. Public clauses cite it.
use Rattle.std.specs.Prelude.{◌≡◌, ◌⊎◌, ◌&&◌, ℕ, suc, Bool, nat_le, if◌then◌else◌, Option, Some, None, List, [], ◌∷◌, length, codes, decimal}
use Rattle.std.specs.Str.{is_utf8}
use Rattle.sm_io.specs.Files.{Known}
use Rattle.sm_io.specs.Reads.{Read, ReadsWhole}
use Rattle.sm_proof.specs.Verdicts.{lines_in}
use Rattle.sm_words.specs.Lines.{line_of}
use Rattle.sm_answers.specs.File.{GivesNoBytes, IsRead, Status, Refused}
use Rattle.sm_answers.specs.Status.{Says}

-- whether a line has 1 to 255 bytes, and is one of the first 1,000: so many lines come before it
abbrev pub is_short : ℕ → List ℕ → Bool
is_short before line =
    nat_le before 999 && (nat_le 1 (length line) && nat_le (length line) 255)

-- whether it names a file: it is short, and its bytes are UTF-8
abbrev pub is_name : ℕ → List ℕ → Bool
is_name before line = is_short before line && is_utf8 line

-- the number of the first bad line, from 1, where so many lines come before these: a line that names
-- no file, or bytes behind the end of the last line
abbrev pub bad_line_after : ℕ → List (List ℕ) → List ℕ → Option ℕ
bad_line_after before [] [] = None
bad_line_after before [] (byte ∷ rest) = Some (suc before)
bad_line_after before (line ∷ lines) rest =
    if is_name before line then bad_line_after (suc before) lines rest else Some (suc before)

-- the number of the first bad line of a list; none where each line names a file and ends
abbrev pub bad_line : List ℕ → Option ℕ
bad_line bytes = bad_line_after 0 (lines_in bytes).ended (lines_in bytes).rest

-- the files that a list names, by its lines
abbrev pub names_in : List ℕ → List (List ℕ)
names_in bytes = (lines_in bytes).ended

-- the line on a bad line of a list
abbrev pub bad_list_line : ℕ → List ℕ
bad_list_line number = line_of (codes "Refused") (codes "BadList" ∷ decimal number ∷ [])

-- the bytes are a list of these names
pub record IsList (bytes : List ℕ) (names : List (List ℕ)) : Type 0 where
  pub good : bad_line bytes ≡ None
  pub named : names ≡ names_in bytes

-- the bytes are no list, and the reply names the first bad line
pub record IsNoList (bytes : List ℕ) (status : Status) (text : List ℕ) : Type 0 where
  pub number : ℕ
  pub bad : bad_line bytes ≡ Some number
  pub says : Says Refused (bad_list_line number) status text

-- the file was read, and its bytes are a list of these names
pub record GivesList (file : Known) (before now : ℕ) (names : List (List ℕ)) : Type 0 where
  pub bytes : List ℕ
  pub read : IsRead file before now bytes
  pub is : IsList bytes names

-- the file was read, and its bytes are no list
pub record RefusesList (file : Known) (before now : ℕ) (status : Status) (text : List ℕ)
    : Type 0 where
  pub bytes : List ℕ
  pub read : IsRead file before now bytes
  pub refuses : IsNoList bytes status text

-- the file gives no list, and the answer says why
abbrev pub GivesNoList : Known → ℕ → ℕ → Status → List ℕ → Type 0
GivesNoList file before now status text =
    GivesNoBytes (codes "list") file before now status text
    ⊎ RefusesList file before now status text

-- a file alone was read, in one pass to its end, and its bytes are a list of these names
pub record ReadsList (name : List ℕ) (before now : List Read) (names : List (List ℕ)) : Type 0 where
  pub bytes : List ℕ
  pub read : ReadsWhole name before now bytes
  pub is : IsList bytes names

-- the line with a number before it
abbrev pub numbered_line : ℕ → List ℕ → List ℕ
numbered_line number line = line_of (decimal number) (line ∷ [])
