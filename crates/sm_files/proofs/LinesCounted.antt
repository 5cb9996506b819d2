-- As many lines end as there are line feeds.
use Rattle.sm_files.proofs.Imports.{◌≡◌, ◌==◌, ◌+◌, ℕ, Bool, true, false, if◌then◌else◌, List, [], ◌∷◌, length, cond, count_by, refl, arith, FileLines, in_first_line, lines_in, line_count}
use Rattle.std.proofs.lemmas.List.Recursion.{is_count_by}

-- a byte before a line or before what isn't ended ends none
none_ended : (byte : ℕ) (lines : List (List ℕ)) (rest : List ℕ) → length (in_first_line byte lines rest).ended ≡ length lines
none_ended byte [] rest = refl
none_ended byte (line ∷ lines) rest = refl

one_more : (byte : ℕ) (bytes : List ℕ) → line_count (byte ∷ bytes) ≡ cond (byte == 10) (1 + line_count bytes) (line_count bytes)
one_more byte bytes = by (byte == 10) (lines_in bytes)
  where
    by : (ends : Bool) (f : FileLines) →
        length (if ends then record { ended = [] ∷ f.ended; rest = f.rest } else in_first_line byte f.ended f.rest).ended
        ≡ cond ends (1 + length f.ended) (length f.ended)
    by true f = omega arith
    by false f = none_ended byte f.ended f.rest

pub lines_counted : (bytes : List ℕ) → line_count bytes ≡ count_by (λ (b : ℕ). b == 10) bytes
lines_counted bytes = is_count_by line_count (λ (b : ℕ). b == 10) refl one_more bytes
