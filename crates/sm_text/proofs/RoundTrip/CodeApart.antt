-- In canonical code nothing after a token goes on with it.
use Rattle.sm_text.proofs.Imports.{◌≡◌, ℕ, lit<, ◌^◌, ◌<◌, true, false, ◌==◌, List, [], ◌∷◌, ◌++◌, refl, sym, subst, append_assoc, arith, decimal_is_IsNumeral_wide, decimal, list_all, slice_get, Condition, Code, End, Skip, Assign, Write, If, While, Hole, is_space, pieces_text, mark_piece, name_piece, line_end, deeper, line, element_pieces, expression_pieces, condition_pieces, code_pieces}
use Rattle.std.proofs.Common.{unwrap_or}
use Rattle.sm_syntax.specs.declared.symbol.Mark.TheVariants as mark
use Rattle.sm_syntax.specs.declared.symbol.Symbol.TheVariants as s
use Rattle.sm_text.specs.printing.Pieces.{Piece, Gap, space}
use Rattle.sm_text.specs.printing.Canonical.{braces, branches, guard_pieces}
use Rattle.sm_text.proofs.RoundTrip.PieceTokens.{begins, digits_of_decimal}
use Rattle.sm_text.proofs.RoundTrip.TextTokens.{IsNameText, AreApart}
use Rattle.sm_text.proofs.RoundTrip.Apart.{decimal_safe, IsClosed, Runs, RunsBefore, IsWritten, IsTested, closed_at, name_runs, square_runs, expression_runs, condition_runs, space_closed}

-- pieces before a semicolon
pub ended_runs : (names : List (List ℕ)) (ps : List Piece) → RunsBefore names ps → RunsBefore names (ps ++ mark_piece mark.Semicolon ∷ [])
ended_runs names ps inside rest apart behind =
    let P : List Piece → Type 0 = λ l. Runs names l in
    subst P (sym (append_assoc ps (mark_piece mark.Semicolon ∷ []) rest))
    (inside (mark_piece mark.Semicolon ∷ rest) (tt, behind.closed (s.Mark mark.Semicolon), apart)
    (record { closed = closed_at 59 refl refl }))

-- a line
pub line_apart : (names : List (List ℕ)) (margin : List ℕ) (ps rest : List Piece) → list_all is_space margin ≡ true → RunsBefore names ps →
    AreApart names rest → AreApart names (line margin ps ++ rest)
line_apart names margin ps rest white inside apart =
    let P : List Piece → Type 0 = λ l. AreApart names l in (
      white,
      subst P (sym (append_assoc ps (line_end ∷ []) rest))
          (inside (line_end ∷ rest) (refl, apart) (record { closed = closed_at 10 refl refl })).apart,
    )

-- an element
element_runs : (names : List (List ℕ)) (a : ℕ) (ps : List Piece) → IsNameText (unwrap_or (slice_get names a) []) → RunsBefore names ps →
    RunsBefore names (element_pieces a ps)
element_runs names a ps good inside rest apart behind =
    let inner = square_runs names ps inside rest apart behind in
    name_runs names a ((mark_piece mark.OpenSquare ∷ (ps ++ mark_piece mark.CloseSquare ∷ [])) ++ rest) good inner.apart
    (record { closed = closed_at 91 refl refl })

-- a value after its `=`
value_apart : (names : List (List ℕ)) (ps rest : List Piece) → RunsBefore names ps → AreApart names rest → IsClosed names rest →
    AreApart names ((space ∷ mark_piece mark.Becomes ∷ space ∷ (ps ++ mark_piece mark.Semicolon ∷ [])) ++ rest)
value_apart names ps rest inside apart behind = (refl, (tt, refl, (refl, (ended_runs names ps inside rest apart behind).apart)))

-- lines in braces, before pieces that no token goes on with
pub braces_runs : (names : List (List ℕ)) (margin : List ℕ) (ps : List Piece) → list_all is_space margin ≡ true →
    ((rest : List Piece) → AreApart names rest → AreApart names (ps ++ rest)) → RunsBefore names (braces margin ps)
unfolding braces
braces_runs names margin ps white inside rest apart behind =
    let P : List Piece → Type 0 = λ l. AreApart names l in
    let last = inside (Gap margin ∷ mark_piece mark.CloseCurly ∷ rest) (white, (tt, behind.closed (s.Mark mark.CloseCurly), apart)) in
    record {
      apart = (tt, refl, (refl, subst P (sym (append_assoc ps (Gap margin ∷ mark_piece mark.CloseCurly ∷ []) rest)) last));
      safe = refl;
    }

-- a guard before a block
guard_runs : (names : List (List ℕ)) (rest : List Piece) (b : Condition) → RunsBefore names (condition_pieces b) → AreApart names rest →
    AreApart names (guard_pieces b ++ rest)
unfolding guard_pieces
guard_runs names rest b inside apart =
    let P : List Piece → Type 0 = λ l. Runs names l in
    let inner = subst P (sym (append_assoc (condition_pieces b) (mark_piece mark.CloseRound ∷ space ∷ []) rest))
    (inside (mark_piece mark.CloseRound ∷ space ∷ rest) (tt, refl, (refl, apart)) (record { closed = closed_at 41 refl refl })) in
    (tt, inner.safe, inner.apart)

-- two branches
branches_runs : (names : List (List ℕ)) (ps qs : List Piece) → RunsBefore names ps → RunsBefore names qs → RunsBefore names (branches ps qs)
unfolding branches
branches_runs names ps qs first second rest apart behind =
    let P : List Piece → Type 0 = λ l. Runs names l in
    let after = second rest apart behind in
    subst P (sym (append_assoc ps (space ∷ mark_piece mark.Else ∷ space ∷ qs) rest))
    (first (space ∷ mark_piece mark.Else ∷ space ∷ (qs ++ rest)) (refl, (tt, refl, (refl, after.apart))) (space_closed names _))

-- no `=` begins a number
pub question_ends : (h : ℕ) (v : List ℕ) → h < 2 ^ 127 → begins (λ b. b == 61) (decimal h ++ v) ≡ false
question_ends h v small =
    let wide : h < 10 ^ 64 = omega (arith, lit< {m = 2 ^ 127} {n = 10 ^ 64} tt) in
    decimal_safe (decimal h) v (decimal_is_IsNumeral_wide h wide).0.0 (digits_of_decimal h wide)

-- code that a text may have, where these are the texts of the names
abbrev pub IsCode : List (List ℕ) → Code → Type 0
IsCode names End = Unit {0}
IsCode names (Skip k) = IsCode names k
IsCode names (Assign x e k) = IsNameText (unwrap_or (slice_get names x) []) × IsWritten names e × IsCode names k
IsCode names (Write a i e k) = IsNameText (unwrap_or (slice_get names a) []) × IsWritten names i × IsWritten names e × IsCode names k
IsCode names (If b c e k) = IsTested names b × IsCode names c × IsCode names e × IsCode names k
IsCode names (While b c k) = IsTested names b × IsCode names c × IsCode names k
IsCode names (Hole h k) = (h < 2 ^ 127) × IsCode names k

-- pieces of code are apart, and so are those after them
pub code_apart : (names : List (List ℕ)) (c : Code) (margin : List ℕ) → list_all is_space margin ≡ true → IsCode names c →
    (rest : List Piece) → AreApart names rest → AreApart names (code_pieces margin c ++ rest)
code_apart names End margin white good rest apart = apart
code_apart names (Skip k) margin white good rest apart =
    (white, (tt, refl, (tt, refl, (refl, code_apart names k margin white good rest apart))))
code_apart names (Assign x e k) margin white good rest apart =
    let ps = expression_pieces e in
    let front = name_piece x ∷ space ∷ mark_piece mark.Becomes ∷ space ∷ (ps ++ mark_piece mark.Semicolon ∷ []) in
    let more = code_apart names k margin white good.2 rest apart in
    let P : List Piece → Type 0 = λ l. AreApart names l in
    let inside : RunsBefore names front = λ after apart_after behind.
    name_runs names x ((space ∷ mark_piece mark.Becomes ∷ space ∷ (ps ++ mark_piece mark.Semicolon ∷ [])) ++ after) good.0
    (value_apart names ps after (expression_runs names e good.1) apart_after behind) (space_closed names _) in
    subst P (sym (append_assoc (line margin front) (code_pieces margin k) rest))
    (line_apart names margin front (code_pieces margin k ++ rest) white inside more)
code_apart names (Write a i e k) margin white good rest apart =
    let ps = expression_pieces e in
    let value = space ∷ mark_piece mark.Becomes ∷ space ∷ (ps ++ mark_piece mark.Semicolon ∷ []) in
    let front = element_pieces a (expression_pieces i) ++ value in
    let more = code_apart names k margin white good.3 rest apart in
    let P : List Piece → Type 0 = λ l. AreApart names l in
    let Q : List Piece → Type 0 = λ l. Runs names l in
    let inside : RunsBefore names front = λ after apart_after behind.
    subst Q (sym (append_assoc (element_pieces a (expression_pieces i)) value after))
    (element_runs names a (expression_pieces i) good.0 (expression_runs names i good.1) (value ++ after)
    (value_apart names ps after (expression_runs names e good.2) apart_after behind) (space_closed names _)) in
    subst P (sym (append_assoc (line margin front) (code_pieces margin k) rest))
    (line_apart names margin front (code_pieces margin k ++ rest) white inside more)
code_apart names (If b c e k) margin white good rest apart =
    let choice = branches (braces margin (code_pieces (deeper margin) c)) (braces margin (code_pieces (deeper margin) e)) in
    let front = mark_piece mark.If ∷ space ∷ (guard_pieces b ++ choice) in
    let more = code_apart names k margin white good.3 rest apart in
    let first = braces_runs names margin (code_pieces (deeper margin) c) white (code_apart names c (deeper margin) white good.1) in
    let second = braces_runs names margin (code_pieces (deeper margin) e) white (code_apart names e (deeper margin) white good.2) in
    let P : List Piece → Type 0 = λ l. AreApart names l in
    let inside : RunsBefore names front = λ after apart_after behind.
    record {
      apart = (
        tt,
        refl,
        (
          refl,
          subst P (sym (append_assoc (guard_pieces b) choice after))
              (guard_runs names (choice ++ after) b (condition_runs names b good.0)
              (branches_runs names _ _ first second after apart_after behind).apart),
        ),
      );
      safe = refl;
    } in
    subst P (sym (append_assoc (line margin front) (code_pieces margin k) rest))
    (line_apart names margin front (code_pieces margin k ++ rest) white inside more)
code_apart names (While b c k) margin white good rest apart =
    let block = braces margin (code_pieces (deeper margin) c) in
    let front = mark_piece mark.While ∷ space ∷ (guard_pieces b ++ block) in
    let more = code_apart names k margin white good.2 rest apart in
    let body = braces_runs names margin (code_pieces (deeper margin) c) white (code_apart names c (deeper margin) white good.1) in
    let P : List Piece → Type 0 = λ l. AreApart names l in
    let inside : RunsBefore names front = λ after apart_after behind.
    record {
      apart = (
        tt,
        refl,
        (
          refl,
          subst P (sym (append_assoc (guard_pieces b) block after))
              (guard_runs names (block ++ after) b (condition_runs names b good.0) (body after apart_after behind).apart),
        ),
      );
      safe = refl;
    } in
    subst P (sym (append_assoc (line margin front) (code_pieces margin k) rest))
    (line_apart names margin front (code_pieces margin k ++ rest) white inside more)
code_apart names (Hole h k) margin white good rest apart = (
  white,
  (
    tt,
    question_ends h (pieces_text names (mark_piece mark.Semicolon ∷ line_end ∷ (code_pieces margin k ++ rest))) good.0,
    (good.0, refl, (tt, refl, (refl, code_apart names k margin white good.1 rest apart))),
  ),
)
