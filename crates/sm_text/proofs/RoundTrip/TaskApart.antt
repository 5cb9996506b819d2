-- In a canonical task nothing after a token goes on with it, so its tokens are cut as they were put.
use Rattle.sm_text.proofs.Imports.{◌≡◌, ℕ, pos, ◌^◌, ◌<◌, true, false, Option, Some, None, List, [], ◌∷◌, ◌++◌, refl, sym, subst, append_assoc, list_all, slice_get, Mark, Sort, Num, Arr, Condition, Code, Fillings, Copy, O, A, B, M, declares, Parts, is_space, lexed, pieces_text, mark_piece, number_piece, line_end, margin_at, deeper, line, condition_pieces, code_pieces, block_pieces, declaration_pieces, more_names_pieces, names_pieces, filling_pieces}
use Rattle.std.proofs.Common.{unwrap_or, append-nil}
use Rattle.sm_syntax.specs.declared.symbol.Mark.TheVariants as mark
use Rattle.sm_syntax.specs.declared.symbol.Symbol.TheVariants as s
use Rattle.sm_text.specs.printing.Pieces.{Piece, space}
use Rattle.sm_text.specs.printing.Canonical.{output_pieces, assumption_pieces, shared_pieces, list_pieces, lists_pieces}
use Rattle.sm_text.specs.printing.Canonical.{task_pieces}
use Rattle.sm_text.proofs.RoundTrip.PieceTokens.{begins, goes_on_mark}
use Rattle.sm_text.proofs.RoundTrip.TextTokens.{IsNameText, AreApart, tokens_at, relexed}
use Rattle.sm_text.proofs.RoundTrip.Apart.{IsClosed, RunsBefore, IsTested, closed_at, name_runs, condition_runs}
use Rattle.sm_text.proofs.RoundTrip.CodeApart.{IsCode, ended_runs, line_apart, braces_runs, question_ends, code_apart}

-- pieces that are apart where those after them are
abbrev pub ApartBefore : List (List ℕ) → List Piece → Type 0
ApartBefore names ps = (rest : List Piece) → AreApart names rest → AreApart names (ps ++ rest)

-- two lists of pieces
pub both_apart : (names : List (List ℕ)) (ps qs : List Piece) → ApartBefore names ps → ApartBefore names qs → ApartBefore names (ps ++ qs)
both_apart names ps qs first second rest apart =
    let P : List Piece → Type 0 = λ l. AreApart names l in
    subst P (sym (append_assoc ps qs rest)) (first (qs ++ rest) (second rest apart))

-- the numbers of names that have texts
abbrev pub AreTexts : List (List ℕ) → List ℕ → Type 0
AreTexts names [] = Unit {0}
AreTexts names (x ∷ xs) = IsNameText (unwrap_or (slice_get names x) []) × AreTexts names xs

abbrev pub AreDeclaredTexts : List (List ℕ) → List (ℕ × Sort) → Type 0
AreDeclaredTexts names [] = Unit {0}
AreDeclaredTexts names (d ∷ ds) = IsNameText (unwrap_or (slice_get names d.0) []) × AreDeclaredTexts names ds

declares_ends : (sort : Sort) → begins (goes_on_mark (declares sort)) (32 ∷ []) ≡ false
declares_ends Num = refl
declares_ends Arr = refl

pub declarations_apart : (names : List (List ℕ)) (ds : List (ℕ × Sort)) → AreDeclaredTexts names ds →
    ApartBefore names (declaration_pieces ds)
declarations_apart names [] good rest apart = apart
declarations_apart names (d ∷ ds) good rest apart =
    (refl, (tt, declares_ends d.1, (refl, (good.0, refl, (tt, refl, (refl, declarations_apart names ds good.1 rest apart))))))

more_closed : (names : List (List ℕ)) (xs : List ℕ) (rest : List Piece) → IsClosed names rest →
    IsClosed names (more_names_pieces xs ++ rest)
more_closed names [] rest behind = behind
more_closed names (x ∷ xs) rest behind = record { closed = closed_at 44 refl refl }

more_apart : (names : List (List ℕ)) (xs : List ℕ) (rest : List Piece) → AreTexts names xs → AreApart names rest → IsClosed names rest →
    AreApart names (more_names_pieces xs ++ rest)
more_apart names [] rest good apart behind = apart
more_apart names (x ∷ xs) rest good apart behind = (
  tt,
  refl,
  (
    refl,
    (name_runs names x (more_names_pieces xs ++ rest) good.0 (more_apart names xs rest good.1 apart behind)
        (more_closed names xs rest behind)).apart,
  ),
)

names_run : (names : List (List ℕ)) (xs : List ℕ) → AreTexts names xs → RunsBefore names (names_pieces xs)
names_run names [] good = λ rest apart behind. record { apart = apart; safe = behind.closed (s.Mark mark.Plus) }
names_run names (x ∷ xs) good = λ rest apart behind.
    name_runs names x (more_names_pieces xs ++ rest) good.0 (more_apart names xs rest good.1 apart behind)
    (more_closed names xs rest behind)

pub outputs_apart : (names : List (List ℕ)) (xs : List ℕ) → AreTexts names xs → ApartBefore names (output_pieces xs)
unfolding output_pieces
outputs_apart names xs good rest apart =
    let ps = names_pieces xs in
    let front = mark_piece mark.Output ∷ space ∷ (ps ++ mark_piece mark.Semicolon ∷ []) in
    let inside : RunsBefore names front = λ after apart_after behind.
    record { apart = (tt, refl, (refl, (ended_runs names ps (names_run names xs good) after apart_after behind).apart)); safe = refl } in
    line_apart names [] front rest refl inside apart

abbrev pub IsAssumedText : List (List ℕ) → Option Condition → Type 0
IsAssumedText names None = Unit {0}
IsAssumedText names (Some b) = IsTested names b

assumption_apart : (names : List (List ℕ)) (o : Option Condition) → IsAssumedText names o → ApartBefore names (assumption_pieces o)
unfolding assumption_pieces
assumption_apart names None good rest apart = apart
assumption_apart names (Some b) good rest apart =
    let ps = condition_pieces b in
    let front = mark_piece mark.Assume ∷ space ∷ (ps ++ mark_piece mark.Semicolon ∷ []) in
    let inside : RunsBefore names front = λ after apart_after behind.
    record {
      apart = (tt, refl, (refl, (ended_runs names ps (condition_runs names b good) after apart_after behind).apart));
      safe = refl;
    } in
    line_apart names [] front rest refl inside apart

pub block_runs : (names : List (List ℕ)) (c : Code) (margin : List ℕ) → list_all is_space margin ≡ true → IsCode names c →
    RunsBefore names (block_pieces margin c)
block_runs names c margin white good =
    braces_runs names margin (code_pieces (deeper margin) c) white (code_apart names c (deeper margin) white good)

pub shared_apart : (names : List (List ℕ)) (c : Code) → IsCode names c → ApartBefore names (shared_pieces c)
unfolding shared_pieces
shared_apart names c good rest apart =
    let front = mark_piece mark.Shared ∷ space ∷ block_pieces [] c in
    let inside : RunsBefore names front = λ after apart_after behind.
    record { apart = (tt, refl, (refl, (block_runs names c [] refl good after apart_after behind).apart)); safe = refl } in
    line_apart names [] front rest refl inside apart

-- fillings that a text may have
abbrev pub AreFillingTexts : List (List ℕ) → Fillings → Type 0
AreFillingTexts names [] = Unit {0}
AreFillingTexts names (f ∷ fs) = (f.0 < 2 ^ 127) × IsCode names f.1 × AreFillingTexts names fs

fillings_apart : (names : List (List ℕ)) (fs : Fillings) → AreFillingTexts names fs → ApartBefore names (filling_pieces fs)
fillings_apart names [] good rest apart = apart
fillings_apart names (f ∷ fs) good rest apart =
    let block = block_pieces (margin_at 1) f.1 in
    let front = mark_piece mark.Question ∷ number_piece (pos f.0) ∷ space ∷ block in
    let inside : RunsBefore names front = λ after apart_after behind.
    record {
      apart = (
        tt,
        question_ends f.0 (pieces_text names (space ∷ (block ++ after))) good.0,
        (good.0, refl, (refl, (block_runs names f.1 (margin_at 1) refl good.1 after apart_after behind).apart)),
      );
      safe = refl;
    } in
    let P : List Piece → Type 0 = λ l. AreApart names l in
    subst P (sym (append_assoc (line (margin_at 1) front) (filling_pieces fs) rest))
    (line_apart names (margin_at 1) front (filling_pieces fs ++ rest) refl inside (fillings_apart names fs good.2 rest apart))

list_apart : (names : List (List ℕ)) (m : Mark) (fs : Fillings) → begins (goes_on_mark m) (32 ∷ []) ≡ false → AreFillingTexts names fs →
    ApartBefore names (mark_piece m ∷ list_pieces fs)
unfolding list_pieces
list_apart names m fs ends good rest apart =
    let P : List Piece → Type 0 = λ l. AreApart names l in
    let block = braces_runs names [] (filling_pieces fs) refl (fillings_apart names fs good) (line_end ∷ rest) (refl, apart)
    (record { closed = closed_at 10 refl refl }) in
    (tt, ends, (refl, subst P (sym (append_assoc _ (line_end ∷ []) rest)) block.apart))

-- a task that a text may have
pub record IsTaskText (names : List (List ℕ)) (t : Parts) : Type 0 where
  pub declared : AreDeclaredTexts names t.declared
  pub outputs : AreTexts names t.outputs
  pub assumed : IsAssumedText names t.assumed
  pub shared : IsCode names t.shared
  pub fillings : (c : Copy) → AreFillingTexts names (t.fillings c)

lists_apart : (names : List (List ℕ)) (t : Parts) → IsTaskText names t → ApartBefore names (lists_pieces t.fillings)
unfolding lists_pieces
lists_apart names t good =
    let o = mark_piece mark.Base ∷ list_pieces (t.fillings O) in
    let a = mark_piece mark.VariantA ∷ list_pieces (t.fillings A) in
    let b = mark_piece mark.VariantB ∷ list_pieces (t.fillings B) in
    let m = mark_piece mark.Candidate ∷ list_pieces (t.fillings M) in
    both_apart names o (a ++ (b ++ m)) (list_apart names mark.Base (t.fillings O) refl (good.fillings O))
    (both_apart names a (b ++ m) (list_apart names mark.VariantA (t.fillings A) refl (good.fillings A))
    (both_apart names b m (list_apart names mark.VariantB (t.fillings B) refl (good.fillings B))
    (list_apart names mark.Candidate (t.fillings M) refl (good.fillings M))))

task_apart : (names : List (List ℕ)) (t : Parts) → IsTaskText names t → ApartBefore names (task_pieces t)
unfolding task_pieces
task_apart names t good =
    let d = declaration_pieces t.declared in
    let x = output_pieces t.outputs in
    let v = assumption_pieces t.assumed in
    let w = shared_pieces t.shared in
    let l = lists_pieces t.fillings in
    both_apart names d (x ++ (v ++ (w ++ l))) (declarations_apart names t.declared good.declared)
    (both_apart names x (v ++ (w ++ l)) (outputs_apart names t.outputs good.outputs)
    (both_apart names v (w ++ l) (assumption_apart names t.assumed good.assumed)
    (both_apart names w l (shared_apart names t.shared good.shared) (lists_apart names t good))))

-- the tokens of a printed task are those of its pieces, and it has no lexical fault
pub task_relexed : (names : List (List ℕ)) (t : Parts) → IsTaskText names t →
    lexed (pieces_text names (task_pieces t)) ≡ (tokens_at names 0 (task_pieces t), None)
task_relexed names t good =
    let P : List Piece → Type 0 = λ l. AreApart names l in
    relexed names (task_pieces t) (subst P (append-nil (task_pieces t)) (task_apart names t good [] tt))
