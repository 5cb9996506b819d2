-- In canonical pieces nothing after a token goes on with it.
use Rattle.sm_text.proofs.Imports.{◌≡◌, ℕ, ℤ, pos, negsuc, ◌^◌, lit<, ◌<◌, Bool, true, false, ◌==◌, List, [], ◌∷◌, ◌++◌, length, refl, sym, subst, append_assoc, arith, nat_tests, decimal_is_IsNumeral_wide, is_ascii_digit, decimal, list_all, slice_get, Mark, Symbol, comparison, Expression, Lit, Var, Read, Neg, Plus, Minus, Times, Condition, Yes, No, Compare, Not, And, Or, Cmp, is_word_start, is_word_byte, pieces_text, mark_piece, number_piece, name_piece, between, is_atom, operand, expression_pieces, is_test, part, condition_pieces}
use Rattle.std.proofs.Common.{unwrap_or, if◌then◌else◌}
use Rattle.sm_syntax.specs.declared.symbol.Mark.TheVariants as mark
use Rattle.sm_syntax.specs.declared.symbol.Symbol.TheVariants as s
use Rattle.sm_text.specs.printing.Pieces.{Piece, space}
use Rattle.sm_text.proofs.Sound.Conditions.{each_comparison}
use Rattle.sm_text.proofs.RoundTrip.PieceTokens.{begins, is_reserved, goes_on_mark, both-left, digits_of_decimal}
use Rattle.sm_text.proofs.RoundTrip.TextTokens.{goes_on, IsNameText, IsLiteral, AreApart}

-- no token goes on with what these pieces begin with
pub record IsClosed (names : List (List ℕ)) (ps : List Piece) : Type 0 where
  pub closed : (t : Symbol) → begins (goes_on t) (pieces_text names ps) ≡ false

same_if : (b : Bool) (x y : Bool) → x ≡ false → y ≡ false → (if b then x else y) ≡ false
same_if true x y p q = p
same_if false x y p q = q

-- a byte that no token goes on with
pub closed_at : (c : ℕ) → is_word_byte c ≡ false → (c == 61) ≡ false → (t : Symbol) → goes_on t c ≡ false
closed_at c no_word no_equals (s.Mark m) = same_if (is_reserved m) (is_word_byte c) (c == 61) no_word no_equals
closed_at c no_word no_equals (s.Number z) = no_word
closed_at c no_word no_equals (s.Name x) = no_word

-- apart, and no sign goes on with what they begin with
pub record Runs (names : List (List ℕ)) (ps : List Piece) : Type 0 where
  pub apart : AreApart names ps
  pub safe : begins (λ b. b == 61) (pieces_text names ps) ≡ false

-- an expression that a text may have, where these are the texts of the names
abbrev pub IsWritten : List (List ℕ) → Expression → Type 0
IsWritten names (Lit z) = IsLiteral z
IsWritten names (Var x) = IsNameText (unwrap_or (slice_get names x) [])
IsWritten names (Read a i) = IsNameText (unwrap_or (slice_get names a) []) × IsWritten names i
IsWritten names (Neg e) = IsWritten names e
IsWritten names (Plus d e) = IsWritten names d × IsWritten names e
IsWritten names (Minus d e) = IsWritten names d × IsWritten names e
IsWritten names (Times d e) = IsWritten names d × IsWritten names e

-- a name's text begins with no `=`
name_safe : (text v : List ℕ) → IsNameText text → begins (λ b. b == 61) (text ++ v) ≡ false
name_safe [] v good = let no = good.start in cc
name_safe (b ∷ u) v good = let start : is_word_start b ≡ true = good.start in grind (arith, nat_tests)

pub name_runs : (names : List (List ℕ)) (x : ℕ) (ps : List Piece) → IsNameText (unwrap_or (slice_get names x) []) → AreApart names ps →
    IsClosed names ps → Runs names (name_piece x ∷ ps)
name_runs names x ps good apart behind =
    record {
      apart = (good, behind.closed (s.Name (record { 0 = x })), apart);
      safe = name_safe (unwrap_or (slice_get names x) []) (pieces_text names ps) good;
    }

-- a sign before pieces that no sign goes on with
pub round_closed : (names : List (List ℕ)) (ps : List Piece) → IsClosed names (mark_piece mark.CloseRound ∷ ps)
round_closed names ps = record { closed = closed_at 41 refl refl }

pub square_closed : (names : List (List ℕ)) (ps : List Piece) → IsClosed names (mark_piece mark.CloseSquare ∷ ps)
square_closed names ps = record { closed = closed_at 93 refl refl }

pub space_closed : (names : List (List ℕ)) (ps : List Piece) → IsClosed names (space ∷ ps)
space_closed names ps = record { closed = closed_at 32 refl refl }

-- what a claim of pieces before others says
abbrev pub RunsBefore : List (List ℕ) → List Piece → Type 0
RunsBefore names ps = (rest : List Piece) → AreApart names rest → IsClosed names rest → Runs names (ps ++ rest)

-- a group between a sign that no sign goes on with, and another
grouped_runs : (names : List (List ℕ)) (first last : Mark) (ps : List Piece) →
    ((qs : List Piece) → begins (λ b. b == 61) (pieces_text names qs) ≡ false →
    begins (goes_on_mark first) (pieces_text names qs) ≡ false) →
    ((qs : List Piece) → begins (λ b. b == 61) (pieces_text names (mark_piece first ∷ qs)) ≡ false) →
    ((qs : List Piece) → IsClosed names (mark_piece last ∷ qs)) →
    ((rest : List Piece) → IsClosed names rest → begins (goes_on_mark last) (pieces_text names rest) ≡ false) →
    RunsBefore names ps → RunsBefore names (mark_piece first ∷ (ps ++ mark_piece last ∷ []))
grouped_runs names first last ps opens begun closes ends inside rest apart behind =
    let P : List Piece → Type 0 = λ qs. Runs names (mark_piece first ∷ qs) in
    let inner = inside (mark_piece last ∷ rest) (tt, ends rest behind, apart) (closes rest) in
    subst P (sym (append_assoc ps (mark_piece last ∷ []) rest)) (record {
      apart = (tt, opens (ps ++ mark_piece last ∷ rest) inner.safe, inner.apart);
      safe = begun (ps ++ mark_piece last ∷ rest);
    })

-- parentheses
round_runs : (names : List (List ℕ)) (ps : List Piece) → RunsBefore names ps →
    RunsBefore names (mark_piece mark.OpenRound ∷ (ps ++ mark_piece mark.CloseRound ∷ []))
round_runs names ps inside =
    grouped_runs names mark.OpenRound mark.CloseRound ps (λ qs h. h) (λ qs. refl) (round_closed names)
    (λ rest h. h.closed (s.Mark mark.CloseRound)) inside

-- brackets
pub square_runs : (names : List (List ℕ)) (ps : List Piece) → RunsBefore names ps →
    RunsBefore names (mark_piece mark.OpenSquare ∷ (ps ++ mark_piece mark.CloseSquare ∷ []))
square_runs names ps inside =
    grouped_runs names mark.OpenSquare mark.CloseSquare ps (λ qs h. h) (λ qs. refl) (square_closed names)
    (λ rest h. h.closed (s.Mark mark.CloseSquare)) inside

-- an operand
operand_runs : (names : List (List ℕ)) (b : Bool) (ps : List Piece) → RunsBefore names ps → RunsBefore names (operand b ps)
operand_runs names true ps inside = inside
operand_runs names false ps inside = round_runs names ps inside

-- two parts with a sign between them
between_runs : (names : List (List ℕ)) (ps qs : List Piece) (m : Mark) → begins (goes_on_mark m) (32 ∷ []) ≡ false → RunsBefore names ps →
    RunsBefore names qs → RunsBefore names (between ps m qs)
between_runs names ps qs m ends left right rest apart behind =
    let P : List Piece → Type 0 = λ l. Runs names l in
    let after = right rest apart behind in
    subst P (sym (append_assoc ps (space ∷ mark_piece m ∷ space ∷ qs) rest))
    (left (space ∷ mark_piece m ∷ space ∷ (qs ++ rest)) (refl, (tt, ends, (refl, after.apart))) (space_closed names _))

-- a number's text begins with no `=`
pub decimal_safe : (u v : List ℕ) → 0 < length u → list_all is_ascii_digit u ≡ true → begins (λ b. b == 61) (u ++ v) ≡ false
decimal_safe [] v some all = absurd (omega arith)
decimal_safe (b ∷ u) v some all =
    let digit : is_ascii_digit b ≡ true = both-left (is_ascii_digit b) (list_all is_ascii_digit u) all in
    grind (arith, nat_tests)

literal_runs : (names : List (List ℕ)) (z : ℤ) → IsLiteral z → RunsBefore names (number_piece z ∷ [])
literal_runs names (pos n) good rest apart behind =
    let wide : n < 10 ^ 64 = omega (arith, lit< {m = 2 ^ 127} {n = 10 ^ 64} tt) in
    record {
      apart = (good, behind.closed (s.Number (pos n)), apart);
      safe = decimal_safe (decimal n) (pieces_text names rest) (decimal_is_IsNumeral_wide n wide).0.0 (digits_of_decimal n wide);
    }
literal_runs names (negsuc n) good rest apart behind = absurd good

-- two operands with an operator between them
operands_runs : (names : List (List ℕ)) (d e : Expression) (m : Mark) → begins (goes_on_mark m) (32 ∷ []) ≡ false →
    RunsBefore names (expression_pieces d) → RunsBefore names (expression_pieces e) →
    RunsBefore names (between (operand (is_atom d) (expression_pieces d)) m (operand (is_atom e) (expression_pieces e)))
operands_runs names d e m ends left right =
    between_runs names (operand (is_atom d) (expression_pieces d)) (operand (is_atom e) (expression_pieces e)) m ends
    (operand_runs names (is_atom d) (expression_pieces d) left) (operand_runs names (is_atom e) (expression_pieces e) right)

-- an expression's pieces are apart, and so is what follows them where no token goes on with it
pub expression_runs : (names : List (List ℕ)) (e : Expression) → IsWritten names e → RunsBefore names (expression_pieces e)
expression_runs names (Lit z) good = literal_runs names z good
expression_runs names (Var x) good = λ rest apart behind. name_runs names x rest good apart behind
expression_runs names (Read a i) good = λ rest apart behind.
    let inner = square_runs names (expression_pieces i) (expression_runs names i good.1) rest apart behind in
    name_runs names a ((mark_piece mark.OpenSquare ∷ (expression_pieces i ++ mark_piece mark.CloseSquare ∷ [])) ++ rest) good.0 inner.apart
    (record { closed = closed_at 91 refl refl })
expression_runs names (Neg e) good = λ rest apart behind.
    let inner = operand_runs names (is_atom e) (expression_pieces e) (expression_runs names e good) rest apart behind in
    record { apart = (tt, inner.safe, inner.apart); safe = refl }
expression_runs names (Plus d e) good =
    operands_runs names d e mark.Plus refl (expression_runs names d good.0) (expression_runs names e good.1)
expression_runs names (Minus d e) good =
    operands_runs names d e mark.Minus refl (expression_runs names d good.0) (expression_runs names e good.1)
expression_runs names (Times d e) good =
    operands_runs names d e mark.Star refl (expression_runs names d good.0) (expression_runs names e good.1)

-- a condition that a text may have
abbrev pub IsTested : List (List ℕ) → Condition → Type 0
IsTested names Yes = Unit {0}
IsTested names No = Unit {0}
IsTested names (Compare op d e) = IsWritten names d × IsWritten names e
IsTested names (Not b) = IsTested names b
IsTested names (And b c) = IsTested names b × IsTested names c
IsTested names (Or b c) = IsTested names b × IsTested names c

part_runs : (names : List (List ℕ)) (t : Bool) (ps : List Piece) → RunsBefore names ps → RunsBefore names (part t ps)
part_runs names true ps inside = inside
part_runs names false ps inside = square_runs names ps inside

-- two parts with an operator between them
parts_runs : (names : List (List ℕ)) (b c : Condition) (m : Mark) → begins (goes_on_mark m) (32 ∷ []) ≡ false →
    RunsBefore names (condition_pieces b) → RunsBefore names (condition_pieces c) →
    RunsBefore names (between (part (is_test b) (condition_pieces b)) m (part (is_test c) (condition_pieces c)))
parts_runs names b c m ends left right =
    between_runs names (part (is_test b) (condition_pieces b)) (part (is_test c) (condition_pieces c)) m ends
    (part_runs names (is_test b) (condition_pieces b) left) (part_runs names (is_test c) (condition_pieces c) right)

-- nothing goes on with a sign before a space
comparison_ends : (op : Cmp) → begins (goes_on_mark (comparison op)) (32 ∷ []) ≡ false
comparison_ends = each_comparison (λ m. begins (goes_on_mark m) (32 ∷ []) ≡ false) refl refl refl refl refl refl

-- a condition's pieces are apart, and so is what follows them where no token goes on with it
pub condition_runs : (names : List (List ℕ)) (b : Condition) → IsTested names b → RunsBefore names (condition_pieces b)
condition_runs names Yes good = λ rest apart behind. record { apart = (tt, behind.closed (s.Mark mark.True), apart); safe = refl }
condition_runs names No good = λ rest apart behind. record { apart = (tt, behind.closed (s.Mark mark.False), apart); safe = refl }
condition_runs names (Compare op d e) good =
    between_runs names (expression_pieces d) (expression_pieces e) (comparison op) (comparison_ends op) (expression_runs names d good.0)
    (expression_runs names e good.1)
condition_runs names (Not b) good = λ rest apart behind.
    let inner = part_runs names (is_test b) (condition_pieces b) (condition_runs names b good) rest apart behind in
    record { apart = (tt, inner.safe, inner.apart); safe = refl }
condition_runs names (And b c) good = parts_runs names b c mark.Both refl (condition_runs names b good.0) (condition_runs names c good.1)
condition_runs names (Or b c) good = parts_runs names b c mark.Either refl (condition_runs names b good.0) (condition_runs names c good.1)
