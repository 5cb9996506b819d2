-- A token on a line of its own is cut whole, and what is known of a text that ends with one.
use Rattle.sm_follow.proofs.Imports.{◌≡◌, ℕ, ◌+◌, ◌^◌, true, false, nat_le, None, List, [], ◌∷◌, ◌++◌, length, append-nil, codes, refl, sym, subst, ◌∙◌, list_all, is_word_byte, is_word_start, TokenKind, Word, Number, Sign, Token, begins, IsToken, Ends, IsCutInto, end, space, token, mark_kind, behind_line, EndsAtFault, sample, NestsLast, NestsNowhere}
use Rattle.std.specs.Str.Parse.{digits_value}
use Rattle.sm_syntax.specs.declared.symbol.Mark.{Mark}
use Rattle.sm_syntax.specs.declared.symbol.Mark.TheVariants as mark
use Rattle.sm_syntax.specs.text.Tokens.{mark_of_sign, signs}
use Rattle.sm_text.specs.printing.Pieces.{spelling}
use Rattle.sm_follow.specs.declared.kinds.Kind.TheVariants as kind
use Rattle.sm_follow.proofs.Fronts.{nothing, line, sign_apart}
use Rattle.sm_follow.proofs.Reached.{front_taken, last_nests, lexed_longer, nowhere}
use Rattle.sm_lemmas.proofs.Tests.{le_from_test, lt_from_test}

word_token : (w : List ℕ) → begins is_word_start w ≡ true → list_all is_word_byte w ≡ true → nat_le (length w) 64 ≡ true → IsToken Word w
word_token w start all short = (record { start = start; bytes = all }, le_from_test (length w) 64 short)

-- a reserved word or a sign is a token
mark_token : (m : Mark) → IsToken (mark_kind m) (spelling m)
unfolding mark_of_sign signs
mark_token mark.Var = word_token (codes "var") refl refl refl
mark_token mark.Array = word_token (codes "array") refl refl refl
mark_token mark.Output = word_token (codes "output") refl refl refl
mark_token mark.Shared = word_token (codes "shared") refl refl refl
mark_token mark.Base = word_token (codes "base") refl refl refl
mark_token mark.VariantA = word_token (codes "variant_a") refl refl refl
mark_token mark.VariantB = word_token (codes "variant_b") refl refl refl
mark_token mark.Candidate = word_token (codes "candidate") refl refl refl
mark_token mark.Skip = word_token (codes "skip") refl refl refl
mark_token mark.If = word_token (codes "if") refl refl refl
mark_token mark.Else = word_token (codes "else") refl refl refl
mark_token mark.While = word_token (codes "while") refl refl refl
mark_token mark.True = word_token (codes "true") refl refl refl
mark_token mark.False = word_token (codes "false") refl refl refl
mark_token mark.Assume = word_token (codes "assume") refl refl refl
mark_token mark.OpenRound = refl
mark_token mark.CloseRound = refl
mark_token mark.OpenCurly = refl
mark_token mark.CloseCurly = refl
mark_token mark.OpenSquare = refl
mark_token mark.CloseSquare = refl
mark_token mark.Semicolon = refl
mark_token mark.Comma = refl
mark_token mark.Question = refl
mark_token mark.Becomes = refl
mark_token mark.Plus = refl
mark_token mark.Minus = refl
mark_token mark.Star = refl
mark_token mark.Bang = refl
mark_token mark.Less = refl
mark_token mark.Greater = refl
mark_token mark.Equal = refl
mark_token mark.Unequal = refl
mark_token mark.AtMost = refl
mark_token mark.AtLeast = refl
mark_token mark.Both = refl
mark_token mark.Either = refl

number_token : IsToken Number (codes "1")
number_token =
    (record { some = lt_from_test 0 (length (codes "1")) refl; digits = refl }, lt_from_test (digits_value 10 (codes "1")) (2 ^ 127) refl)

-- nothing goes on with a token at the end
ends_there : (kind : TokenKind) (w : List ℕ) → Ends kind w []
ends_there Word w = refl
ends_there Number w = refl
ends_there Sign w = sign_apart w [] nothing

-- a token behind a line feed
own_line : (place : ℕ) (kind : TokenKind) (w : List ℕ) → IsToken kind w →
    IsCutInto place (10 ∷ w) (record { kind = kind; place = place + 1; size = length w } ∷ []) None
own_line place kind w is =
    let t : Token = record { kind = kind; place = place + 1; size = length w } in
    space place 10 w (t ∷ []) None refl
    (subst (λ (l : List ℕ). IsCutInto (place + 1) l (t ∷ []) None) (append-nil w)
    (token (place + 1) kind w [] [] None is (ends_there kind w) (end (place + 1 + length w))))

-- behind a text up to its first fault a token nests too deep where it is the last, if at all
pub token_nests_last : (text : List ℕ) → EndsAtFault text → (kind : TokenKind) (w : List ℕ) → IsToken kind w →
    NestsLast (behind_line text w)
token_nests_last text reached kind w is =
    let same = reached.front ∙ front_taken reached.bytes reached.error reached.first in
    subst (λ (l : List ℕ). NestsLast (l ++ 10 ∷ w)) (sym same)
    (last_nests reached.bytes reached.error reached.first (10 ∷ w) _
    (lexed_longer reached.bytes reached.error reached.first (10 ∷ w) _ None (line w) (own_line _ kind w is)))

pub text_nests_nowhere : (text : List ℕ) → EndsAtFault text → NestsNowhere text
text_nests_nowhere text reached =
    subst NestsNowhere (sym (reached.front ∙ front_taken reached.bytes reached.error reached.first))
    (nowhere reached.bytes reached.error reached.first)

-- so it is with a sample of each kind
pub mark_nests_last : (text : List ℕ) → EndsAtFault text → (m : Mark) → NestsLast (behind_line text (sample (kind.Mark m)))
mark_nests_last text reached m = token_nests_last text reached (mark_kind m) (spelling m) (mark_token m)

pub name_nests_last : (text : List ℕ) → EndsAtFault text → NestsLast (behind_line text (sample kind.Name))
name_nests_last text reached = token_nests_last text reached Word (codes "x") (word_token (codes "x") refl refl refl)

pub number_nests_last : (text : List ℕ) → EndsAtFault text → NestsLast (behind_line text (sample kind.Number))
number_nests_last text reached = token_nests_last text reached Number (codes "1") number_token
