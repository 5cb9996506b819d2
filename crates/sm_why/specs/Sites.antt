-- Where a hole of the shared program stands in the text of a task. Public clauses cite it.
-- Programs carry no places, so a hole is found by its tokens: `?`, and behind it its number.
use Rattle.std.specs.Prelude.{◌≡◌, ◌⊎◌, ◌<◌, ◌+◌, ℕ, pos, Bool, true, false, ◌&&◌, Option, Some, None, List, [], length, slice_get}
use Rattle.std.specs.Ordering.{int_eq}
use denote.Enum.Bare.{sameb}
use Rattle.sm_syntax.specs.contracts.symbol.Mark.{the_type}
use Rattle.sm_syntax.specs.declared.symbol.Mark.TheVariants.{Question}
use Rattle.sm_syntax.specs.declared.symbol.Symbol.{Symbol}
use Rattle.sm_syntax.specs.declared.symbol.Symbol.TheVariants as s
use Rattle.sm_syntax.specs.text.Conditions.{holes_of}
use Rattle.sm_syntax.specs.text.Parts.{Parts}
use Rattle.sm_syntax.specs.text.Symbols.{symbols_of}
use Rattle.sm_syntax.specs.text.Tokens.{lexed}
use Rattle.sm_syntax.specs.declared.token.Token.{Token}

-- whether a symbol is `?`
abbrev pub is_question : Option Symbol → Bool
is_question None = false
is_question (Some (s.Mark m)) = sameb the_type m Question
is_question (Some (s.Number z)) = false
is_question (Some (s.Name x)) = false

-- whether a symbol is this number
abbrev pub is_hole_number : ℕ → Option Symbol → Bool
is_hole_number h None = false
is_hole_number h (Some (s.Mark m)) = false
is_hole_number h (Some (s.Number z)) = int_eq z (pos h)
is_hole_number h (Some (s.Name x)) = false

-- whether a hole, or a filling for it, begins at a place among symbols
abbrev pub begins_hole : List Symbol → ℕ → ℕ → Bool
begins_hole symbols h k =
    is_question (slice_get symbols k) && is_hole_number h (slice_get symbols (k + 1))

-- the first token of the text that begins the hole begins at an offset. The shared program stands
-- before the lists, so of a text that spells a task it is the hole itself, and no filling
pub record BeginsAt (text : List ℕ) (h offset : ℕ) : Type 0 where
  pub number : ℕ
  pub begins : begins_hole (symbols_of text) h number ≡ true
  pub first : (k : ℕ) → k < number → begins_hole (symbols_of text) h k ≡ false
  pub token : Token
  pub is_token : slice_get (lexed text).0 number ≡ Some token
  pub at : offset ≡ token.place

-- no token of the text begins the hole
abbrev pub BeginsNowhere : List ℕ → ℕ → Type 0
BeginsNowhere text h =
    (k : ℕ) → k < length (symbols_of text) → begins_hole (symbols_of text) h k ≡ false

-- a hole of the text begins at an offset; the end of the text stands for one that begins nowhere
abbrev pub IsHoleOffset : List ℕ → ℕ → ℕ → Type 0
IsHoleOffset text h offset =
    BeginsAt text h offset ⊎ (BeginsNowhere text h × (offset ≡ length text))

-- a hole of the task's shared program begins at an offset of its text; the end of the text where
-- there is none
abbrev pub IsSite : List ℕ → Parts → ℕ → Type 0
IsSite text t offset =
    ((holes_of t.shared ≡ []) × (offset ≡ length text))
    ⊎ ((place h : ℕ) × (slice_get (holes_of t.shared) place ≡ Some h)
    × IsHoleOffset text h offset)
