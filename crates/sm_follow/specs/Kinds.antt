-- What may stand at a place of a text, by the grammar of tasks. Public clauses cite it.
use Rattle.std.specs.Prelude.{ℕ, List, [], ◌∷◌, codes}
use Rattle.sm_syntax.specs.declared.symbol.Mark.TheVariants as mark
use Rattle.sm_text.specs.printing.Pieces.{spelling}
use Rattle.sm_follow.specs.declared.kinds.Kind.{Kind}
use Rattle.sm_follow.specs.declared.kinds.Kind.TheVariants as kind

-- names and numbers, the reserved words, the signs, and the end of the text
unfoldable pub kinds : List Kind
kinds =
    kind.Name
    ∷ kind.Number
    ∷ kind.Mark mark.Var
    ∷ kind.Mark mark.Array
    ∷ kind.Mark mark.Output
    ∷ kind.Mark mark.Assume
    ∷ kind.Mark mark.Shared
    ∷ kind.Mark mark.Base
    ∷ kind.Mark mark.VariantA
    ∷ kind.Mark mark.VariantB
    ∷ kind.Mark mark.Candidate
    ∷ kind.Mark mark.Skip
    ∷ kind.Mark mark.If
    ∷ kind.Mark mark.Else
    ∷ kind.Mark mark.While
    ∷ kind.Mark mark.True
    ∷ kind.Mark mark.False
    ∷ kind.Mark mark.Question
    ∷ kind.Mark mark.OpenRound
    ∷ kind.Mark mark.CloseRound
    ∷ kind.Mark mark.OpenSquare
    ∷ kind.Mark mark.CloseSquare
    ∷ kind.Mark mark.OpenCurly
    ∷ kind.Mark mark.CloseCurly
    ∷ kind.Mark mark.Semicolon
    ∷ kind.Mark mark.Comma
    ∷ kind.Mark mark.Becomes
    ∷ kind.Mark mark.Plus
    ∷ kind.Mark mark.Minus
    ∷ kind.Mark mark.Star
    ∷ kind.Mark mark.Equal
    ∷ kind.Mark mark.Unequal
    ∷ kind.Mark mark.Less
    ∷ kind.Mark mark.AtMost
    ∷ kind.Mark mark.Greater
    ∷ kind.Mark mark.AtLeast
    ∷ kind.Mark mark.Bang
    ∷ kind.Mark mark.Both
    ∷ kind.Mark mark.Either
    ∷ kind.End
    ∷ []

-- the word by which each is shown; none of the last three is reserved
abbrev pub shown : Kind → List ℕ
shown (kind.Mark m) = spelling m
shown kind.Name = codes "name"
shown kind.Number = codes "number"
shown kind.End = codes "end"

-- a token of each: a name and a number that may stand wherever others may; none for the end
abbrev pub sample : Kind → List ℕ
sample (kind.Mark m) = spelling m
sample kind.Name = codes "x"
sample kind.Number = codes "1"
sample kind.End = []
