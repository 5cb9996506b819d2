-- What could stand behind a text: the tokens with which it begins some task. Public clauses cite it.
-- Whether a task begins so is judged by the grammar alone, as the places of refusals are.
use Rattle.std.specs.Prelude.{◌≡◌, ℕ, None, List, [], ◌∷◌, ◌++◌, take, codes}
use Rattle.sm_syntax.specs.text.Symbols.{symbols_of}
use Rattle.sm_syntax.specs.text.Tokens.{lexed}
use Rattle.sm_text.specs.parsing.Places.{place_of, AreTasks, IsFirstFault, IsViable, IsWhole}
use Rattle.sm_text.specs.declared.error.TextError.{TextError}
use Rattle.sm_text.specs.parsing.Places.Sources.{whole_text}
use Rattle.sm_follow.specs.Kinds.{kinds, sample, shown}
use Rattle.sm_follow.specs.declared.kinds.Kind.{Kind}
use Rattle.sm_follow.specs.declared.kinds.Kind.TheVariants as kind

-- the text is that before the first fault of another
pub record EndsAtFault (text : List ℕ) : Type 0 where
  pub bytes : List ℕ
  pub error : TextError
  pub first : IsFirstFault AreTasks (whole_text bytes) error
  pub front : text ≡ take (place_of error) bytes

-- the text has tokens to its end, and some task begins with them
pub record IsBegun (text : List ℕ) : Type 0 where
  pub tokens : (lexed text).1 ≡ None
  pub viable : IsViable AreTasks (symbols_of text)

-- the text has tokens to its end, and they are all those of some task
pub record IsComplete (text : List ℕ) : Type 0 where
  pub tokens : (lexed text).1 ≡ None
  pub whole : IsWhole AreTasks (symbols_of text)

-- a text, and a token on a line of its own behind it
abbrev pub behind_line : List ℕ → List ℕ → List ℕ
behind_line text token = text ++ 10 ∷ token

-- this could stand behind a text: some task begins with the text and this token, or has no more
abbrev pub CouldStand : List ℕ → Kind → Type 0
CouldStand text (kind.Mark m) = IsBegun (behind_line text (sample (kind.Mark m)))
CouldStand text kind.Name = IsBegun (behind_line text (sample kind.Name))
CouldStand text kind.Number = IsBegun (behind_line text (sample kind.Number))
CouldStand text kind.End = IsComplete text

-- of these, exactly those that could stand behind a text, each behind a space
pub data AreThose (text : List ℕ) : List Kind → List ℕ → Type 0 where
  none : AreThose text [] []
  could : (k : Kind) (ks : List Kind) (more : List ℕ) → CouldStand text k →
      AreThose text ks more → AreThose text (k ∷ ks) (codes " " ++ (shown k ++ more))
  could_not : (k : Kind) (ks : List Kind) (more : List ℕ) → (CouldStand text k → ⊥) →
      AreThose text ks more → AreThose text (k ∷ ks) more

-- the line of what could stand behind a text
pub record IsFollowLine (text : List ℕ) (line : List ℕ) : Type 0 where
  pub shown : List ℕ
  pub those : AreThose text kinds shown
  pub is : line ≡ codes "could stand here:" ++ (shown ++ codes "\n")
