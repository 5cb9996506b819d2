-- What is known of a text that is tried. Only private clauses cite it.
use Rattle.std.specs.Prelude.{◌≡◌, ℕ, None, List, ◌++◌}
use Rattle.sm_syntax.specs.text.Symbols.{symbols_of}
use Rattle.sm_syntax.specs.text.Tokens.{lexed}
use Rattle.sm_text.specs.parsing.Places.{AreTasks, IsNestedAt, IsViable}
use Rattle.sm_text.specs.parsing.Places.Sources.{whole_text}

-- the text has tokens to its end, and at most its last nests too deep, with which some task begins
pub record NestsLast (text : List ℕ) : Type 0 where
  pub tokens : (lexed text).1 ≡ None
  pub last : (place : ℕ) → IsNestedAt AreTasks (whole_text text) place →
      IsViable AreTasks (symbols_of text)

-- nothing of the text nests too deep
abbrev pub NestsNowhere : List ℕ → Type 0
NestsNowhere text = (place : ℕ) → IsNestedAt AreTasks (whole_text text) place → ⊥

-- a text grows by one of these
abbrev pub Grows : (List ℕ → Type 0) → List ℕ → List ℕ → Type 0
Grows Is old new = (more : List ℕ) × Is more × (new ≡ old ++ more)
