-- Public clauses cite this file.
-- Laws of reading.
use Rattle.std.specs.Prelude.{◌≡◌, ◌↔◌, ℕ, Option, List, length, map}
use Rattle.std.specs.List.{range_with_len}
use Rattle.sm_syntax.specs.declared.tree.Sort.{Sort}
use Rattle.sm_syntax.specs.text.Parts.{Parts}
use Rattle.sm_syntax.specs.text.Spells.{IsInGrammar, Spells}
use Rattle.sm_syntax.specs.text.Tokens.{lexed}
use Rattle.sm_syntax.specs.declared.token.Token.{Token}
use Rattle.sm_syntax.specs.declared.token.LexFault.{LexFault}
use Rattle.sm_text.specs.lexing.Cutting.{IsCutInto}
use Rattle.sm_text.specs.parsing.Places.{Grammar, Source, AreTasks, IsFault, IsFirstFault, whole_text, TextError}

-- a text is in the grammar by at most one task
abbrev pub OneParse : Type 0
OneParse = (bytes : List ℕ) (t u : Parts) → IsInGrammar bytes t → IsInGrammar bytes u → t ≡ u

-- the tokens of a text and its first fault are those into which it is cut, and no others
abbrev pub TokensAreCut : Type 0
TokensAreCut = (bytes : List ℕ) (ts : List Token) (f : Option LexFault) →
    ((ts, f) ≡ lexed bytes) ↔ IsCutInto 0 bytes ts f

-- the declared names of a task have the numbers 0, 1, 2 and so on
abbrev pub DeclaredInOrder : Type 0
DeclaredInOrder =
    (bytes : List ℕ) (t : Parts) → Spells bytes t →
    map (λ (d : ℕ × Sort). d.0) t.declared ≡ range_with_len 0 (length t.declared)

-- at most one fault is the first
abbrev pub OneFirstFault : Grammar → Type 0
OneFirstFault spells =
    (source : Source) (e f : TextError) →
    IsFirstFault spells source e → IsFirstFault spells source f → e ≡ f

-- a text in the grammar has no fault
abbrev pub NoFaultInGrammar : Type 0
NoFaultInGrammar =
    (bytes : List ℕ) (t : Parts) (e : TextError) →
    IsInGrammar bytes t → IsFault AreTasks (whole_text bytes) e → ⊥
