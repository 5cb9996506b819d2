-- Public clauses cite this file.
-- Where a text is refused: at the least place at which a fault stands. Whether symbols can go on is
-- judged by a grammar alone, whatever nests too deep in them.
pub mod Sources
use Rattle.std.specs.Prelude.{◌≡◌, ℕ, ◌≤◌, true, Option, Some, None, List, [], ◌∷◌, ◌++◌, map}
use Rattle.sm_syntax.specs.declared.token.LexKind.TheVariants as kind
use Rattle.sm_syntax.specs.declared.token.Token.{Token}
use Rattle.sm_syntax.specs.text.MarkedSymbols.{Marked}
use Rattle.sm_syntax.specs.declared.symbol.Symbol.{Symbol}
use Rattle.sm_syntax.specs.text.TaskGrammar.{IsTask}
use Rattle.sm_syntax.specs.text.Parts.{Parts}
pub use Rattle.sm_text.specs.declared.error.TextError.{TextError}
use Rattle.sm_text.specs.declared.error.TextError.TheVariants as error
use Rattle.sm_text.specs.parsing.Fragments.{IsProgram}
use Rattle.sm_text.specs.Tasks.{ProgramParts}
pub use Sources.*

-- what is to be spelled: which symbols spell something of a kind
abbrev pub Grammar : Type 1
Grammar = List Marked → Type 0

-- the grammar of tasks
abbrev pub AreTasks : List Marked → Type 0
AreTasks ts = (t : Parts) × IsTask ts t

-- the grammar of programs
abbrev pub ArePrograms : List Marked → Type 0
ArePrograms ts = (p : ProgramParts) × IsProgram ts p

-- the symbols, whatever nests in them
abbrev pub unmarked : List Marked → List Symbol
unmarked [] = []
unmarked (t ∷ ts) = t.0 ∷ unmarked ts

-- something of the grammar begins with these symbols
pub record IsViable (spells : Grammar) (ts : List Symbol) : Type 0 where
  pub spelled : List Marked
  pub grammar : spells spelled
  pub more : List Symbol
  pub begins : unmarked spelled ≡ ts ++ more

-- these are all the symbols of something of the grammar
pub record IsWhole (spells : Grammar) (ts : List Symbol) : Type 0 where
  pub spelled : List Marked
  pub grammar : spells spelled
  pub all : unmarked spelled ≡ ts

-- something goes on after these symbols, but nothing with the symbol that stands there, or nothing
-- ends with the text
abbrev pub IsUnexpected : Grammar → List Symbol → Option Symbol → Type 0
IsUnexpected spells before (Some t) =
    IsViable spells before × (IsViable spells (before ++ t ∷ []) → ⊥)
IsUnexpected spells before None = IsViable spells before × (IsWhole spells before → ⊥)

-- something goes on with this symbol after these, and there it nests too deep
pub record NestsTooDeep (spells : Grammar) (before : List Symbol) (t : Symbol) : Type 0 where
  pub front : List Marked
  pub behind : List Marked
  pub grammar : spells (front ++ (t, true) ∷ behind)
  pub begins : unmarked front ≡ before

-- a place, the symbols before it, and the symbol that stands there: none at the end of a text of
-- tokens alone
pub data Stands (source : Source) : ℕ → List Symbol → Option Symbol → Type 0 where
  at_token : (before behind : List Token) (t : Token) → source.tokens ≡ before ++ t ∷ behind →
      Stands source t.place (map source.symbol before) (Some (source.symbol t))
  at_end : source.fault ≡ None → Stands source source.end (all_symbols source) None

-- a token that nothing of the grammar has there, or the end of the text
pub record IsExpectedAt (spells : Grammar) (source : Source) (place : ℕ) : Type 0 where
  pub before : List Symbol
  pub next : Option Symbol
  pub stands : Stands source place before next
  pub unexpected : IsUnexpected spells before next

-- a token that nests too deep
pub record IsNestedAt (spells : Grammar) (source : Source) (place : ℕ) : Type 0 where
  pub before : List Symbol
  pub next : Symbol
  pub stands : Stands source place before (Some next)
  pub nests : NestsTooDeep spells before next

-- the fault that the error names stands there
abbrev pub IsFault : Grammar → Source → TextError → Type 0
IsFault spells source (error.BadByte place) =
    source.fault ≡ Some (record { kind = kind.BadByte; place = place })
IsFault spells source (error.WideNumber place) =
    source.fault ≡ Some (record { kind = kind.WideNumber; place = place })
IsFault spells source (error.BadToken place) =
    source.fault ≡ Some (record { kind = kind.BadToken; place = place })
IsFault spells source (error.Expected place) = IsExpectedAt spells source place
IsFault spells source (error.Nested place) = IsNestedAt spells source place
IsFault spells source error.Memory = ⊥

-- the place that an error names
abbrev pub place_of : TextError → ℕ
place_of (error.BadByte place) = place
place_of (error.WideNumber place) = place
place_of (error.BadToken place) = place
place_of (error.Expected place) = place
place_of (error.Nested place) = place
place_of error.Memory = 0

-- the order of faults at one place: a lexical one, then one of the rules, then one of nesting
abbrev pub rank_of : TextError → ℕ
rank_of (error.BadByte place) = 0
rank_of (error.WideNumber place) = 0
rank_of (error.BadToken place) = 0
rank_of (error.Expected place) = 1
rank_of (error.Nested place) = 2
rank_of error.Memory = 3

-- the fault stands there, and none stands before it
pub record IsFirstFault (spells : Grammar) (source : Source) (e : TextError) : Type 0 where
  pub stands : IsFault spells source e
  pub least : (other : TextError) → IsFault spells source other → place_of e ≤ place_of other
  pub order : (other : TextError) → IsFault spells source other → place_of other ≡ place_of e →
      rank_of e ≤ rank_of other

-- a refusal is the first fault; want of memory alone is free
abbrev pub IsRefusal : Grammar → Source → TextError → Type 0
IsRefusal spells source (error.BadByte place) = IsFirstFault spells source (error.BadByte place)
IsRefusal spells source (error.WideNumber place) =
    IsFirstFault spells source (error.WideNumber place)
IsRefusal spells source (error.BadToken place) = IsFirstFault spells source (error.BadToken place)
IsRefusal spells source (error.Expected place) = IsFirstFault spells source (error.Expected place)
IsRefusal spells source (error.Nested place) = IsFirstFault spells source (error.Nested place)
IsRefusal spells source error.Memory = Unit {0}
