-- No public clause cites this file.
-- How the symbols of a text are read: a parser for each rule of the grammar, here for fillings,
-- sections and whole tasks. What is read is stated by the grammar.
pub mod Names
pub mod Expressions
pub mod Conditions
pub mod Statements
use Rattle.std.specs.Prelude.{ℕ, Bool, true, false, Option, Some, None, Result, Ok, Err, List, [], ◌∷◌, ◌++◌}
use Rattle.sm_syntax.specs.declared.symbol.Mark.{Mark}
use Rattle.sm_syntax.specs.declared.symbol.Mark.TheVariants as mark
use Rattle.sm_syntax.specs.declared.symbol.Symbol.{Symbol}
use Rattle.sm_syntax.specs.claim.ConflictFree.{Copy}
use Rattle.sm_syntax.specs.claim.Fill.{Fillings}
use Rattle.sm_syntax.specs.text.Parts.{Parts, by_copy}
use Rattle.sm_syntax.specs.claim.Syntax.{Condition, Code}
use Rattle.sm_text.specs.rules.Parsers.{first, Parser, fault, ◌>>=◌, ◌>>◌, pure, skip, expect, stands, gather, Fault, Expected}
use Rattle.sm_text.specs.Tasks.{HeadParts}
unfoldable pub use Names.*
unfoldable pub use Expressions.*
unfoldable pub use Conditions.*
unfoldable pub use Statements.*

-- how many groups may be open at once
unfoldable pub group_limit : ℕ
group_limit = 64

-- how many may be open inside a list
unfoldable pub list_limit : ℕ
list_limit = 63

-- a filling
unfoldable pub hole_filling : Parser (ℕ × Code)
hole_filling = do
  expect mark.Question
  h ← hole_number
  c ← block list_limit
  pure (h, c)

-- one more filling
abbrev pub with_filling : Fillings → ℕ × Code → Fillings
with_filling fs f = fs ++ f ∷ []

-- the fillings after those that were read
unfoldable pub more_fillings : Fillings → Parser Fillings
more_fillings before = gather (stands mark.Question) hole_filling with_filling before

-- all fillings
unfoldable pub fillings : Parser Fillings
fillings = more_fillings []

-- the list of fillings that begins with a word
unfoldable pub list : Mark → Parser Fillings
list m = do
  expect m
  expect mark.OpenCurly
  fs ← fillings
  expect mark.CloseCurly
  pure fs

-- an assumption, after its word
unfoldable pub assumption_line : Parser (Option Condition)
assumption_line = do
  b ← condition group_limit
  expect mark.Semicolon
  pure (Some b)

-- what is assumed, if anything is
abbrev pub assumed_by : Bool → Parser (Option Condition)
assumed_by true = skip >> assumption_line
assumed_by false = pure None

unfoldable pub assumed : Parser (Option Condition)
assumed ts = assumed_by (stands mark.Assume (first ts)) ts

-- the shared block
unfoldable pub shared : Parser Code
shared = expect mark.Shared >> block group_limit

-- a head, where these are the texts of its names: declarations, outputs, what is assumed, and the
-- shared block
unfoldable pub head : List (List ℕ) → Parser HeadParts
head names = do
  ds ← declarations
  xs ← outputs
  b ← assumed
  c ← shared
  pure (record {
    program = record { names = names; declared = ds; outputs = xs; body = c };
    assumed = b;
  })

-- the four lists
unfoldable pub lists : Parser (Copy → Fillings)
lists = do
  o ← list mark.Base
  a ← list mark.VariantA
  b ← list mark.VariantB
  m ← list mark.Candidate
  pure (by_copy o a b m)

-- a task, by its head and the fillings of each copy
abbrev pub with_lists : HeadParts → (Copy → Fillings) → Parts
with_lists h fs = record {
  names = h.program.names;
  declared = h.program.declared;
  outputs = h.program.outputs;
  assumed = h.assumed;
  shared = h.program.body;
  fillings = fs;
}

-- a task, where these are the texts of its names
unfoldable pub task : List (List ℕ) → Parser Parts
task names = do
  h ← head names
  fs ← lists
  pure (with_lists h fs)

-- what was read, where no symbol is left
abbrev pub by_rest : {T : Type 0} → T → List Symbol → Result T Fault
by_rest x [] = Ok x
by_rest x (t ∷ ts) = Err (fault Expected (t ∷ ts))

-- what an answer has read, where no symbol is left
abbrev pub to_end : {T : Type 0} → Result (T × List Symbol) Fault → Result T Fault
to_end (Err f) = Err f
to_end (Ok r) = by_rest r.0 r.1

-- the task that all the symbols spell
unfoldable pub whole : List (List ℕ) → List Symbol → Result Parts Fault
whole names ts = to_end (task names ts)
