-- No public clause cites this file.
-- How the text of a program is read: declarations, outputs and a shared block, and nothing else.
-- What is read is stated by the grammar.
use Rattle.std.specs.Prelude.{ℕ, Result, List}
use Rattle.sm_syntax.specs.declared.symbol.Symbol.{Symbol}
use Rattle.sm_text.specs.rules.Parsers.{Parser, ◌>>=◌, pure, Fault}
use Rattle.sm_text.specs.rules.Reading.{declarations, outputs, shared, to_end}
use Rattle.sm_text.specs.Tasks.{ProgramParts}

-- a program, where these are the texts of its names
unfoldable pub program : List (List ℕ) → Parser ProgramParts
program names = do
  ds ← declarations
  xs ← outputs
  c ← shared
  pure (record { names = names; declared = ds; outputs = xs; body = c })

-- the program that all the symbols spell
unfoldable pub whole_program : List (List ℕ) → List Symbol → Result ProgramParts Fault
whole_program names ts = to_end (program names ts)
