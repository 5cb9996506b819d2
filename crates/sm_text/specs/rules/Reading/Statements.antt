-- No public clause cites this file.
-- How statements and blocks are read, where g groups may be opened.
use Rattle.std.specs.Prelude.{ℕ, zero, suc, Bool, true, false, ◌||◌, if◌then◌else◌, Option, Some, None}
use denote.Enum.Bare.{sameb}
use Rattle.sm_syntax.specs.contracts.symbol.Mark.{the_type}
use Rattle.sm_syntax.specs.declared.symbol.Mark.{Mark}
use Rattle.sm_syntax.specs.declared.symbol.Mark.TheVariants as mark
use Rattle.sm_syntax.specs.declared.symbol.Symbol.{Symbol}
use Rattle.sm_syntax.specs.declared.symbol.Symbol.TheVariants as s
use Rattle.sm_syntax.specs.declared.tree.Name.{Name}
use Rattle.sm_syntax.specs.claim.Syntax as plain
use Rattle.sm_syntax.specs.claim.Syntax.{Condition, Code}
use Rattle.sm_text.specs.rules.Parsers.{first, Parser, ◌>>=◌, ◌>>◌, pure, peek, skip, refuse, expect, stands, gather, grouped, Expected}
use Rattle.sm_text.specs.rules.Reading.Names.{begins_name, hole_number}
use Rattle.sm_text.specs.rules.Reading.Expressions.{index, inner_sum, expression}
use Rattle.sm_text.specs.rules.Reading.Conditions.{inner_condition}

-- an assignment to a name that was read
unfoldable pub assignment : ℕ → Name → Parser (Code → Code)
assignment g x = do
  expect mark.Becomes
  e ← expression g
  expect mark.Semicolon
  pure (plain.Assign x.0 e)

-- a write to an element of the array whose name was read
unfoldable pub write : ℕ → Name → Parser (Code → Code)
write g x = do
  i ← index (inner_sum g)
  expect mark.Becomes
  e ← expression g
  expect mark.Semicolon
  pure (plain.Write x.0 i e)

-- a statement after the name that it begins with
abbrev pub changed_by : ℕ → Name → Bool → Parser (Code → Code)
changed_by g x true = write g x
changed_by g x false = assignment g x

unfoldable pub changed : ℕ → Name → Parser (Code → Code)
changed g x ts = changed_by g x (stands mark.OpenSquare (first ts)) ts

-- a hole statement, after its question mark
unfoldable pub hole : Parser (Code → Code)
hole = do
  h ← hole_number
  expect mark.Semicolon
  pure (plain.Hole h)

-- `skip;`, after its word
unfoldable pub nothing : Parser (Code → Code)
nothing = do
  expect mark.Semicolon
  pure plain.Skip

-- the condition in parentheses after `if` or `while`
unfoldable pub guard : ℕ → Parser Condition
guard g = grouped mark.OpenRound mark.CloseRound (inner_condition g)

-- a branch, after its word
unfoldable pub branch : ℕ → Parser Code → Parser (Code → Code)
branch g body = do
  b ← guard g
  c ← body
  expect mark.Else
  d ← body
  pure (plain.If b c d)

-- a loop, after its word
unfoldable pub repeated : ℕ → Parser Code → Parser (Code → Code)
repeated g body = do
  b ← guard g
  c ← body
  pure (plain.While b c)

abbrev pub statement_at : ℕ → Parser Code → Mark → Parser (Code → Code)
statement_at g body m =
    if sameb the_type m mark.Skip then skip >> nothing else
    (if sameb the_type m mark.Question then skip >> hole else
    (if sameb the_type m mark.If then skip >> branch g body else
    (if sameb the_type m mark.While then skip >> repeated g body else refuse Expected)))

abbrev pub statement_by : ℕ → Parser Code → Option Symbol → Parser (Code → Code)
statement_by g body None = refuse Expected
statement_by g body (Some (s.Number z)) = refuse Expected
statement_by g body (Some (s.Name x)) = skip >> changed g x
statement_by g body (Some (s.Mark m)) = statement_at g body m

-- a statement, before the code that follows it; a block inside it is read by `body`
unfoldable pub statement : ℕ → Parser Code → Parser (Code → Code)
statement g body = peek >>= statement_by g body

-- whether a statement begins there
abbrev pub begins_statement : Option Symbol → Bool
begins_statement o =
    begins_name o || stands mark.Skip o || stands mark.Question o
    || stands mark.If o || stands mark.While o

-- one more statement at the end
abbrev pub with_statement : (Code → Code) → (Code → Code) → Code → Code
with_statement front s k = front (s k)

-- the statements after those that were read
unfoldable pub more_statements : ℕ → Parser Code → (Code → Code) → Parser (Code → Code)
more_statements g body before = gather begins_statement (statement g body) with_statement before

-- all statements, as code
unfoldable pub statements : ℕ → Parser Code → Parser Code
statements g body = more_statements g body (λ k. k) >>= λ front. pure (front plain.End)

-- a block whose inside is read so
unfoldable pub braced : Option (Parser Code) → Parser Code
braced deeper = grouped mark.OpenCurly mark.CloseCurly deeper

-- the rule inside a block, where g groups may be opened
unfoldable pub inner_block : ℕ → Option (Parser Code)
inner_block zero = None
inner_block (suc g) = Some (statements g (braced (inner_block g)))

-- a block, where g groups may be opened
unfoldable pub block : ℕ → Parser Code
block g = braced (inner_block g)
