-- No public clause cites this file.
-- How conditions are read, where the rule inside one more group is given.
use Rattle.std.specs.Prelude.{ℕ, zero, suc, Bool, true, false, if◌then◌else◌, Option, Some, None}
use Rattle.sm_syntax.specs.declared.symbol.Mark.TheVariants as mark
use Rattle.sm_syntax.specs.declared.symbol.Symbol.{Symbol}
use Rattle.sm_syntax.specs.claim.Syntax as plain
use Rattle.sm_syntax.specs.claim.Syntax.{Expression, Condition}
use Rattle.sm_syntax.specs.declared.tree.Cmp.{Cmp}
use Rattle.sm_syntax.specs.declared.tree.Cmp.TheVariants.{Eq, Ne, Lt, Le, Gt, Ge}
use Rattle.sm_text.specs.declared.rules.conditions.CondChain.{CondChain}
use Rattle.sm_text.specs.declared.rules.conditions.CondChain.TheVariants.{Conjunction, Disjunction}
use Rattle.sm_text.specs.rules.Parsers.{first, Parser, ◌>>=◌, ◌>>◌, pure, skip, refuse, stands, Operators, chain, inside_group, Expected}
use Rattle.sm_text.specs.rules.Reading.Expressions.{expression}

-- the comparison that stands there
abbrev pub comparison_of : Option Symbol → Option Cmp
comparison_of o =
    if stands mark.Equal o then Some Eq else
    (if stands mark.Unequal o then Some Ne else
    (if stands mark.Less o then Some Lt else
    (if stands mark.AtMost o then Some Le else
    (if stands mark.Greater o then Some Gt else
    (if stands mark.AtLeast o then Some Ge else None)))))

abbrev pub comparison_if : Option Cmp → Parser Cmp
comparison_if None = refuse Expected
comparison_if (Some op) = skip >> pure op

-- the sign of a comparison
unfoldable pub comparison_sign : Parser Cmp
comparison_sign ts = comparison_if (comparison_of (first ts)) ts

-- a comparison of two expressions
unfoldable pub compared : Parser Expression → Parser Condition
compared value = do
  d ← value
  op ← comparison_sign
  e ← value
  pure (plain.Compare op d e)

-- a condition in square brackets
unfoldable pub bracketed : Option (Parser Condition) → Parser Condition
bracketed deeper = inside_group deeper mark.CloseSquare

-- a constant, a comparison, or a condition in square brackets
abbrev pub test_at : Option (Parser Condition) → Parser Expression → Option Symbol →
    Parser Condition
test_at deeper value o =
    if stands mark.True o then skip >> pure plain.Yes else
    (if stands mark.False o then skip >> pure plain.No else
    (if stands mark.OpenSquare o then bracketed deeper else compared value))

unfoldable pub simple_test : Option (Parser Condition) → Parser Expression → Parser Condition
simple_test deeper value ts = test_at deeper value (first ts) ts

-- a test, or one after an exclamation mark
abbrev pub literal_by : Option (Parser Condition) → Parser Expression → Bool → Parser Condition
literal_by deeper value true = skip >> (simple_test deeper value >>= λ b. pure (plain.Not b))
literal_by deeper value false = simple_test deeper value

unfoldable pub literal : Option (Parser Condition) → Parser Expression → Parser Condition
literal deeper value ts = literal_by deeper value (stands mark.Bang (first ts)) ts

-- the operator of a conjunction
abbrev pub conjunction_operators : Operators Condition
conjunction_operators o = if stands mark.Both o then Some plain.And else None

-- the operator of a disjunction
abbrev pub disjunction_operators : Operators Condition
disjunction_operators o = if stands mark.Either o then Some plain.Or else None

-- a conjunction
unfoldable pub conjunction : Option (Parser Condition) → Parser Expression → Parser Condition
conjunction deeper value = chain conjunction_operators (literal deeper value)

-- a disjunction: any condition
unfoldable pub disjunction : Option (Parser Condition) → Parser Expression → Parser Condition
disjunction deeper value = chain disjunction_operators (conjunction deeper value)

-- the operators of either chain
abbrev pub condition_operators : CondChain → Operators Condition
condition_operators Conjunction = conjunction_operators
condition_operators Disjunction = disjunction_operators

-- what stands between the operators of either chain
abbrev pub condition_operand : Option (Parser Condition) → Parser Expression → CondChain →
    Parser Condition
condition_operand deeper value Conjunction = literal deeper value
condition_operand deeper value Disjunction = conjunction deeper value

-- either chain
abbrev pub condition_chain : Option (Parser Condition) → Parser Expression → CondChain →
    Parser Condition
condition_chain deeper value Conjunction = conjunction deeper value
condition_chain deeper value Disjunction = disjunction deeper value

-- the rule inside a group, where g groups may be opened
unfoldable pub inner_condition : ℕ → Option (Parser Condition)
inner_condition zero = None
inner_condition (suc g) = Some (disjunction (inner_condition g) (expression g))

-- a condition, where g groups may be opened
unfoldable pub condition : ℕ → Parser Condition
condition g = disjunction (inner_condition g) (expression g)
