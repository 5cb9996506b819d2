-- No public clause cites this file.
-- How expressions are read, where the rule inside one more group is given.
use Rattle.std.specs.Prelude.{ℕ, zero, suc, Bool, true, false, if◌then◌else◌, Option, Some, None}
use denote.Enum.Bare.{sameb}
use Rattle.sm_syntax.specs.contracts.symbol.Mark.{the_type}
use Rattle.sm_syntax.specs.declared.symbol.Mark.TheVariants as mark
use Rattle.sm_syntax.specs.declared.symbol.Symbol.{Symbol}
use Rattle.sm_syntax.specs.declared.symbol.Symbol.TheVariants as s
use Rattle.sm_syntax.specs.declared.tree.Name.{Name}
use Rattle.sm_syntax.specs.claim.Syntax as plain
use Rattle.sm_syntax.specs.claim.Syntax.{Expression}
use Rattle.sm_text.specs.declared.rules.expressions.ExprChain.{ExprChain}
use Rattle.sm_text.specs.declared.rules.expressions.ExprChain.TheVariants.{Product, Sum}
use Rattle.sm_text.specs.rules.Parsers.{first, Parser, ◌>>=◌, ◌>>◌, pure, peek, skip, refuse, stands, Operators, chain, inside_group, Expected}

-- the index of an element, after the name of its array
unfoldable pub index : Option (Parser Expression) → Parser Expression
index deeper = inside_group deeper mark.CloseSquare

-- an element or a variable, after its name
abbrev pub named_by : Option (Parser Expression) → Name → Bool → Parser Expression
named_by deeper x true = index deeper >>= λ i. pure (plain.Read x.0 i)
named_by deeper x false = pure (plain.Var x.0)

unfoldable pub named : Option (Parser Expression) → Name → Parser Expression
named deeper x ts = named_by deeper x (stands mark.OpenSquare (first ts)) ts

-- an expression in parentheses
unfoldable pub parenthesized : Option (Parser Expression) → Parser Expression
parenthesized deeper = inside_group deeper mark.CloseRound

-- a number, a name, an element, or an expression in parentheses
abbrev pub atom_by : Option (Parser Expression) → Option Symbol → Parser Expression
atom_by deeper None = refuse Expected
atom_by deeper (Some (s.Number z)) = skip >> pure (plain.Lit z)
atom_by deeper (Some (s.Name x)) = skip >> named deeper x
atom_by deeper (Some (s.Mark m)) =
    if sameb the_type m mark.OpenRound then parenthesized deeper else refuse Expected

unfoldable pub atom : Option (Parser Expression) → Parser Expression
atom deeper = peek >>= atom_by deeper

-- an atom, or one after a minus sign
abbrev pub unary_by : Option (Parser Expression) → Bool → Parser Expression
unary_by deeper true = skip >> (atom deeper >>= λ e. pure (plain.Neg e))
unary_by deeper false = atom deeper

unfoldable pub unary : Option (Parser Expression) → Parser Expression
unary deeper ts = unary_by deeper (stands mark.Minus (first ts)) ts

-- the operator of a product
abbrev pub product_operators : Operators Expression
product_operators o = if stands mark.Star o then Some plain.Times else None

-- the operators of a sum
abbrev pub sum_operators : Operators Expression
sum_operators o =
    if stands mark.Plus o then Some plain.Plus else
    (if stands mark.Minus o then Some plain.Minus else None)

-- a product
unfoldable pub product : Option (Parser Expression) → Parser Expression
product deeper = chain product_operators (unary deeper)

-- a sum: any expression
unfoldable pub sum : Option (Parser Expression) → Parser Expression
sum deeper = chain sum_operators (product deeper)

-- the operators of either chain
abbrev pub expression_operators : ExprChain → Operators Expression
expression_operators Product = product_operators
expression_operators Sum = sum_operators

-- what stands between the operators of either chain
abbrev pub expression_operand : Option (Parser Expression) → ExprChain → Parser Expression
expression_operand deeper Product = unary deeper
expression_operand deeper Sum = product deeper

-- either chain
abbrev pub expression_chain : Option (Parser Expression) → ExprChain → Parser Expression
expression_chain deeper Product = product deeper
expression_chain deeper Sum = sum deeper

-- the rule inside a group, where g groups may be opened
unfoldable pub inner_sum : ℕ → Option (Parser Expression)
inner_sum zero = None
inner_sum (suc g) = Some (sum (inner_sum g))

-- an expression, where g groups may be opened
unfoldable pub expression : ℕ → Parser Expression
expression g = sum (inner_sum g)
