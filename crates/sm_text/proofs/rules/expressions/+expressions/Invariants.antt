use Rattle.sm_text.proofs.Imports.{◌≡◌, ℕ, ◌+◌, ◌*◌, expression_of, ExprChain, chain_in}
use Rattle.sm_text.specs.declared.rules.expressions.ExprChain.TheVariants.{Product, Sum}
use Rattle.sm_text.specs.rules.Reading as spec
use Rattle.sm_text.proofs.rules.expressions.+expressions.Given as goal

-- a product stands inside a sum
abbrev pub height : ExprChain → ℕ
height Product = 6
height Sum = 9

abbrev pub decreases-atom : goal.decreases-atom
decreases-atom l = 12 * l.groups + 4

abbrev pub decreases-group : goal.decreases-group
decreases-group l = 12 * l.groups + 1

abbrev pub decreases-index : goal.decreases-index
decreases-index l = 12 * l.groups + 2

abbrev pub decreases-named : goal.decreases-named
decreases-named l = 12 * l.groups + 3

abbrev pub decreases-parenthesized : goal.decreases-parenthesized
decreases-parenthesized l = 12 * l.groups + 2

abbrev pub decreases-unary : goal.decreases-unary
decreases-unary l = 12 * l.groups + 5

abbrev pub decreases-operand : goal.decreases-operand
decreases-operand l = 12 * l.groups + height l.chain

abbrev pub decreases-chained : goal.decreases-chained
decreases-chained l = 12 * l.groups + height l.chain + 2

abbrev pub decreases-next_operand : goal.decreases-next_operand
decreases-next_operand l = 12 * l.groups + height l.chain + 1

abbrev pub invariant-chained-operators : goal.invariant-chained-operators
invariant-chained-operators l =
    spec.expression_chain (spec.inner_sum l.groups) l.chain l.symbols ≡ chain_in (spec.expression_operators l.chain)
    (spec.expression_operand (spec.inner_sum l.groups) l.chain) l.room (expression_of l.left) l.after

abbrev pub decreases-chained-operators : goal.decreases-chained-operators
decreases-chained-operators l = l.room
