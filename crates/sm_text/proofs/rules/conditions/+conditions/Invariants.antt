use Rattle.sm_text.proofs.Imports.{◌≡◌, ℕ, ◌+◌, ◌*◌, condition_of, CondChain, chain_in}
use Rattle.sm_text.specs.declared.rules.conditions.CondChain.TheVariants.{Conjunction, Disjunction}
use Rattle.sm_text.specs.rules.Reading as spec
use Rattle.sm_text.proofs.rules.conditions.+conditions.Given as goal

-- a conjunction stands inside a disjunction
abbrev pub height : CondChain → ℕ
height Conjunction = 6
height Disjunction = 9

abbrev pub decreases-bracketed : goal.decreases-bracketed
decreases-bracketed l = 10 * l.groups + 3

abbrev pub decreases-group : goal.decreases-group
decreases-group l = 10 * l.groups + 2

abbrev pub decreases-literal : goal.decreases-literal
decreases-literal l = 10 * l.groups + 5

abbrev pub decreases-test : goal.decreases-test
decreases-test l = 10 * l.groups + 4

abbrev pub decreases-operand : goal.decreases-operand
decreases-operand l = 10 * l.groups + height l.chain

abbrev pub decreases-chained : goal.decreases-chained
decreases-chained l = 10 * l.groups + height l.chain + 2

abbrev pub decreases-next_operand : goal.decreases-next_operand
decreases-next_operand l = 10 * l.groups + height l.chain + 1

abbrev pub invariant-chained-operators : goal.invariant-chained-operators
invariant-chained-operators l =
    spec.condition_chain (spec.inner_condition l.groups) (spec.expression l.groups) l.chain l.symbols ≡ chain_in
    (spec.condition_operators l.chain) (spec.condition_operand (spec.inner_condition l.groups) (spec.expression l.groups) l.chain) l.room
    (condition_of l.left) l.after

abbrev pub decreases-chained-operators : goal.decreases-chained-operators
decreases-chained-operators l = l.room
