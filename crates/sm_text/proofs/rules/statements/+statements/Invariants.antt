use Rattle.sm_text.proofs.Imports.{◌≡◌, ◌+◌, ◌*◌, length, statements_before}
use Rattle.sm_text.specs.rules.Reading as spec
use Rattle.sm_text.proofs.rules.statements.+statements.Given as goal

abbrev pub decreases-block : goal.decreases-block
decreases-block l = 10 * l.groups + 1

abbrev pub decreases-group : goal.decreases-group
decreases-group l = 10 * l.groups

abbrev pub decreases-branch : goal.decreases-branch
decreases-branch l = 10 * l.groups + 2

abbrev pub decreases-code : goal.decreases-code
decreases-code l = 10 * l.groups + 6

abbrev pub decreases-repeated : goal.decreases-repeated
decreases-repeated l = 10 * l.groups + 2

abbrev pub decreases-statement : goal.decreases-statement
decreases-statement l = 10 * l.groups + 4

abbrev pub decreases-statement_at : goal.decreases-statement_at
decreases-statement_at l = 10 * l.groups + 3

abbrev pub decreases-statements : goal.decreases-statements
decreases-statements l = 10 * l.groups + 5

abbrev pub invariant-statements-statements : goal.invariant-statements-statements
invariant-statements-statements l =
    spec.more_statements l.groups (spec.block l.groups) (λ k. k) l.symbols ≡ spec.more_statements l.groups (spec.block l.groups)
    (statements_before l.list.items) l.after

abbrev pub decreases-statements-statements : goal.decreases-statements-statements
decreases-statements-statements l = length l.after
