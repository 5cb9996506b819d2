-- By the comparison.
use Rattle.sm_lia.proofs.Imports.{sym, ◌∙◌, trees_in, sorts_in}
use Rattle.sm_lia.proofs.ComparingLemmas.{equal_made, equal_none}
use Rattle.sm_lia.proofs.comparing.same.Goals as goal

pub returns-in-Equal : goal.returns-in-Equal
returns-in-Equal c =
    equal_made (sorts_in c.args.table.now) (trees_in c.args.table.now) c.args.t c.args.u c.requires.left c.requires.right
    (sym c.in_ok-compare.ensures ∙ c.in-Equal.is)

pub returns-in_default : goal.returns-in_default
returns-in_default c =
    equal_none (sorts_in c.args.table.now) (trees_in c.args.table.now) c.args.t c.args.u
    (λ e. c.in_default.not-Equal (c.in_ok-compare.ensures ∙ e))
