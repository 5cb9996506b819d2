-- By the comparison.
use Rattle.sm_lia.proofs.Imports.{sym, ◌∙◌, trees_in, sorts_in}
use Rattle.sm_lia.proofs.ComparingLemmas.{unequal_made, unequal_none}
use Rattle.sm_lia.proofs.comparing.apart.Goals as goal

pub returns-in-Unequal : goal.returns-in-Unequal
returns-in-Unequal c =
    unequal_made (sorts_in c.args.table.now) (trees_in c.args.table.now) c.args.t c.args.u c.requires.left c.requires.right
    (sym c.in_ok-compare.ensures ∙ c.in-Unequal.is)

pub returns-in_default : goal.returns-in_default
returns-in_default c =
    unequal_none (sorts_in c.args.table.now) (trees_in c.args.table.now) c.args.t c.args.u
    (λ e. c.in_default.not-Unequal (c.in_ok-compare.ensures ∙ e))
