-- A table that is cut back is as wide as before.
use Rattle.sm_plan.proofs.Imports.{◌∙◌, ap, take, trees_in}
use Rattle.sm_plan.proofs.TablesWiden.{widens_cut}
use Rattle.sm_plan.proofs.opening.open.Goals as goal

pub returns-in-Ok-None-clause-widens : goal.returns-in-Ok-None-clause-widens
returns-in-Ok-None-clause-widens c =
    widens_cut c.args.table.now c.open_node.new.table c.cut.new.self c.in-Ok-None.ensures.widens
    (c.cut.ensures.trees ∙ ap (λ n. take n (trees_in c.open_node.new.table)) c.len-len.ensures.len) c.cut.ensures.sorts
    c.cut.ensures.codes

pub returns-in-Err-clause-widens : goal.returns-in-Err-clause-widens
returns-in-Err-clause-widens c =
    widens_cut c.args.table.now c.open_node.new.table c.cut-in-Err.new.self c.in-Err.ensures.widens
    (c.cut-in-Err.ensures.trees ∙ ap (λ n. take n (trees_in c.open_node.new.table)) c.len-len.ensures.len)
    c.cut-in-Err.ensures.sorts c.cut-in-Err.ensures.codes
