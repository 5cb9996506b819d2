-- A table that is cut back is as wide as before.
use Rattle.sm_plan.proofs.Imports.{◌∙◌, ap, take, trees_in}
use Rattle.sm_plan.proofs.TablesWiden.{widens_cut, cut_back}
use Rattle.sm_plan.proofs.start.start_state.Goals as goal

pub returns-in-Err-clause-widens : goal.returns-in-Err-clause-widens
returns-in-Err-clause-widens c =
    widens_cut c.args.table.now c.made_state.new.table c.cut.new.self c.in-Err.ensures.widens
    (c.cut.ensures.trees ∙ ap (λ n. take n (trees_in c.made_state.new.table)) c.len-len.ensures.len) c.cut.ensures.sorts
    c.cut.ensures.codes

pub returns-in-Err-clause-err : goal.returns-in-Err-clause-err
returns-in-Err-clause-err c =
    cut_back c.args.table.now c.made_state.new.table c.cut.new.self c.in-Err.ensures.widens
    (c.cut.ensures.trees ∙ ap (λ n. take n (trees_in c.made_state.new.table)) c.len-len.ensures.len)
