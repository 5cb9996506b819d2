-- A table that is cut back is as wide as before.
use Rattle.sm_expand.proofs.Imports.{◌∙◌, ap, take, trees_in, widens_cut}
use Rattle.sm_expand.proofs.expanding.expand.Goals as goal

pub returns-in-Err-clause-widens : goal.returns-in-Err-clause-widens
returns-in-Err-clause-widens c =
    widens_cut c.args.table.now c.expand_whole.new.table c.cut.new.self c.in-Err.ensures.widens
    (c.cut.ensures.trees ∙ ap (λ n. take n (trees_in c.expand_whole.new.table)) c.len-len.ensures.len) c.cut.ensures.sorts
    c.cut.ensures.codes
