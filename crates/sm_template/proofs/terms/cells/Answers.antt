-- The first term stays where the table grows.
use Rattle.sm_template.proofs.Imports.{◌∙◌, ap, Sorts, stays_got}
use Rattle.sm_template.proofs.terms.cells.Goals as goal

pub cell-requires-2-clause-declared : goal.cell-requires-2-clause-declared
cell-requires-2-clause-declared c = ap (λ (f : Sorts). f c.args.x.0) c.cell.ensures.grows.sorts ∙ c.requires.declared

pub returns-clause-first : goal.returns-clause-first
returns-clause-first c =
    stays_got c.cell.new.table c.cell-2.new.table c.cell-2.ensures.grows c.in_ok-t.t.0 _ c.in_ok-t.ensures.made
