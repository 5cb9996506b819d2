-- The first term stays where the table grows.
use Rattle.sm_template.proofs.Imports.{◌∙◌, ap, Sorts, stays_got}
use Rattle.sm_template.proofs.terms.sides.Goals as goal

pub side-requires-2-clause-declared : goal.side-requires-2-clause-declared
side-requires-2-clause-declared c = ap (λ (f : Sorts). f c.args.x.0) c.side.ensures.grows.sorts ∙ c.requires.declared

pub returns-clause-first : goal.returns-clause-first
returns-clause-first c =
    stays_got c.side.new.table c.side-2.new.table c.side-2.ensures.grows c.in_ok-t.t.0 _ c.in_ok-t.ensures.made
