-- Summaries of each copy of a set.
use Rattle.sm_product.proofs.Imports.{◌≡◌, List, sym, subst, Sorts, Tree, move_in, sketch_in, move_before}
use Rattle.std.proofs.Common.{IfOk}
use Rattle.sm_moves.specs.declared.moves.Move.{Move}
use Rattle.sm_product.proofs.paths.put_before.Goals as goal

pub returns-in-Summaries-clause-drawn : goal.returns-in-Summaries-clause-drawn
returns-in-Summaries-clause-drawn c = λ (sorts : Sorts) (trees : List Tree).
    subst (λ (m : Move). IfOk c.each_summary.result
    (λ s. sketch_in sorts trees s ≡ move_before (move_in m) (sketch_in sorts trees c.args.sketch)))
    (sym c.in-Summaries.is) (c.each_summary.ensures.drawn sorts trees)
