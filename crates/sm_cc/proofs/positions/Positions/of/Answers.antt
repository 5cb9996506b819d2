-- By what is noted of all terms.
use Rattle.sm_cc.proofs.Imports.{sym, length, trees_in}
use Rattle.sm_cc.specs.declared.positions.Positions.{Positions}
use Rattle.sm_cc.specs.Views.{trees_of}
use Rattle.sm_cc.proofs.PositionsLemmas.{positions_noted, length-trees_of}
use Rattle.sm_cc.proofs.positions.Positions.of.Goals as goal

pub returns : goal.returns
returns c =
    let trees = trees_in c.args.table.now in
    let terms = c.args.terms.now in
    let p : Positions = record { places = c.note_behind.new.places; reads = c.note_behind.new.reads; count = length terms } in
    positions_noted trees (trees_of trees terms) p c.in_ok-note_behind.ensures (sym (length-trees_of trees terms))
