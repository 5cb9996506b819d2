-- Cell by cell.
use Rattle.sm_replay.proofs.Imports.{◌≡◌, ℤ, pos, get_or, to_z, of_z, ap, ◌∙◌, rules, w128, members_view}
use Rattle.sm_replay.proofs.InputTextSound.{cell_turn, cells_end}
use Rattle.sm_replay.proofs.input_text.cells_of.Goals as goal

pub loop-i-preserved : goal.loop-i-preserved
loop-i-preserved c =
    let cell : ℤ × ℤ = get_or c.args.list.now c.loop-i.i-index (pos 0, pos 0) in
    let index : cell.0 ≡ to_z w128 (of_z w128 cell.0) = search rules in
    let number : cell.1 ≡ to_z w128 (of_z w128 cell.1) = search rules in
    cell_turn c.args.list.now c.loop-i.i-index (pos 0, pos 0) (to_z w128 (of_z w128 cell.0)) (to_z w128 (of_z w128 cell.1))
    (members_view c.loop-i.cells.entries)
    (members_view c.write_cell.new.cells.entries) c.requires c.loop-i-test.true
    (ap (λ (i : ℤ). (i, cell.1)) index ∙ ap (λ (z : ℤ). (to_z w128 (of_z w128 cell.0), z)) number)
    c.in_ok-write_cell.ensures.inside c.in_ok-write_cell.ensures.written c.loop-i.invariant

pub returns : goal.returns
returns c =
    let whole = cells_end c.args.list.now c.loop-i.i-index (members_view c.loop-i.cells.entries) c.loop-i-test.false c.loop-i.invariant in
    record { written = whole.0; inside = whole.1 }
