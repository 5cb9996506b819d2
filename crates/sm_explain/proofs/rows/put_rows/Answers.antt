-- Part by part.
use Rattle.sm_explain.proofs.Imports.{◌≡◌, to_z, of_z, sym, ◌∙◌, rules, w128, end_in}
use Rattle.sm_replay.specs.Verdicts.{cell_of}
use Rattle.sm_explain.proofs.RowsSound.{rows_put}
use Rattle.sm_explain.proofs.rows.put_rows.Goals as goal

pub returns : goal.returns
returns c =
    let o = c.value_in-base.result in
    let a = c.value_in-a.result in
    let b = c.value_in-b.result in
    let m = c.value_in-candidate.result in
    let eo : to_z w128 (of_z w128 o) ≡ o = search rules in
    let ea : to_z w128 (of_z w128 a) ≡ a = search rules in
    let eb : to_z w128 (of_z w128 b) ≡ b = search rules in
    let em : to_z w128 (of_z w128 m) ≡ m = search rules in
    rows_put c.args.names.now (end_in c.args.ends.now) (cell_of c.args.name.0 c.args.index)
    (to_z w128 (of_z w128 o)) (to_z w128 (of_z w128 a)) (to_z w128 (of_z w128 b)) (to_z w128 (of_z w128 m))
    c.args.out.now.items c.put_cell.new.out.items c.put_values.new.out.items c.put_sentences.new.out.items
    (eo ∙ c.value_in-base.ensures) (ea ∙ c.value_in-a.ensures) (eb ∙ c.value_in-b.ensures) (em ∙ c.value_in-candidate.ensures)
    (sym c.agree.ensures ∙ c.if-agree.false) c.in_ok-put_cell.ensures c.in_ok-put_values.ensures c.in_ok-put_sentences.ensures
