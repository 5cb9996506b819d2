-- Clause by clause.
use Rattle.sm_explain.proofs.Imports.{ℤ, to_z, of_z, ◌∙◌, to_z-of_z, w128, loses_change, adds_change, said_if, words_of_a, words_of_b, words_of_candidate}
use Rattle.sm_explain.proofs.RowsSound.{put_three, lost_same, added_same, said}
use Rattle.sm_explain.proofs.rows.put_sentences.Goals as goal

pub returns : goal.returns
returns c =
    let o = c.args.base in
    let a = c.args.a in
    let b = c.args.b in
    let m = c.args.candidate in
    let seen = λ (z : ℤ). to_z w128 (of_z w128 z) in
    let eo = to_z-of_z w128 o c.ranges.base in
    let ea = to_z-of_z w128 a c.ranges.a in
    let eb = to_z-of_z w128 b c.ranges.b in
    let em = to_z-of_z w128 m c.ranges.candidate in
    let old = c.args.out.now.items in
    let p = c.put_if.new.out.items in
    let q = c.put_if-2.new.out.items in
    let new = c.put_if-3.new.out.items in
    put_three old p q new (said_if (loses_change o a m) words_of_a) (said_if (loses_change o b m) words_of_b)
    (said_if (adds_change o a b m) words_of_candidate)
    (said old p words_of_a c.loses_change.result (loses_change o a m) c.words_of_a.result.now
    (c.loses_change.ensures ∙ lost_same o a m (seen o) (seen a) (seen m) eo ea em) c.words_of_a.ensures c.in_ok-put_if.ensures)
    (said p q words_of_b c.loses_change-2.result (loses_change o b m) c.words_of_b.result.now
    (c.loses_change-2.ensures ∙ lost_same o b m (seen o) (seen b) (seen m) eo eb em) c.words_of_b.ensures c.in_ok-put_if-2.ensures)
    (said q new words_of_candidate c.adds_change.result (adds_change o a b m) c.words_of_candidate.result.now
    (c.adds_change.ensures ∙ added_same o a b m (seen o) (seen a) (seen b) (seen m) eo ea eb em) c.words_of_candidate.ensures
    c.in_ok-put_if-3.ensures)
