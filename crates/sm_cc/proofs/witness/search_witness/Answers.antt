use Rattle.sm_cc.proofs.Imports.{◌&&◌, ℕ, ◌<◌, length, arith, board_of, are_together, any_differs}
use Rattle.sm_cc.proofs.CausesLemmas.{none_in}
use Rattle.sm_cc.proofs.witness.search_witness.Goals as goal

pub returns : goal.returns
returns c =
    let b = board_of c.args.c.now in
    let equal = are_together c.args.c.now.roots.items in
    none_in (λ (m : ℕ). equal m c.args.i && any_differs b equal m c.args.j) (length b.rows)
    (λ (m : ℕ) (h : m < length b.rows). c.loop-p.invariant m (omega (arith, c.loop-p-test.false, c.len-p-end.ensures, c.loop-p.auto.p-end)))
