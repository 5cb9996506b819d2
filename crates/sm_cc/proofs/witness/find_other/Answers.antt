use Rattle.sm_cc.proofs.Imports.{◌≡◌, ◌&&◌, ℕ, ◌<◌, Bool, false, length, below_more, arith, Witness, places_differ, board_of, placed_of, are_together, IsHalfWitness}
use Rattle.sm_cc.proofs.CausesLemmas.{absent, none_in}
use Rattle.sm_cc.proofs.witness.find_other.Goals as goal

pub loop-q-preserved : goal.loop-q-preserved
loop-q-preserved c =
    let b = board_of c.args.c.now in
    let equal = are_together c.args.c.now.roots.items in
    let test : ℕ → Bool = λ (m : ℕ). equal m c.args.j && places_differ b c.args.p m in
    below_more (λ (m : ℕ). test m ≡ false) c.loop-q.q c.loop-q.invariant
    (absent c.half_witness.result (test c.loop-q.q ≡ false)
    (λ (w : Witness). IsHalfWitness (placed_of c.args.c.now) equal w c.args.p c.args.j) c.half_witness.ensures c.in_default.not-Some)

pub returns : goal.returns
returns c =
    let b = board_of c.args.c.now in
    let equal = are_together c.args.c.now.roots.items in
    none_in (λ (m : ℕ). equal m c.args.j && places_differ b c.args.p m) (length b.rows)
    (λ (m : ℕ) (h : m < length b.rows). c.loop-q.invariant m (omega (arith, c.loop-q-test.false, c.len-q-end.ensures, c.loop-q.auto.q-end)))
