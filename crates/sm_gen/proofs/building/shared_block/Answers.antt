use Rattle.sm_gen.proofs.Imports.{◌≡◌, ℕ, ◌+◌, ap, ◌∙◌, arith, range_with_len, End, Hole, counted, holes}
use Rattle.sm_syntax.proofs.Appends.{append-End}
use Rattle.sm_syntax.proofs.Blocks.{block_is}
use Rattle.sm_gen.proofs.Counting.{holes_counted}
use Rattle.sm_gen.proofs.building.shared_block.Goals as goal

pub loop-place-preserved : goal.loop-place-preserved
loop-place-preserved c k =
    let n = c.loop-place.place in
    let h = c.from.result + 1 in
    c.in_ok-put_hole.ensures k
    ∙ c.loop-place.invariant (Hole h k)
    ∙ ap counted (holes_counted 1 n h k (omega (arith, c.from.ensures)))

pub returns : goal.returns
returns c =
    let n = c.loop-place.place in
    let all : n ≡ c.args.size = omega (arith, c.loop-place-test.false, c.loop-place.auto.place-end) in
    block_is _ ∙ c.loop-place.invariant End
    ∙ ap counted (append-End (holes (range_with_len 1 n)) ∙ ap (λ (m : ℕ). holes (range_with_len 1 m)) all)
