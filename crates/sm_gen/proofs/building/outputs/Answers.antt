use Rattle.sm_gen.proofs.Imports.{ℕ, ◌+◌, map, ap, ◌∙◌, arith, Name}
use Rattle.sm_gen.proofs.Counting.{push_number}
use Rattle.sm_gen.proofs.building.outputs.Goals as goal

pub loop-place-preserved : goal.loop-place-preserved
loop-place-preserved c =
    let n = c.loop-place.place in
    let read : Name → ℕ = λ x. x.0 in
    ap (map read) c.in_ok-push.ensures.items
    ∙ push_number read 2 n c.loop-place.list.items (record { 0 = c.from.result + 2 }) c.loop-place.invariant (omega (arith, c.from.ensures))
