use Rattle.sm_gen.proofs.Imports.{ℕ, map, refl, ap, ◌∙◌, arith, Name, Sort, Num}
use Rattle.sm_gen.proofs.Counting.{push_more}
use Rattle.sm_gen.proofs.building.decls.Goals as goal

pub loop-number-preserved : goal.loop-number-preserved
loop-number-preserved c =
    let n = c.loop-number.number in
    let read : Name × Sort → ℕ × Sort = λ e. (e.0.0, e.1) in
    ap (map read) c.in_ok-push.ensures.items
    ∙ push_more read (λ (x : ℕ). (x, Num)) 0 n n c.loop-number.list.items (record { 0 = n }, Num) (omega arith) c.loop-number.invariant refl
