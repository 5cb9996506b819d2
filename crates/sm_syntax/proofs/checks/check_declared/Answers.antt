use Rattle.sm_syntax.proofs.Imports.{ℕ, ◌∙◌, List, map, ap, add-one, drop-cons, Name, first_repeated}
use Rattle.sm_syntax.specs.declared.tree.Sort.{Sort}
use Rattle.sm_syntax.specs.declared.tree.Sort.TheVariants.{Num}
use Rattle.sm_syntax.proofs.Repeats.{sorted_numbers, first_repeated-new, added_new}
use Rattle.sm_syntax.proofs.checks.check_declared.Goals as goal

pub loop-d-preserved : goal.loop-d-preserved
loop-d-preserved c =
    let here = drop-cons c.deref-d-items.result.now c.loop-d.d-index (record { 0 = 0 }, Num) c.loop-d-test.true in
    rw add-one
    (c.loop-d.invariant ∙
    ap (λ (m : List (Name × Sort)). first_repeated c.loop-d.seen.keys (map (λ (d : ℕ × Sort). d.0) (sorted_numbers m))) here ∙
    first_repeated-new c.loop-d.seen.keys c.insert.new.self.keys _ _ (added_new _ c.in_ok-insert.field-0 c.in_ok-insert.ensures.added c.if-not-branch.false)
    c.in_ok-insert.ensures.updates.0)
