use Rattle.sm_syntax.proofs.Imports.{◌∙◌, nat_eq, List, sym, ap, add-one, drop-cons, get, Name, first_output_fault}
use Rattle.sm_syntax.proofs.Repeats.{name_numbers, first_output_fault-new, added_new}
use Rattle.sm_syntax.proofs.checks.check_outputs.Goals as goal

pub loop-name-preserved : goal.loop-name-preserved
loop-name-preserved c =
    let l = c.deref-name-items.result.now in
    let here = drop-cons l c.loop-name.name-index (record { 0 = 0 }) c.loop-name-test.true in
    rw add-one
    (c.loop-name.invariant ∙
    ap (λ (m : List Name). first_output_fault (get nat_eq c.args.sorts.now) c.loop-name.seen.keys (name_numbers m)) here ∙
    first_output_fault-new (get nat_eq c.args.sorts.now) c.loop-name.seen.keys c.insert.new.self.keys _ _ (sym c.if-not-contains_key.ensures)
    (added_new _ c.in_ok-insert.field-0 c.in_ok-insert.ensures.added c.if-not-branch.false)
    c.in_ok-insert.ensures.updates.0)
