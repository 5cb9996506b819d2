use Rattle.std.proofs.Common.{ap, ◌∙◌}
use Rattle.sm_houdini.proofs.MarkedLemmas.{number_put, number_skipped}
use Rattle.sm_houdini.proofs.marks.kept_numbers.Goals as goal
use Rattle.sm_houdini.proofs.marks.kept_numbers.Goals.{then-mark+in_ok-push, else-mark}

pub loop-mark-preserved : goal.loop-mark-preserved
loop-mark-preserved c =
    let ms = c.args.marks.now in
    let i = c.loop-mark.mark-index in
    elim c.if-mark.branch [
      | then-mark+in_ok-push w ↦
          ap (λ v. v.items) w.list-is
          ∙ number_put w.push.new.self.items c.loop-mark.list.items ms i _ w.in_ok-push.ensures.items w.if-mark.true c.loop-mark-test.true
          c.loop-mark.invariant
      | else-mark w ↦
          ap (λ v. v.items) w.list-is
          ∙ number_skipped c.loop-mark.list.items ms i _ w.if-mark.false c.loop-mark-test.true c.loop-mark.invariant
    ]
