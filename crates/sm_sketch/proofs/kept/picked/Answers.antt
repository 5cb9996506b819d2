-- The template of one number more.
use Rattle.sm_sketch.specs.ChoiceViews.{pointed}
use Rattle.sm_sketch.proofs.KeptFormulas.{next_picked}
use Rattle.sm_sketch.proofs.kept.picked.Goals as goal

pub loop-number-preserved : goal.loop-number-preserved
loop-number-preserved c =
    next_picked c.args.templates.now (pointed c.loop-number.list.items) (pointed c.put_template.new.list.items) c.args.numbers.now
    c.loop-number.number-index c.loop-number-test.true c.loop-number.invariant c.in_ok-put_template.ensures
