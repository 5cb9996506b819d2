use Rattle.sm_cc.proofs.Imports.{ℕ, IsElementSettled}
use Rattle.sm_cc.specs.declared.closure.Closure.{Closure}
use Rattle.sm_cc.proofs.RoundsLemmas.{tries_more}
use Rattle.sm_cc.proofs.rounds.relate_elements.Goals as goal

pub loop-i-preserved : goal.loop-i-preserved
loop-i-preserved c =
    tries_more (λ (m : ℕ) (d : Closure). IsElementSettled m d) c.loop-i.i c.args.c.now c.loop-i.c c.relate_element.new.c c.loop-i.invariant
    c.in_ok-relate_element.ensures
