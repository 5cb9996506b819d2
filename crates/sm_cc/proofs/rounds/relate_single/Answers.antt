use Rattle.sm_cc.proofs.Imports.{on_ok_weaker, Tries, AreGivenSettled, AreElementsSettled}
use Rattle.sm_cc.proofs.RoundsLemmas.{tries_both}
use Rattle.sm_cc.proofs.rounds.relate_single.Goals as goal

pub returns : goal.returns
returns c =
    let mid = c.relate_given.new.c in
    let new = c.relate_elements.new.c in
    on_ok_weaker c.relate_elements.result
    (λ (h : Tries AreElementsSettled mid new).
    tries_both AreGivenSettled AreElementsSettled c.args.c.now mid new c.in_ok-relate_given.ensures h) c.relate_elements.ensures
