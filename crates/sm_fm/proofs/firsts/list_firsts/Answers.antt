use Rattle.sm_fm.proofs.FirstLemmas.{listed_next}
use Rattle.sm_fm.proofs.firsts.list_firsts.Goals as goal

pub loop-place-preserved : goal.loop-place-preserved
loop-place-preserved c =
    listed_next c.loop-place.firsts.items c.put.new.firsts.items c.args.forms.now c.loop-place.place c.args.atoms c.first_atom-first.result
    c.index-forms-place.result c.loop-place.invariant c.first_atom-first.ensures c.loop-place-test.true c.index-forms-place.is
    c.in_ok-put.ensures
