use Rattle.sm_judge.proofs.Imports.{length, arith, trees_in, sorts_in, codes_in}
use Rattle.sm_judge.proofs.TermPlacesLemmas.{places_more}
use Rattle.sm_judge.proofs.term_places.terms_have_places.Goals as goal

pub loop-n-preserved : goal.loop-n-preserved
loop-n-preserved c =
    let v = c.args.table.now in
    places_more (sorts_in v) (length (codes_in v)) (codes_in v) (trees_in v) c.loop-n.n c.get.result.now
    (omega (arith, c.loop-n-test.true, c.len-n-end.ensures.len)) c.get.ensures.tree c.get.ensures.before c.loop-n.invariant
