use Rattle.sm_cc.proofs.ClosuresLemmas.{element_kept, place_kept}
use Rattle.sm_cc.proofs.derive.by_hit.Goals as goal

pub equate-requires-clause-follows : goal.equate-requires-clause-follows
equate-requires-clause-follows c =
    let old = c.args.c.now in
    let new = c.join.new.c in
    let adds = c.in_ok-f.ensures.adds in (
      c.args.e,
      element_kept old new c.args.i c.args.e adds.grows c.requires.element,
      place_kept old new c.args.j adds.grows c.requires.there,
      adds.noted,
      c.requires.written,
    )
