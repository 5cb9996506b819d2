-- The rules of single places, those of linear forms, and those of heads with their arguments.
use Rattle.sm_cc.proofs.Imports.{on_ok_weaker, Tries, AreSinglesSettled, AreSettled, AreAlikeSettled, AreHeadedSettled}
use Rattle.sm_cc.specs.declared.closure.Closure.{Closure}
use Rattle.sm_cc.proofs.ClosuresLemmas.{grows_on}
use Rattle.sm_cc.proofs.RoundsLemmas.{tries_both, tries_all}
use Rattle.sm_cc.proofs.FirstsLemmas.{pairs_by_keys}
use Rattle.sm_cc.proofs.SettledLemmas.{settled_all}
use Rattle.sm_cc.proofs.RegroundingLemmas.{over_grown}
use Rattle.sm_cc.proofs.regrounding.round_over.Goals as goal

pub relate_alike_over-requires-clause-over : goal.relate_alike_over-requires-clause-over
relate_alike_over-requires-clause-over c =
    over_grown c.args.ground.now c.args.c.now c.relate_single.new.c c.requires.over c.in_ok-relate_single.ensures.grows

pub relate_headed_over-requires-clause-over : goal.relate_headed_over-requires-clause-over
relate_headed_over-requires-clause-over c =
    let old = c.args.c.now in
    let single = c.relate_single.new.c in
    let new = c.relate_alike_over.new.c in
    over_grown c.args.ground.now old new c.requires.over
    (grows_on old single new c.in_ok-relate_single.ensures.grows c.in_ok-relate_alike_over.ensures.grows)

pub returns : goal.returns
returns c =
    let old = c.args.c.now in
    let single = c.relate_single.new.c in
    let alike = c.relate_alike_over.new.c in
    let new = c.relate_headed_over.new.c in
    on_ok_weaker c.relate_headed_over.result
    (λ (h : Tries AreHeadedSettled alike new).
    tries_all (λ (d : Closure). AreSinglesSettled d × (AreAlikeSettled d × AreHeadedSettled d)) AreSettled old new
    (tries_both AreSinglesSettled (λ (d : Closure). AreAlikeSettled d × AreHeadedSettled d) old single new c.in_ok-relate_single.ensures
    (tries_both AreAlikeSettled AreHeadedSettled single alike new c.in_ok-relate_alike_over.ensures h))
    (λ (all : AreSinglesSettled old × (AreAlikeSettled old × AreHeadedSettled old)).
    settled_all old c.requires.sound all.0.0 all.0.1 (pairs_by_keys old all.1.0 all.1.1))) c.relate_headed_over.ensures
