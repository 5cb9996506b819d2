use Rattle.sm_cc.proofs.Imports.{on_ok_weaker, Tries, AreSinglesSettled, AllPairsSettled, AreSettled}
use Rattle.sm_cc.specs.declared.closure.Closure.{Closure}
use Rattle.sm_cc.proofs.RoundsLemmas.{tries_both, tries_all}
use Rattle.sm_cc.proofs.SettledLemmas.{settled_all}
use Rattle.sm_cc.proofs.rounds.round.Goals as goal

pub returns : goal.returns
returns c =
    let old = c.args.c.now in
    let mid = c.relate_single.new.c in
    let new = c.relate_pairs.new.c in
    on_ok_weaker c.relate_pairs.result
    (λ (h : Tries AllPairsSettled mid new).
    tries_all (λ (d : Closure). AreSinglesSettled d × AllPairsSettled d) AreSettled old new
    (tries_both AreSinglesSettled AllPairsSettled old mid new c.in_ok-relate_single.ensures h)
    (λ (both : AreSinglesSettled old × AllPairsSettled old). settled_all old c.requires both.0.0 both.0.1 both.1)) c.relate_pairs.ensures
