-- By the linear forms, and by heads with their arguments.
use Rattle.sm_cc.proofs.Imports.{on_ok_weaker, Tries, AllPairsSettled, AreAlikeSettled, AreHeadedSettled}
use Rattle.sm_cc.specs.declared.closure.Closure.{Closure}
use Rattle.sm_cc.proofs.RoundsLemmas.{tries_both, tries_all}
use Rattle.sm_cc.proofs.FirstsLemmas.{pairs_by_keys}
use Rattle.sm_cc.proofs.rounds.relate_pairs.Goals as goal

pub returns : goal.returns
returns c =
    let old = c.args.c.now in
    let mid = c.relate_alike.new.c in
    let new = c.relate_headed.new.c in
    on_ok_weaker c.relate_headed.result
    (λ (h : Tries AreHeadedSettled mid new).
    tries_all (λ (d : Closure). AreAlikeSettled d × AreHeadedSettled d) AllPairsSettled old new
    (tries_both AreAlikeSettled AreHeadedSettled old mid new c.in_ok-relate_alike.ensures h)
    (λ (both : AreAlikeSettled old × AreHeadedSettled old). pairs_by_keys old both.0 both.1)) c.relate_headed.ensures
