-- The first place that has the key, or no key.
use Rattle.sm_cc.proofs.Imports.{◌∙◌, ap, met_at, key_told, any_two, over_at}
use Rattle.sm_cc.proofs.FirstsLemmas.{firsts_none}
use Rattle.sm_cc.proofs.LookedLemmas.{meets_any, is_met, none_met}
use Rattle.sm_cc.proofs.behind.meet_over.Goals as goal

pub returns-in_ok-first-in-Some-clause-firsts : goal.returns-in_ok-first-in-Some-clause-firsts
returns-in_ok-first-in-Some-clause-firsts c = λ key_of has before.
    let base = met_at c.args.base.now in
    meets_any key_of (over_at base (met_at c.args.met.now)) (over_at base (met_at c.first_over.new.met)) c.args.place
    c.in_ok-first-in-Some.first c.in-Some.key (has ∙ ap key_told c.in-Some.is) c.in_ok-first-in-Some.ensures.met
    c.in_ok-first-in-Some.ensures.first before

pub returns-in_ok-first-in-Some-clause-met : goal.returns-in_ok-first-in-Some-clause-met
returns-in_ok-first-in-Some-clause-met c = λ key_of has before.
    let base = met_at c.args.base.now in
    is_met key_of (over_at base (met_at c.args.met.now)) (over_at base (met_at c.first_over.new.met)) c.args.place
    c.in_ok-first-in-Some.first c.in-Some.key (has ∙ ap key_told c.in-Some.is) c.in_ok-first-in-Some.ensures.met
    c.in_ok-first-in-Some.ensures.first before

pub returns-in-None-clause-firsts : goal.returns-in-None-clause-firsts
returns-in-None-clause-firsts c = λ key_of has before.
    firsts_none key_of any_two (over_at (met_at c.args.base.now) (met_at c.args.met.now)) c.args.place
    (has ∙ ap key_told c.in-None.is) before

pub returns-in-None-clause-met : goal.returns-in-None-clause-met
returns-in-None-clause-met c = λ key_of has before. none_met key_of c.args.place (has ∙ ap key_told c.in-None.is)
