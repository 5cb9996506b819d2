-- The first place that has the key, or no key.
use Rattle.sm_cc.proofs.Imports.{◌∙◌, ap, on_ok_weaker, Tries, met_at, key_told, IsPairThere}
use Rattle.sm_cc.proofs.FirstsLemmas.{tried_first, tried_none}
use Rattle.sm_cc.proofs.rounds.relate_first.Goals as goal

pub returns-in_ok-j-in-Some : goal.returns-in_ok-j-in-Some
returns-in_ok-j-in-Some c = λ key_of bring has.
    let old = c.args.c.now in
    let new = c.relate_rows_there.new.c in
    on_ok_weaker c.relate_rows_there.result
    (λ (h : Tries (IsPairThere c.args.i c.in_ok-j-in-Some.j) old new).
    tried_first key_of old new (met_at c.args.met.now) (met_at c.first_place.new.met) c.args.i c.in_ok-j-in-Some.j c.in-Some.key
    c.requires.there bring (has ∙ ap key_told c.in-Some.is) c.in_ok-j-in-Some.ensures.met c.in_ok-j-in-Some.ensures.first h)
    c.relate_rows_there.ensures

pub returns-in-None : goal.returns-in-None
returns-in-None c = λ key_of bring has.
    tried_none key_of c.args.c.now (met_at c.args.met.now) c.args.i c.requires.sound (has ∙ ap key_told c.in-None.is)
