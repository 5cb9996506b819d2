-- By the constants, then by the parts.
use Rattle.sm_judge.proofs.TornLemmas.{one_constant, two_constants}
use Rattle.sm_judge.proofs.torn.do_differ.Goals as goal

pub returns-then-have_other_constants : goal.returns-then-have_other_constants
returns-then-have_other_constants c = λ trees h i first second.
    two_constants trees c.args.f.now c.args.g.now h i first second c.have_other_constants.result c.have_same_parts.result
    c.have_other_constants.ensures c.if-have_other_constants.true c.have_same_parts.ensures

pub returns-else-have_other_constants : goal.returns-else-have_other_constants
returns-else-have_other_constants c = λ trees h i first second.
    one_constant trees c.args.f.now c.args.g.now h i first second c.have_other_constants.result c.have_other_constants.ensures
    c.if-have_other_constants.false
