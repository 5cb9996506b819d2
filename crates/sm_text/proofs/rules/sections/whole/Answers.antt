use Rattle.std.proofs.Common.{sym, ◌∙◌}
use Rattle.sm_text.specs.rules.Reading.{whole}
use Rattle.sm_text.proofs.Sound.Parsers.{to_end-ends, to_end-goes_on, to_end-fails}
use Rattle.sm_text.proofs.rules.sections.whole.Goals as goal

pub returns-in-None : goal.returns-in-None
unfolding whole
returns-in-None c = to_end-ends _ _ c.in-Ok.ensures (sym c.first.ensures ∙ c.in-None.is)

pub returns-in-Some : goal.returns-in-Some
unfolding whole
returns-in-Some c = rw c.refusal.ensures (to_end-goes_on _ _ _ c.in-Ok.ensures (sym c.first.ensures ∙ c.in-Some.is))

pub returns-in-Err : goal.returns-in-Err
unfolding whole
returns-in-Err c = to_end-fails _ _ c.in-Err.ensures
