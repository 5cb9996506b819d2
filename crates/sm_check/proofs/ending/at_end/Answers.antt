use Rattle.sm_check.proofs.Imports.{◌∙◌, sym, ap, verdict_of}
use Rattle.sm_check.proofs.EndLemmas.{done_passes, undone_is_bad, unended_is_bad}
use Rattle.sm_check.proofs.ending.at_end.Goals as goal

pub returns-then-not-ends_whole : goal.returns-then-not-ends_whole
returns-then-not-ends_whole c = λ s bytes t ends.
    let is = c.if-not-ends_whole.true in
    unended_is_bad _ s bytes t (λ none. let full = ends.1 none in absurd (cc)) ∙ sym (ap verdict_of c.missing.ensures)

pub returns-in-Done : goal.returns-in-Done
returns-in-Done c = λ s bytes t ends.
    let is = c.if-not-ends_whole.false in
    done_passes _ s bytes t (ends.0 is) c.in-Done.is

pub returns-in-More : goal.returns-in-More
returns-in-More c = λ s bytes t ends.
    let is = c.if-not-ends_whole.false in
    undone_is_bad _ s bytes t (ends.0 is) c.in-More.is ∙ sym (ap verdict_of c.missing-in-More.ensures)
