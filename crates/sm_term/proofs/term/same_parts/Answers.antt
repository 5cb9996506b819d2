use Rattle.sm_term.proofs.Imports.{sym, ◌∙◌, nat_eq, pointwise-map}
use Rattle.sm_term.specs.declared.term.TermId.{TermId}
use Rattle.sm_term.proofs.term.same_parts.Goals as goal

pub returns : goal.returns
returns c = c.eq.ensures ∙ sym (pointwise-map (λ (t : TermId). t.0) nat_eq c.args.a.now c.args.b.now)
