use Rattle.sm_term.proofs.Imports.{sym, ◌∙◌, nat_eq, pointwise-map, Name}
use Rattle.sm_term.proofs.term.same_names.Goals as goal

pub returns : goal.returns
returns c = c.eq.ensures ∙ sym (pointwise-map (λ (x : Name). x.0) nat_eq c.args.a.now c.args.b.now)
