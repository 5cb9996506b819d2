use Rattle.sm_euf.proofs.Imports.{sym, ◌∙◌, nat_eq, Name}
use Rattle.std.specs.Cmp.Derive.Mapped.{pointwise-map}
use Rattle.sm_euf.proofs.arguments.same_names.Goals as goal

-- names are compared by their numbers
pub returns : goal.returns
returns c = c.eq.ensures ∙ sym (pointwise-map (λ (x : Name). x.0) nat_eq c.args.a.now c.args.b.now)
