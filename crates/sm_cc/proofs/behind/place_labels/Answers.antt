-- The labels are the right sides of what was found.
use Rattle.std.proofs.Common.{map, ap, ◌∙◌}
use Rattle.sm_cc.specs.declared.log.Equation.{Equation}
use Rattle.sm_cc.proofs.behind.place_labels.Goals as goal

pub returns : goal.returns
returns c = record {
  seen = c.in_ok-looked.looked;
  looked = c.in_ok-looked.ensures.looked;
  count = c.in_ok-looked.ensures.count;
  are = c.in_ok-labels.ensures ∙ ap (map (λ (e : Equation). e.right)) c.deref.ensures.value;
  exact = c.are_exact-is_exact.ensures;
}
