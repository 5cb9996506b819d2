use Rattle.sm_text.proofs.Imports.{◌≡◌, margin_at}
use Rattle.sm_text.proofs.printing.print.margin_at.Given as goal

abbrev pub invariant-loop-step : goal.invariant-loop-step
invariant-loop-step l = l.margin.items ≡ margin_at l.step
