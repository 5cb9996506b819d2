-- The forms of the facts so far are there.
use Rattle.sm_exact.proofs.Imports.{take, ArePlacedForms}
use Rattle.sm_exact.proofs.placing.placed_forms.Given as goal

abbrev pub invariant-loop-fact : goal.invariant-loop-fact
invariant-loop-fact l = ArePlacedForms l.terms (take l.fact-index l.fact-items) l.forms.items
