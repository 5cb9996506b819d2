-- Of the lines so far it is told whether they are left.
use Rattle.sm_prune.proofs.Imports.{length, IsTelling}
use Rattle.sm_prune.proofs.told.tell_each.Given as goal

abbrev pub invariant-loop-line : goal.invariant-loop-line
invariant-loop-line l = IsTelling l.initial.before.items l.before.items l.told.items l.terms.items l.forms.items

abbrev pub decreases-loop-line : goal.decreases-loop-line
decreases-loop-line l = length l.before.items
