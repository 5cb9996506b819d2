-- The openings so far are of what is pending first.
use Rattle.sm_check.proofs.Imports.{◌≤◌, length, take, reverse, trees_in, sorts_in, Progress, Walks}
use Rattle.sm_check.proofs.JobsLemmas.{OpensUpTo}
use Rattle.sm_check.proofs.openings.openings.Given as goal

abbrev pub invariant-loop-place : goal.invariant-loop-place
invariant-loop-place l = record {
  within : l.place ≤ length l.walk-inside.waiting.items;
  opens :
      (p : Progress) (w : Walks l.walk p) →
      OpensUpTo (sorts_in l.walk.table) (trees_in l.walk.table) w.pending.facts l.list.items
      (reverse (take l.place l.walk-inside.waiting.items)) p.pending;
}

abbrev pub decreases-loop-place : goal.decreases-loop-place
decreases-loop-place l = l.place
