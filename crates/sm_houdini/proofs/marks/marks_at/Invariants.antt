-- Each number so far has its mark.
use Rattle.sm_houdini.proofs.Imports.{◌≡◌, take, marked, in_share}
use Rattle.sm_houdini.proofs.marks.marks_at.Given as goal

abbrev pub invariant-loop-at : goal.invariant-loop-at
invariant-loop-at l = l.list.items ≡ marked (in_share l.shares l.share) 0 (take l.at l.numbers)
