-- So many bytes are ended lines, so many of them.
use Rattle.sm_check.proofs.Imports.{◌≡◌, ◌≤◌, ◌-◌, [], length, take, lines_in, ended_in}
use Rattle.sm_check.proofs.runs.run_of.Given as goal

abbrev pub invariant-loop-count : goal.invariant-loop-count
invariant-loop-count l = record {
  within : l.size ≤ length l.bytes;
  ended : (lines_in (take l.size l.bytes)).rest ≡ [];
  counted : l.count ≡ length (ended_in (take l.size l.bytes));
}

abbrev pub decreases-loop-count : goal.decreases-loop-count
decreases-loop-count l = l.most - l.count
