-- The numbers so far stand behind the list, and there are none past the end.
use Rattle.sm_trim.proofs.Imports.{◌≡◌, ◌-◌, ◌≤◌, ◌++◌, max, range_with_len}
use Rattle.sm_trim.proofs.lines.push_numbers.Given as goal

abbrev pub invariant-loop-n : goal.invariant-loop-n
invariant-loop-n l = record {
  from : l.from ≤ l.n;
  end : l.n ≤ max l.from l.end;
  items : l.list.items ≡ l.fn.list.items ++ range_with_len l.from (l.n - l.from);
}
