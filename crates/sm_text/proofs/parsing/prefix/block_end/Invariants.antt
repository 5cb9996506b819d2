-- After each token so far more curly braces open than close, and the depth is how many more.
use Rattle.sm_text.proofs.Imports.{◌≡◌, ◌+◌, ◌<◌, ◌≤◌, ℕ, take, OpenCurly, CloseCurly, many}
use Rattle.sm_text.proofs.parsing.prefix.block_end.Given as goal

abbrev pub invariant-loop-index : goal.invariant-loop-index
invariant-loop-index l = record {
  inside : (k : ℕ) → 0 < k → k ≤ l.index → many l.bytes CloseCurly (take k l.tokens) < many l.bytes OpenCurly (take k l.tokens);
  depth_is : l.depth + many l.bytes CloseCurly (take l.index l.tokens) ≡ many l.bytes OpenCurly (take l.index l.tokens);
}
