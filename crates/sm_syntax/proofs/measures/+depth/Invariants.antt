use Rattle.sm_syntax.proofs.Imports.{◌≡◌, ◌-◌, ◌^◌, ◌≤◌, map, drop, max, min, code_depth, End, sequence, statement_of, code_of}
use Rattle.sm_syntax.proofs.measures.+depth.Given as goal

abbrev pub invariant-depth-loop-s : goal.invariant-depth-loop-s
invariant-depth-loop-s l = record {
  small : l.most ≤ 2 ^ 64 - 1;
  counted : min (code_depth (code_of l.b)) (2 ^ 64 - 1) ≡ min (max l.most (code_depth (sequence (map statement_of (drop l.s-index l.s-items)) End))) (2 ^ 64 - 1);
}
