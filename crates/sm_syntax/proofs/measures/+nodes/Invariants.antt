use Rattle.sm_syntax.proofs.Imports.{◌≡◌, ◌+◌, ◌-◌, ◌^◌, ◌≤◌, map, drop, min, code_nodes, End, sequence, statement_of, code_of}
use Rattle.sm_syntax.proofs.measures.+nodes.Given as goal

abbrev pub invariant-nodes-loop-s : goal.invariant-nodes-loop-s
invariant-nodes-loop-s l = record {
  small : l.sum ≤ 2 ^ 64 - 1;
  counted : min (code_nodes (code_of l.b)) (2 ^ 64 - 1) ≡ min (l.sum + code_nodes (sequence (map statement_of (drop l.s-index l.s-items)) End)) (2 ^ 64 - 1);
}
