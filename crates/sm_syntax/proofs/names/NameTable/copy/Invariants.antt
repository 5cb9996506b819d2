use Rattle.std.proofs.Common.{◌≡◌, map, take, string_bytes}
use Rattle.sm_syntax.proofs.names.NameTable.copy.Given as goal

abbrev pub invariant-loop-text : goal.invariant-loop-text
invariant-loop-text l = l.copy ≡ map string_bytes (take l.text-index l.text-items)
