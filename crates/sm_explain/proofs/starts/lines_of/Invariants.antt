-- The lines of the names so far.
use Rattle.sm_explain.proofs.Imports.{take, meaning, numbered, AreStartLines}
use Rattle.sm_explain.proofs.starts.lines_of.Given as goal

abbrev pub invariant-loop-d : goal.invariant-loop-d
invariant-loop-d l = AreStartLines l.names (numbered (take l.d-index l.list)) (meaning l.input) l.text.items
