-- No statement so far has a hole.
use Rattle.sm_moves.proofs.Imports.{◌≡◌, drop, End, code_of, code_before, has_hole}
use Rattle.sm_moves.proofs.holes.+has_hole.Given as goal

abbrev pub invariant-has_hole-loop-s : goal.invariant-has_hole-loop-s
invariant-has_hole-loop-s l = has_hole (code_before (drop l.s-index l.s-items) End) ≡ has_hole (code_of l.block)
