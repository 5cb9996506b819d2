-- The first bodies have been copied.
use Rattle.sm_term.proofs.Imports.{◌≡◌, map, take, code_of, body_code}
use Rattle.sm_term.proofs.tails.copied_blocks.Given as goal

abbrev pub invariant-loop-body : goal.invariant-loop-body
invariant-loop-body l = map code_of l.blocks.items ≡ map body_code (take l.body-index l.bodies)
