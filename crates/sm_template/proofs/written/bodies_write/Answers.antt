-- Copy by copy.
use Rattle.sm_syntax.specs.claim.ConflictFree.{O, A, B, M}
use Rattle.sm_template.proofs.written.bodies_write.Goals as goal

pub returns : goal.returns
returns c O = c.in_ok-base.ensures
returns c A = c.in_ok-variant_a.ensures
returns c B = c.in_ok-variant_b.ensures
returns c M = c.in_ok-candidate.ensures
