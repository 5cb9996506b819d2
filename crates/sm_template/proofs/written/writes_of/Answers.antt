-- Copy by copy.
use Rattle.sm_syntax.specs.claim.ConflictFree.{O, A, B, M}
use Rattle.sm_template.proofs.written.writes_of.Goals as goal

pub returns : goal.returns
returns c O = c.in_ok-base.ensures.names
returns c A = c.in_ok-variant_a.ensures.names
returns c B = c.in_ok-variant_b.ensures.names
returns c M = c.in_ok-candidate.ensures.names
