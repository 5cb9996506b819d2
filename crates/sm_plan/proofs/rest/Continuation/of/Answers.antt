-- The block before nothing is the block.
use Rattle.sm_plan.proofs.Imports.{ap, ◌∙◌, append, code_of, append-End}
use Rattle.sm_plan.proofs.rest.Continuation.of.Goals as goal

pub returns : goal.returns
returns c = c.in_ok-put_before.ensures ∙ ap (append (code_of c.args.block.now)) c.empty-rest.ensures ∙ append-End (code_of c.args.block.now)
