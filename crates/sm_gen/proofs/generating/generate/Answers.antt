use Rattle.std.proofs.Common.{◌∙◌}
use Rattle.sm_gen.proofs.Spelled.{has_text}
use Rattle.sm_gen.proofs.generating.generate.Goals as goal

pub returns-clause-printable : goal.returns-clause-printable
returns-clause-printable c =
    has_text _ c.args.seed c.args.size (c.in_ok-task.ensures c.args.seed (c.deref.ensures.value ∙ c.in_ok-drawn.ensures))
    c.requires.some c.requires.most
