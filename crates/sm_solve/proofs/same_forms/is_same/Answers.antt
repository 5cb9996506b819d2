-- Forms are told by their parts, constants and kinds.
use Rattle.std.proofs.Common.{rules}
use Rattle.sm_solve.proofs.InconsistentLemmas.{same_linear}
use Rattle.sm_solve.proofs.same_forms.is_same.Goals as goal

pub returns : goal.returns
returns c = λ same.
    same_linear c.args.f.now c.args.g.now (c.have_same_parts.ensures.0 same) (search rules) (c.have_one_kind.ensures c.if-not-have_one_kind.false)
