use Rattle.std.proofs.Common.{sym, ◌∙◌}
use Rattle.sm_cc.proofs.WitnessLemmas.{not_apart}
use Rattle.sm_cc.proofs.witness.find_witness.Goals as goal

pub returns-else-may_be_apart : goal.returns-else-may_be_apart
returns-else-may_be_apart c =
    not_apart c.args.c.now c.args.i c.args.j (sym c.may_be_apart.ensures ∙ c.if-may_be_apart.false)
