use Rattle.sm_certify.proofs.Imports.{subst, branch_of, IsUsable}
use Rattle.sm_certify.proofs.SameLemmas.{same_by_classes}
use Rattle.sm_certify.proofs.draft.add_lines_of.Goals as goal

pub add_equation-requires-clause-same : goal.add_equation-requires-clause-same
add_equation-requires-clause-same c =
    let usable = subst (IsUsable (branch_of c.args.table.now c.args.facts.now)) c.in-Class.is c.requires.usable in
    same_by_classes c.args.classes.now c.args.table.now c.args.facts.now c.requires.whole c.requires.classes c.in-Class.t c.in-Class.u
    usable.2
