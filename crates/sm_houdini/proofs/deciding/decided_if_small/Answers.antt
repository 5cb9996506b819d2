use Rattle.sm_houdini.proofs.Imports.{◌≡◌, true, false, MatchOption-at_some, sort_of, declared_of, TemplateChoice, choice_in, is_small, closing, kept}
use Rattle.std.proofs.Common.{None}
use Rattle.sm_text.specs.Tasks.{parts_of}
use Rattle.sm_houdini.proofs.RoundSteps.{knows_stays}
use Rattle.sm_houdini.proofs.deciding.decided_if_small.Goals as goal

pub decided-requires-clause-knows : goal.decided-requires-clause-knows
decided-requires-clause-knows g c κs within =
    knows_stays c.args.table c.kept_if_small.new.table c.in_ok-kept.ensures.widens c.args.task.now c.args.product.now c.requires.knows

pub decided-requires-clause-kept : goal.decided-requires-clause-kept
decided-requires-clause-kept g c κs within =
    let t = parts_of c.args.task.now in
    let closes = closing (sort_of (declared_of c.args.task.now.shared.decls)) c.args.reach in
    (MatchOption-at_some (is_small t ≡ false) (λ (k : TemplateChoice). (is_small t ≡ true) × (choice_in k ≡ kept closes t)) c.in-Some.kept
    c.in-Some.is c.in_ok-kept.ensures.kept).1
