use Rattle.sm_houdini.proofs.Imports.{◌≡◌, sym, ap, ◌∙◌, sort_of, declared_of, widens_twice, Choice, closing, next_round, settled, total}
use Rattle.sm_text.specs.Tasks.{parts_of}
use Rattle.sm_houdini.proofs.RoundSteps.{knows_stays}
use Rattle.sm_houdini.proofs.deciding.kept_if_small.Goals as goal

pub settled-requires-clause-knows : goal.settled-requires-clause-knows
settled-requires-clause-knows g c = λ κs within.
    knows_stays c.args.table.now c.is_small.new.table c.in_ok-is_small.ensures.widens c.args.task.now c.args.product.now c.requires.knows

pub returns-clause-kept : goal.returns-clause-kept
returns-clause-kept g c =
    let t = parts_of c.args.task.now in
    let next = next_round (closing (sort_of (declared_of c.args.task.now.shared.decls)) c.args.reach) t in (
      sym c.in_ok-is_small.ensures.small ∙ c.if-not-branch.false,
      c.in_ok-settled.ensures.settled ∙ ap (λ (x : Choice). settled next (total x) x) c.requires.full,
    )

pub returns-clause-widens : goal.returns-clause-widens
returns-clause-widens g c =
    widens_twice c.args.table.now c.is_small.new.table c.settled.new.table c.in_ok-is_small.ensures.widens
    c.in_ok-settled.ensures.widens
