-- Keeps holds at a name that isn't declared.
use Rattle.sm_replay.proofs.Imports.{◌≡◌, Option, ap, subst, ◌∙◌, Sort, Num, Cell, variable, HaveSort}
use Rattle.std.specs.Option.{unwrap_or}
use Rattle.sm_replay.proofs.FirstBreakSound.{undeclared_kept}
use Rattle.sm_replay.proofs.first_break.break_at.Goals as goal

pub returns-in-None-clause-none : goal.returns-in-None-clause-none
returns-in-None-clause-none c =
    λ (d : Cell) (own : variable d ≡ (c.args.x.0, unwrap_or c.args.sort Num)).
    undeclared_kept c.args.ends.now c.args.x.0 (subst (HaveSort c.args.ends.now c.args.x.0) c.in-None.is c.requires) d
    (own ∙ ap (λ (o : Option Sort). (c.args.x.0, unwrap_or o Num)) c.in-None.is)
