use Rattle.sm_houdini.proofs.Imports.{subst, sort_of, task_of, IsFirstViolation, Reach, IsOutcome, TellsPlan}
use Rattle.sm_text.specs.Tasks.{parts_of}
use Rattle.sm_houdini.specs.declared.outcome.Outcome as program
use Rattle.sm_houdini.specs.Views.{outcome_in}
use Rattle.sm_houdini.proofs.ClosingLemmas.{ok_map}
use Rattle.sm_houdini.proofs.FoundLemmas.{comes_accepted, comes_conflict, comes_planned}
use Rattle.sm_houdini.proofs.searching.search.Goals as goal

pub returns-then-one_sided-clause-outcome : goal.returns-then-one_sided-clause-outcome
returns-then-one_sided-clause-outcome g c =
    let reach : Reach = record { steps = c.args.steps; exact = c.args.exact } in
    comes_accepted (parts_of c.args.task.now) c.in_ok-programs.programs c.in_ok-programs.ensures c.one_sided.result c.one_sided.ensures.exact
    reach c.args.turns c.if-one_sided.true

pub returns-in-Some-clause-outcome : goal.returns-in-Some-clause-outcome
returns-in-Some-clause-outcome g c =
    let t = parts_of c.args.task.now in
    let reach : Reach = record { steps = c.args.steps; exact = c.args.exact } in
    comes_conflict t c.in_ok-programs.programs c.in_ok-programs.ensures c.one_sided.result c.one_sided.ensures.exact reach c.args.turns
    c.if-one_sided.false (c.in-Some.trial, c.in-Some.verdict)
    (subst (IsFirstViolation (task_of t) (sort_of t.declared) c.args.turns) c.in-Some.is c.in_ok-trial.ensures)

pub returns-in-None-clause-outcome : goal.returns-in-None-clause-outcome
returns-in-None-clause-outcome g c =
    let t = parts_of c.args.task.now in
    let reach : Reach = record { steps = c.args.steps; exact = c.args.exact } in
    ok_map c.by_plan.result (TellsPlan t reach) (λ (o : program.Outcome). IsOutcome t reach c.args.turns (outcome_in o))
    (λ (o : program.Outcome) (h : TellsPlan t reach o).
    comes_planned t c.in_ok-programs.programs c.in_ok-programs.ensures c.one_sided.result c.one_sided.ensures.exact reach c.args.turns
    c.if-one_sided.false c.in_ok-trial.field-0 c.in-None.is c.in_ok-trial.ensures (outcome_in o) h) c.by_plan.ensures.tells
