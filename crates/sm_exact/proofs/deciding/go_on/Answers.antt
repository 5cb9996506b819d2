-- A rule puts a frame behind the others.
use Rattle.sm_exact.proofs.Imports.{subst, Applies}
use Rattle.sm_exact.proofs.TurnLemmas.{step_stands, zero_stands}
use Rattle.sm_exact.proofs.deciding.go_on.Goals as goal

pub returns-in_ok-push-in-Some : goal.returns-in_ok-push-in-Some
returns-in_ok-push-in-Some c = λ whole never stands.
    step_stands c.args.steps c.args.s c.args.frames.now.items c.push.new.self.items c.args.forms c.args.count c.in-Some.step whole
    c.in_ok-push-in-Some.ensures.items
    (subst (Applies c.args.steps c.args.s c.args.forms.items c.args.count) c.in-Some.is c.in_ok-step.ensures) never stands

pub returns-in-None : goal.returns-in-None
returns-in-None c = λ whole never stands.
    zero_stands c.args.steps c.args.s c.args.frames.now.items c.args.forms c.args.count whole
    (subst (Applies c.args.steps c.args.s c.args.forms.items c.args.count) c.in-None.is c.in_ok-step.ensures) never stands
