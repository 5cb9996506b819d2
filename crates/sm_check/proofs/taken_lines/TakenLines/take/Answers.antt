-- The line is taken behind all that is set aside, or set aside itself.
use Rattle.sm_check.proofs.Imports.{◌++◌, ◌∷◌, [], StopsAt, lines_aside, with_line}
use Rattle.sm_check.proofs.AsideLemmas.{set_aside, stopped_before}
use Rattle.sm_check.proofs.AsideSteps.{behind_refused, behind_taken, emptied_comes, same_aside}
use Rattle.sm_check.proofs.PieceLemmas.{err_is}
use Rattle.sm_check.proofs.taken_lines.TakenLines.take.Goals as goal

pub returns-in_err-take_aside-clause-err : goal.returns-in_err-take_aside-clause-err
returns-in_err-take_aside-clause-err g c = λ s r t.
    let line = c.args.line.now in
    let stopped = c.in_err-take_aside.field-0.0 in
    err_is (StopsAt (with_line s line r)) c.from_residual.result stopped c.from_residual.ensures.1
    (stopped_before s r line stopped
    (c.in_err-take_aside.ensures.err s r (same_aside c.args.self.now (lines_aside c.args.aside.now) _ s r c.may_wait.ensures t)))

pub returns-then-not-may_wait-clause-ok : goal.returns-then-not-may_wait-clause-ok
returns-then-not-may_wait-clause-ok g c = λ s r t.
    let all = c.in_ok-take_aside.ensures.ok s r
    (same_aside c.args.self.now (lines_aside c.args.aside.now) _ s r c.may_wait.ensures t) in
    behind_taken c.check.result c.take_aside.new.self c.check.new.self (lines_aside c.take_aside.new.aside) s r
    c.args.line.now c.in_ok-take_aside.ensures.none all c.check.ensures.number (c.check.ensures.ok s all.at all.stands)

pub returns-then-not-may_wait-clause-err : goal.returns-then-not-may_wait-clause-err
returns-then-not-may_wait-clause-err g c = λ s r t.
    let all = c.in_ok-take_aside.ensures.ok s r
    (same_aside c.args.self.now (lines_aside c.args.aside.now) _ s r c.may_wait.ensures t) in
    behind_refused c.check.result c.take_aside.new.self s r c.args.line.now all (c.check.ensures.err s all.at all.stands)

pub returns-then-is_full-clause-ok : goal.returns-then-is_full-clause-ok
returns-then-is_full-clause-ok g c = λ s r t.
    let line = c.args.line.now in
    let aside = lines_aside c.may_wait.new.aside in
    let was = same_aside c.args.self.now (lines_aside c.args.aside.now) aside s r c.may_wait.ensures t in
    let pushed = same_aside c.args.self.now (aside ++ line ∷ []) (lines_aside c.push.new.self) s (with_line s line r)
    c.in_ok-push.ensures (set_aside c.args.self.now aside s r line was) in
    emptied_comes c.take_aside-then-is_full.result c.take_aside-then-is_full.new.self (lines_aside c.take_aside-then-is_full.new.aside) s
    (with_line s line r) c.take_aside-then-is_full.ensures.none
    (c.take_aside-then-is_full.ensures.ok s (with_line s line r) pushed)

pub returns-then-is_full-clause-err : goal.returns-then-is_full-clause-err
returns-then-is_full-clause-err g c = λ s r t.
    let line = c.args.line.now in
    let aside = lines_aside c.may_wait.new.aside in
    let was = same_aside c.args.self.now (lines_aside c.args.aside.now) aside s r c.may_wait.ensures t in
    c.take_aside-then-is_full.ensures.err s (with_line s line r)
    (same_aside c.args.self.now (aside ++ line ∷ []) (lines_aside c.push.new.self) s (with_line s line r) c.in_ok-push.ensures
    (set_aside c.args.self.now aside s r line was))

pub returns-clause-ok : goal.returns-clause-ok
returns-clause-ok g c = λ s r t.
    let line = c.args.line.now in
    let aside = lines_aside c.may_wait.new.aside in
    let was = same_aside c.args.self.now (lines_aside c.args.aside.now) aside s r c.may_wait.ensures t in
    same_aside c.args.self.now (aside ++ line ∷ []) (lines_aside c.push.new.self) s (with_line s line r) c.in_ok-push.ensures
    (set_aside c.args.self.now aside s r line was)
