-- A stopped checker answers its fault again; another one takes the line.
use Rattle.sm_check.proofs.Imports.{Ok, Err, refl, sym, ap, ◌∙◌, same_Some, line_of, Standing, next_standing, IsAt}
use Rattle.sm_check.proofs.CheckerLemmas.{parts_at, stopped_is, both_ways, goes_told, stops_told}
use Rattle.sm_check.proofs.checker.Checker.line.Goals as goal

pub returns-in-Some-clause-err : goal.returns-in-Some-clause-err
returns-in-Some-clause-err c = λ s at is.
    let goes = (parts_at c.args.self.now s at is).0 in
    let stops = c.in-Some.is in
    absurd cc

pub returns-in-Some-clause-stopped : goal.returns-in-Some-clause-stopped
returns-in-Some-clause-stopped c = λ s e is.
    (ap Err (same_Some c.in-Some.fault e (sym c.in-Some.is ∙ stopped_is c.args.self.now s e is)), is)

pub returns-in-Ok-clause-ok : goal.returns-in-Ok-clause-ok
returns-in-Ok-clause-ok c = λ s at is.
    goes_told _ _ s (next_standing s at (Ok (line_of c.args.line.now))) c.state.result (c.in-Ok.ensures.tells s at is) refl
    (λ next there. c.state.ensures s next there)

pub returns-in-Ok-clause-stopped : goal.returns-in-Ok-clause-stopped
returns-in-Ok-clause-stopped c = λ s e is. absurd (both_ways c.args.self.now s e c.in_default.is is)

pub returns-in-Err-clause-err : goal.returns-in-Err-clause-err
returns-in-Err-clause-err c = λ s at is.
    stops_told (λ (_ : Unit {0}) (after : Standing). IsAt c.take.new.self s (Ok after)) _ s (next_standing s at (Ok (line_of c.args.line.now))) c.in-Err.fault (c.in-Err.ensures.tells s at is) refl

pub returns-in-Err-clause-stopped : goal.returns-in-Err-clause-stopped
returns-in-Err-clause-stopped c = λ s e is. absurd (both_ways c.args.self.now s e c.in_default.is is)
