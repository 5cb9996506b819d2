-- A line behind the version line, or the version line.
use Rattle.sm_check.proofs.Imports.{Ok, refl, sym, ◌∙◌, line_of, Standing, IsAt}
use Rattle.sm_check.proofs.CheckerLemmas.{parts_at, line_barred, line_taken, version_taken, version_refused}
use Rattle.sm_check.proofs.checker.Checker.take.Goals as goal

pub returns-then-not-may_stand-clause-tells : goal.returns-then-not-may_stand-clause-tells
returns-then-not-may_stand-clause-tells c = λ s at is.
    line_barred (λ (_ : Unit {0}) (after : Standing). IsAt c.args.self.now s (Ok after)) c.args.self.now s (line_of c.args.line.now) at is
    c.if-self.true (sym c.may_stand.ensures ∙ c.if-not-may_stand.true)

pub returns-else-not-may_stand-clause-tells : goal.returns-else-not-may_stand-clause-tells
returns-else-not-may_stand-clause-tells c = λ s at is.
    line_taken c.args.self.now _ s (line_of c.args.line.now) (λ goes. goes) refl at c.take.result is c.if-self.true c.if-self.true refl
    (sym c.may_stand.ensures ∙ c.if-not-may_stand.false) c.take.ensures.sorts c.take.ensures.tells

pub returns-then-passes_version-clause-tells : goal.returns-then-passes_version-clause-tells
returns-then-passes_version-clause-tells c = λ s at is.
    version_taken c.args.self.now _ s (line_of c.args.line.now) (λ goes. goes) refl at is c.if-self.false refl c.has_exact-self.ensures refl
    (sym (c.passes_version.ensures s (sym (parts_at c.args.self.now s at is).1.assumes)) ∙ c.if-passes_version.true)

pub returns-else-passes_version-clause-tells : goal.returns-else-passes_version-clause-tells
returns-else-passes_version-clause-tells c = λ s at is.
    version_refused (λ (_ : Unit {0}) (after : Standing). IsAt c.args.self.now s (Ok after)) c.args.self.now s (line_of c.args.line.now) at is c.if-self.false
    (sym (c.passes_version.ensures s (sym (parts_at c.args.self.now s at is).1.assumes)) ∙ c.if-passes_version.false)
