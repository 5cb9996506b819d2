-- The contrary of a formula.
use Rattle.sm_plan.proofs.Imports.{◌≡◌, Bool, if◌then◌else◌, List, sym, ap, ◌∙◌, IfOk-weaker, Sorts, Assertion, negate, numbered, assertion_in, Formula, Tree, IsFormReady}
use Rattle.sm_term.specs.Formulas.{contrary}
use Rattle.sm_plan.proofs.TurnedLemmas.{contrary_made, contrary_ready}
use Rattle.sm_plan.proofs.heads.fact.Goals as goal

pub returns-else-is_true-clause-made : goal.returns-else-is_true-clause-made
returns-else-is_true-clause-made c = λ (sorts : Sorts) (trees : List Tree).
    let f : Formula = c.args.f.now in
    let form : Assertion = assertion_in sorts trees (numbered f) in
    IfOk-weaker c.negate.result (λ (g : Formula). numbered g ≡ contrary (numbered f))
    (λ (g : Formula). assertion_in sorts trees (numbered g) ≡ (if c.args.is_true then form else negate form))
    (λ (g : Formula) (e : numbered g ≡ contrary (numbered f)).
    contrary_made sorts trees f g e ∙ sym (ap (λ (b : Bool). if b then form else negate form) c.if-is_true.false)) c.negate.ensures

pub returns-else-is_true-clause-ready : goal.returns-else-is_true-clause-ready
returns-else-is_true-clause-ready c = λ (sorts : Sorts) (trees : List Tree) (ready : IsFormReady sorts trees c.args.f.now).
    let f : Formula = c.args.f.now in
    IfOk-weaker c.negate.result (λ (g : Formula). numbered g ≡ contrary (numbered f)) (λ (g : Formula). IsFormReady sorts trees g)
    (λ (g : Formula) (e : numbered g ≡ contrary (numbered f)). contrary_ready sorts trees f g e ready) c.negate.ensures
