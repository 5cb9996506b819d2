-- What the walk says of its proof.
use Rattle.sm_check.proofs.Imports.{ℕ, Bool, take, IfOk, subst, Sorts, certificates_of, progress_at, CloseFirst}
use Rattle.sm_check.proofs.CheckerLemmas.{parts_at, walks_at}
use Rattle.sm_check.proofs.checker.Checker.closed_first.Goals as goal

pub returns-clause-closed : goal.returns-clause-closed
returns-clause-closed g c = λ s at is.
    let p = progress_at s at in
    let parts = parts_at c.args.self.now s at is in
    let closed : Bool → Sorts → Type 0 =
    λ exact sorts.
    IfOk c.closed_first.result
    (λ (n : ℕ). CloseFirst exact sorts p.terms p.pending (take n (certificates_of c.args.certificates.now))) in
    subst (λ (exact : Bool). closed exact s.sorts) parts.3
    (subst (closed c.args.self.now.exact) parts.1.sorts (c.closed_first.ensures.closed p (walks_at c.args.self.now s at is)))
