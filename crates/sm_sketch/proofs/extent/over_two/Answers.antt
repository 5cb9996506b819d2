-- One node more than the sketches beside one another have.
use Rattle.sm_sketch.proofs.Imports.{◌≡◌, ◌+◌, ℕ, max, subst, arith, rules, TellsExtent}
use Rattle.std.specs.Prelude.{IfOk, IfErr}
use Rattle.sm_sketch.proofs.ExtentsLemmas.{err_extent, tells_more}
use Rattle.sm_sketch.proofs.extent.over_two.Goals as goal

pub returns-in_err-below-clause-err : goal.returns-in_err-below-clause-err
returns-in_err-below-clause-err c =
    let e = c.in_err-below.field-0.0 in
    let n = c.args.one.nodes + c.args.other.nodes in
    let b = max c.args.one.branches c.args.other.branches in
    err_extent c.from_residual.result e (n + 1) (b + 1) (search rules)
    (tells_more e n b (n + 1) (b + 1) (omega arith) (omega arith) c.in_err-below.ensures.err)

pub returns-clause-nodes : goal.returns-clause-nodes
returns-clause-nodes c =
    subst (λ (n : ℕ). IfOk c.with_branching.result (λ e. e.nodes ≡ n + 1)) c.in_ok-below.ensures.nodes c.with_branching.ensures.nodes

pub returns-clause-branches : goal.returns-clause-branches
returns-clause-branches c =
    subst (λ (n : ℕ). IfOk c.with_branching.result (λ e. e.branches ≡ n + 1)) c.in_ok-below.ensures.branches
    c.with_branching.ensures.branches

pub returns-clause-err : goal.returns-clause-err
returns-clause-err c =
    let r = c.with_branching.result in
    subst (λ (n : ℕ). IfErr r (λ e. TellsExtent e (n + 1) (max c.args.one.branches c.args.other.branches + 1))) c.in_ok-below.ensures.nodes
    (subst (λ (n : ℕ). IfErr r (λ e. TellsExtent e (c.in_ok-below.below.nodes + 1) (n + 1))) c.in_ok-below.ensures.branches
    c.with_branching.ensures.err)
