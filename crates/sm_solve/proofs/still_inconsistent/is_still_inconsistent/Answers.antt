use Rattle.sm_solve.proofs.Imports.{ℕ, List, length, ap, sym, subst, ◌∙◌, Fits, Linear, trees_in, sorts_in, with_parts, branch_of, seen_by, all_numbered, assertions_in, IsInconsistentBy, by_forms}
use Rattle.sm_solve.proofs.InconsistentLemmas.{closed_walks, closed_below, sums_later}
use Rattle.sm_solve.proofs.still_inconsistent.is_still_inconsistent.Goals as goal

pub returns-in-Classes-clause-closes : goal.returns-in-Classes-clause-closes
returns-in-Classes-clause-closes c = λ first given reach go same is below inconsistent.
    let table = c.args.branch.now.table.now in
    let all = assertions_in (sorts_in table) (trees_in table) (all_numbered c.args.branch.now.facts.now) in
    let steps = c.args.inconsistent.now.steps in
    let closed = subst (IsInconsistentBy steps (seen_by (sorts_in table) first (with_parts given))) c.in-Classes.is is.by in (
      1,
      closed_walks go reach (branch_of table c.args.branch.now.facts.now)
          (closed_below (sorts_in table) first (trees_in table) (with_parts given) all below closed),
    )

pub returns-in-Forms-clause-closes : goal.returns-in-Forms-clause-closes
returns-in-Forms-clause-closes c = λ first given reach go same is below.
    let table = c.args.branch.now.table.now in
    let trees = trees_in table in
    let count = c.in-Forms._count in
    let known = c.in-Forms.known.items in
    let by = subst (λ (n : ℕ). IsInconsistentBy n (seen_by (sorts_in table) first (with_parts given)) c.args.inconsistent.now.by) (sym same) is.by in
    let told = subst (IsInconsistentBy reach.steps (seen_by (sorts_in table) first (with_parts given))) c.in-Forms.is by in
    let sums = sums_later reach.steps count first trees (Fits known) below.longer told.1 in
    c.is_inconsistent_by_forms.ensures.closes reach count go
    (λ next. ap (λ (fs : List (Linear ℕ)). by_forms reach.steps 1 (length trees) (Fits fs) next) c.deref.ensures.value ∙ sums next)
