-- The certificates whose jobs answer true close the first branches.
use denote.Param.Send.{sendable}
use Rattle.sm_check.proofs.Imports.{◌≡◌, ◌<◌, ◌≤◌, ℕ, Bool, true, List, Some, length, take, subst, arith, slice_index_or, trees_in, sorts_in, TermId, Tree, Opening, certificates_of, CloseFirst, WalkValue, terms_in}
use Rattle.std.proofs.Crossing.{crosses}
use Rattle.std.specs.List.{slice_get}
use Rattle.sm_term.proofs.term.TermId.TheSendSync as id
use Rattle.sm_check.proofs.JobsLemmas.{Answered, each_before, answered_close}
use Rattle.sm_check.proofs.SharedLemmas.{table_sync, branch_sync, opening_sync, raw_sync}
use Rattle.sm_check.proofs.jobs.closed_first.Goals as goal

pub invariant_of-job-clause-before : goal.invariant_of-job-clause-before
invariant_of-job-clause-before g c = λ k t is.
    let i = c.walk.inside in
    each_before (length (trees_in i.table)) i.terms.items c.walk.invariant.named k t
    (subst (λ (ts : List TermId). slice_get ts k ≡ Some t) c.deref.ensures.value is)

pub run_jobs-requires-sync-J : goal.run_jobs-requires-sync-J
run_jobs-requires-sync-J g c κs within =
    search (table_sync, branch_sync, opening_sync, raw_sync, id.the_field_sync, sendable, crosses) depth 40

pub returns-clause-closed : goal.returns-clause-closed
returns-clause-closed g c = λ p walks.
    let v : WalkValue = c.args.walk.now in
    let i = c.walk.inside in
    let h = walks.pending in
    let cs = c.args.certificates.now in
    let os = c.in_ok-openings.openings.items in
    let n = c.min-count.result in
    let rs = c.in_ok-closed.closed.items in
    let exact = c.args.exact in
    let inside : Answered exact (sorts_in i.table) (trees_in i.table) (terms_in (trees_in i.table) i.terms.items) i.path.list.items os cs n
    rs =
    subst
    (λ (xs : List Opening).
    Answered exact (sorts_in i.table) (trees_in i.table) (terms_in (trees_in i.table) i.terms.items) i.path.list.items xs cs n rs)
    c.deref-2.ensures.value
    (subst
    (λ (ts : List TermId).
    Answered exact (sorts_in i.table) (trees_in i.table) (terms_in (trees_in i.table) ts) i.path.list.items c.deref-2.result.now cs n rs)
    c.deref.ensures.value c.in_ok-closed.ensures) in
    let answers : Answered exact (sorts_in v.table) (trees_in v.table) (terms_in (trees_in v.table) v.terms) v.path os cs n rs =
    subst (λ (x : WalkValue). Answered exact (sorts_in x.table) (trees_in x.table) (terms_in (trees_in x.table) x.terms) x.path os cs n rs)
    c.walk.view_is inside in
    let few : c.leading.result ≤ length rs =
    subst (λ (xs : List Bool). c.leading.result ≤ length xs) c.deref-3.ensures.value c.leading.ensures.few in
    let lead : (k : ℕ) (d : Bool) → k < c.leading.result → slice_index_or rs k d ≡ true =
    subst (λ (xs : List Bool). (k : ℕ) (d : Bool) → k < c.leading.result → slice_index_or xs k d ≡ true) c.deref-3.ensures.value
    c.leading.ensures.all in
    let enough : n ≤ length os = omega (arith, c.min-count.ensures, c.len.ensures, c.in_ok-openings.openings.ok.0) in
    let there : n ≤ length cs = omega (arith, c.min-count.ensures) in
    subst (λ (ts : List Tree). CloseFirst exact (sorts_in v.table) ts p.pending (take c.leading.result (certificates_of cs))) walks.terms
    (answered_close exact (sorts_in v.table) (trees_in v.table) (terms_in (trees_in v.table) v.terms) v.path h.facts h.stand h.sorted os cs
    p.pending n c.leading.result rs (c.in_ok-openings.ensures p walks) enough there answers few lead)
