-- The marks are those after all jobs.
use denote.Param.Send.{sendable}
use Rattle.sm_houdini.proofs.Imports.{◌≡◌, ◌<◌, ℕ, ◌&&◌, List, length, get_or, sym, ap, ◌∙◌, subst, crosses, Marks, all_marked, rows, NodeGoalsValue, holds_in_job, table_sync, due_sync}
use Rattle.std.proofs.Common.{Some}
use Rattle.sm_houdini.proofs.ClosingLemmas.{ok_map}
use Rattle.sm_houdini.proofs.GoalJobsLemmas.{jobs_told, jobs_tell}
use Rattle.sm_houdini.proofs.node_jobs.marks_by_nodes.Goals as goal

pub run_jobs-requires-sync-J : goal.run_jobs-requires-sync-J
run_jobs-requires-sync-J g c κs within = search (table_sync, due_sync, sendable, crosses) depth 40

pub returns : goal.returns
returns g c = λ passes choice e.
    let a = c.args in
    let r = a.round.now in
    let v : NodeGoalsValue =
    record {
      table = a.table.now;
      dues = r.dues.now;
      known = r.known.now;
      numbers = a.numbers.now;
      owners = r.owners.now;
      marks = a.marks.now;
      reach = r.reach;
      jobs = a.jobs;
    } in
    let told = λ (k s i : ℕ). passes s i && holds_in_job v (Some k) s i in
    let Told = λ (parts : List Marks). (k : ℕ) (d : Marks) → k < length parts → rows (get_or parts k d).sites.items
    ≡ all_marked (told k) 0 choice in
    let count = ap (λ (parts : List Marks). length parts) c.deref.ensures.value ∙ c.in_ok-parts.ensures.all in
    ok_map c.all_parts.result _ _
    (λ ms made. jobs_tell v passes choice (length c.deref.result.now) count (rows ms.sites.items) made)
    (c.all_parts.ensures passes told choice e
    (subst Told (sym c.deref.ensures.value) (jobs_told v c.in_ok-parts.parts.items c.in_ok-parts.ensures passes choice e)))
