-- The marks are those of all shares at the nodes that are shared, after the nodes that are dealt.
use denote.Param.Send.{sendable}
use Rattle.sm_houdini.proofs.Imports.{◌≡◌, ◌<◌, ℕ, ◌&&◌, List, length, get_or, sym, subst, crosses, choice_in, Marks, RoundGoalsValue, holds_at_shared, all_marked, in_share, rows, table_sync, due_sync}
use Rattle.sm_houdini.proofs.GoalJobsLemmas.{shares_tell, round_tells}
use Rattle.sm_houdini.proofs.goal_jobs.marks_by_jobs.Goals as goal

pub run_jobs-requires-sync-J : goal.run_jobs-requires-sync-J
run_jobs-requires-sync-J g c κs within = search (table_sync, due_sync, sendable, crosses) depth 40

pub returns : goal.returns
returns g c =
    let a = c.args in
    let r = a.round.now in
    let v : RoundGoalsValue =
    record {
      table = a.table.now;
      dues = r.dues.now;
      known = r.known.now;
      numbers = c.as_slice-numbers.result.now;
      owners = r.owners.now;
      choice = a.choice.now;
      reach = r.reach;
      shares = a.shares;
    } in
    let passes = holds_at_shared v in
    let choice = choice_in v.choice in
    let Told = λ (parts : List Marks). (k : ℕ) (d : Marks) → k < length parts → rows (get_or parts k d).sites.items
    ≡ all_marked (λ (s i : ℕ). in_share (length parts) k i && passes s i) 0 choice in
    let shared = c.in_ok-marks.ensures passes
    (subst Told (sym c.deref.ensures.value) (shares_tell v c.in_ok-parts.parts.items c.in_ok-parts.ensures)) in
    round_tells v c.marks_by_nodes.result (c.marks_by_nodes.ensures passes choice shared)
