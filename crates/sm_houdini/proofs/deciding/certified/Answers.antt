use Rattle.sm_houdini.proofs.Imports.{List, [], sym, ap, ◌∙◌, subst, sort_of, task_of, trees_in, sorts_in, obligations, widens_twice, plan_in, AreDuesReady, walk, closing, asked, AreInsideClosed, AreCollected, FinalCloses}
use Rattle.sm_text.specs.Tasks.{parts_of}
use Rattle.sm_expand.specs.declared.due.Due as program
use Rattle.sm_expand.specs.Views.{dues_in}
use Rattle.sm_houdini.proofs.EndedLemmas.{dues_told, inside_closed, ended_stops, ended_accepts, none_collected, final_stop, final_close}
use Rattle.sm_houdini.proofs.KeptLemmas.{kept_expands}
use Rattle.sm_houdini.proofs.deciding.certified.Goals as goal

pub end_all-requires-clause-ready : goal.end_all-requires-clause-ready
end_all-requires-clause-ready g c κs within =
    let w = c.asked_by.new.table in
    subst (AreDuesReady (sorts_in w) (trees_in w)) (sym c.deref.ensures.value) c.in_ok-dues.ensures.ready

pub end_all-requires-clause-inside : goal.end_all-requires-clause-inside
end_all-requires-clause-inside g c κs within =
    let v = c.args.table.now in
    let w = c.asked_by.new.table in
    let k = c.requires.knows in
    let t = parts_of c.args.task.now in
    let all = kept_expands (closing (sort_of t.declared) c.args.reach) t c.requires.searchable c.requires.small in
    let p = plan_in (sorts_in v) (trees_in v) c.args.plan.now in
    let told = dues_told (obligations (task_of t) p) all.0 (dues_in (sorts_in w) (trees_in w) c.in_ok-dues.dues.list.items)
    (ap (obligations (task_of t)) c.requires.made ∙ all.1) c.in_ok-dues.ensures.dues in
    record {
      closes = subst (λ (ds : List program.Due). AreInsideClosed (walk (sorts_in w) c.args.reach) (dues_in (sorts_in w) (trees_in w) ds))
          (sym c.deref.ensures.value)
          (inside_closed t c.args.reach (sorts_in w) (dues_in (sorts_in w) (trees_in w) c.in_ok-dues.dues.list.items)
          (c.in_ok-dues.ensures.widens.sorts ∙ k.declared) (ap (obligations (task_of t)) (sym c.requires.made) ∙ told));
    }

pub returns-in-Some-clause-ends : goal.returns-in-Some-clause-ends
returns-in-Some-clause-ends g c =
    let v = c.args.table.now in
    let w = c.asked_by.new.table in
    let k = c.requires.knows in
    let t = parts_of c.args.task.now in
    let all = kept_expands (closing (sort_of t.declared) c.args.reach) t c.requires.searchable c.requires.small in
    let p = plan_in (sorts_in v) (trees_in v) c.args.plan.now in
    let same = ap (dues_in (sorts_in w) (trees_in w)) c.deref.ensures.value in
    let ds = dues_in (sorts_in w) (trees_in w) c.deref.result.now in
    let told = dues_told (obligations (task_of t) p) all.0 ds (ap (obligations (task_of t)) c.requires.made ∙ all.1)
    (same ∙ c.in_ok-dues.ensures.dues) in
    let by = walk (sorts_in w) c.args.reach in
    let closed = FinalCloses by ds × AreCollected c.end_all.new.table (asked ds) c.end_all.new.trees.items in
    ended_stops t c.args.reach (sorts_in w) ds c.in-Some.stop (c.in_ok-dues.ensures.widens.sorts ∙ k.declared) c.requires.small
    (ap (obligations (task_of t)) (sym c.requires.made) ∙ told)
    (final_stop closed by ds c.in_ok-stop.field-0 c.in-Some.stop c.in-Some.is
    (c.in_ok-stop.ensures.ends (subst (AreCollected w []) (sym c.new-list.ensures.items) (none_collected w))))

pub returns-clause-ends : goal.returns-clause-ends
returns-clause-ends g c =
    let v = c.args.table.now in
    let w = c.asked_by.new.table in
    let x = c.end_all.new.table in
    let k = c.requires.knows in
    let t = parts_of c.args.task.now in
    let all = kept_expands (closing (sort_of t.declared) c.args.reach) t c.requires.searchable c.requires.small in
    let p = plan_in (sorts_in v) (trees_in v) c.args.plan.now in
    let same = ap (dues_in (sorts_in w) (trees_in w)) c.deref.ensures.value in
    let ds = dues_in (sorts_in w) (trees_in w) c.deref.result.now in
    let told = dues_told (obligations (task_of t) p) all.0 ds (ap (obligations (task_of t)) c.requires.made ∙ all.1)
    (same ∙ c.in_ok-dues.ensures.dues) in
    let by = walk (sorts_in w) c.args.reach in
    let closed = FinalCloses by ds × AreCollected c.end_all.new.table (asked ds) c.end_all.new.trees.items in
    let end = final_close closed by ds c.in_ok-stop.field-0 c.in-None.is
    (c.in_ok-stop.ensures.ends (subst (AreCollected w []) (sym c.new-list.ensures.items) (none_collected w))) in
    ended_accepts t c.args.reach v x (widens_twice v w x c.in_ok-dues.ensures.widens c.in_ok-stop.ensures.widens) c.args.plan.now _
    (sorts_in w) ds k.declared (c.in_ok-dues.ensures.widens.sorts ∙ k.declared) k.numbered k.sorted c.requires.small c.requires.ready
    c.requires.made (ap (obligations (task_of t)) (sym c.requires.made) ∙ told) end.0 end.1

pub returns-in_err-stop-clause-widens : goal.returns-in_err-stop-clause-widens
returns-in_err-stop-clause-widens g c =
    widens_twice c.args.table.now c.asked_by.new.table c.end_all.new.table c.in_ok-dues.ensures.widens c.in_err-stop.ensures.widens

pub returns-in-Some-clause-widens : goal.returns-in-Some-clause-widens
returns-in-Some-clause-widens g c =
    widens_twice c.args.table.now c.asked_by.new.table c.end_all.new.table c.in_ok-dues.ensures.widens c.in_ok-stop.ensures.widens

pub returns-clause-widens : goal.returns-clause-widens
returns-clause-widens g c =
    widens_twice c.args.table.now c.asked_by.new.table c.end_all.new.table c.in_ok-dues.ensures.widens c.in_ok-stop.ensures.widens
