-- The answer is the end of the run with the job's number.
use Rattle.sm_houdini.proofs.Imports.{ℕ, ◌<◌, ◌*◌, ◌%◌, length, get_or, div-lt_iff_lt-mul, sym, subst, trees_in, sorts_in, AreFormsReady, PlanEndsValue, IsPartEnd, TellsEnd, facts_at}
use Rattle.sm_expand.specs.declared.due.Due.{Due}
use Rattle.sm_houdini.proofs.ClosingLemmas.{ok_map}
use Rattle.sm_houdini.proofs.LoopLemmas.{get_any}
use Rattle.sm_houdini.proofs.run_ends.PlanEndsJob.run.Goals as goal

pub dealt-requires : goal.dealt-requires
dealt-requires c =
    let i = c.self.inside in
    let there : c.args.index < i.count = subst (λ (x : PlanEndsValue). c.args.index < x.count) (sym c.self.view_is) c.requires in
    let all : c.args.index < length i.dues.now * i.each = subst (λ n. c.args.index < n) c.self.invariant.2 there in
    (div-lt_iff_lt-mul c.self.invariant.1).1 all

pub run_end-requires-clause-facts : goal.run_end-requires-clause-facts
run_end-requires-clause-facts c =
    let i = c.self.inside in
    let sorts = sorts_in i.table.now in
    let trees = trees_in i.table.now in
    subst (λ (d : Due). AreFormsReady sorts trees d.facts.list.items) c.index-self-dealt.is
    (facts_at sorts trees i.dues.now c.dealt.result c.index-self-dealt.result c.self.invariant.0 c.dealt.ensures.inside
    c.index-self-dealt.is).0

pub run_end-requires-clause-goals : goal.run_end-requires-clause-goals
run_end-requires-clause-goals c =
    let i = c.self.inside in
    let sorts = sorts_in i.table.now in
    let trees = trees_in i.table.now in
    subst (λ (d : Due). AreFormsReady sorts trees d.targets.list.items) c.index-self-dealt.is
    (facts_at sorts trees i.dues.now c.dealt.result c.index-self-dealt.result c.self.invariant.0 c.dealt.ensures.inside
    c.index-self-dealt.is).1

pub returns : goal.returns
returns c =
    let i = c.self.inside in
    let v : PlanEndsValue =
    record { table = i.table.now; dues = i.dues.now; each = i.each; reach = i.reach; count = i.count } in
    let node = c.dealt.result in
    ok_map c.run_end.result
    (IsPartEnd v.table v.reach (get_or v.dues node c.index-self-dealt.result) v.each (c.args.index % v.each))
    (TellsEnd c.args.self.now c.args.index)
    (λ e told.
    subst (λ (y : PlanEndsValue). TellsEnd y c.args.index e) c.self.view_is
    (λ due.
    subst (λ (n : ℕ). IsPartEnd v.table v.reach (get_or v.dues n due) v.each (c.args.index % v.each) e) c.dealt.ensures.node
    (subst (λ (d : Due). IsPartEnd v.table v.reach d v.each (c.args.index % v.each) e)
    (get_any v.dues node c.index-self-dealt.result due c.dealt.ensures.inside) told)))
    c.run_end.ensures
