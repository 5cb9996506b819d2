use Rattle.sm_houdini.proofs.Imports.{◌≡◌, Bool, ◌&&◌, List, sym, ap, ◌∙◌, slice_get-get_or, slice_get_past, numbered, assertion_in, Formula, trees_in, sorts_in, forms_in, due_in, closing, closes_at, ready_found}
use Rattle.std.proofs.Common.{Some, slice_get}
use Rattle.sm_houdini.proofs.ClosingLemmas.{some_stays, none_stays, ok_map}
use Rattle.sm_houdini.proofs.closing.stays.Goals as goal

pub closes-requires-clause-goal : goal.closes-requires-clause-goal
closes-requires-clause-goal c =
    ready_found (sorts_in c.args.table.now) (trees_in c.args.table.now) c.args.due.now.targets.list.items c.args.at c.in-Some.goal.now
    (ap (λ (fs : List Formula). slice_get fs c.args.at) (sym c.deref.ensures.value)
    ∙ slice_get-get_or c.deref.result.now c.args.at c.in-Some.goal.now c.in-Some.ensures.lookup.3.0
    ∙ ap (λ (f : Formula). Some f) (sym (c.in-Some.ensures.lookup.3.1 c.in-Some.goal.now)))
    c.requires.goals

pub returns-in-Some-clause-stays : goal.returns-in-Some-clause-stays
returns-in-Some-clause-stays c =
    let sorts = sorts_in c.args.table.now in let trees = trees_in c.args.table.now in let due = c.args.due.now in
    let f = c.in-Some.goal.now in
    let found =
    ap (λ (fs : List Formula). slice_get fs c.args.at) (sym c.deref.ensures.value)
    ∙ slice_get-get_or c.deref.result.now c.args.at f c.in-Some.ensures.lookup.3.0
    ∙ ap (λ (g : Formula). Some g) (sym (c.in-Some.ensures.lookup.3.1 f)) in
    ok_map c.closes.result
    (λ (b : Bool). b ≡ closing sorts c.args.reach (forms_in sorts trees due.facts.list.items) (assertion_in sorts trees (numbered f)))
    (λ (b : Bool). b ≡ (c.args.holds && closes_at sorts c.args.reach (due_in sorts trees due) c.args.at))
    (λ (b : Bool) (h : b ≡ closing sorts c.args.reach (forms_in sorts trees due.facts.list.items) (assertion_in sorts trees (numbered f))).
    some_stays sorts trees c.args.reach due c.args.at f b found h
    ∙ ap (λ (x : Bool). x && closes_at sorts c.args.reach (due_in sorts trees due) c.args.at) (sym c.if-not-holds.false))
    c.closes.ensures.closes

pub returns-in-None-clause-stays : goal.returns-in-None-clause-stays
returns-in-None-clause-stays c =
    let sorts = sorts_in c.args.table.now in let trees = trees_in c.args.table.now in let due = c.args.due.now in
    none_stays sorts trees c.args.reach due c.args.at
    (ap (λ (fs : List Formula). slice_get fs c.args.at) (sym c.deref.ensures.value)
    ∙ slice_get_past c.deref.result.now c.args.at c.in-None.ensures.lookup.3)
    ∙ ap (λ (x : Bool). x && closes_at sorts c.args.reach (due_in sorts trees due) c.args.at) (sym c.if-not-holds.false)
