-- The goals of one output more.
use Rattle.sm_plan.proofs.Imports.{◌≡◌, ℕ, Some, List, ◌++◌, length, map, take, get_or, slice_get, sym, ap, subst, ◌∙◌, arith, flat_map, take_all, map-append, Copy, Name, Sorts, Sort, Num, of_copy, PerCopy, outputs_of, Assertion, NumberedFormula, numbered, assertion_in, sort_named, tree_sort, AreFormsSorted, trees_in, sorts_in, TermId, grows-twice, tree_got, there, AreOutputsDeclared, goals_over, with_sorts, AreAllWithin, place, keeps_goals, forms_in}
use Rattle.sm_plan.proofs.SortedStates.{place_sorted, goals_sorted}
use Rattle.sm_plan.proofs.SummariesLemmas.{numbers}
use Rattle.sm_plan.proofs.TablesWiden.{widens_grown}
use Rattle.sm_plan.proofs.TargetsMade.{goals_are, goals_within, all_append, all_stay, all_within, ready_from, output_at, outputs_more, goals_more, long-outputs}
use Rattle.sm_plan.proofs.targets.target.Goals as goal
use Rattle.sm_plan.proofs.KeptLemmas.{by_numbers}

pub places-requires : goal.places-requires
places-requires c =
    let v = c.args.table.now in
    let u = c.loop-x.table in
    let ns : List Name = c.deref-x-items.result.now in
    let i = c.loop-x.x-index in
    let declared : AreOutputsDeclared (sorts_in v) (with_sorts (sorts_in v) (numbers ns)) =
    subst (λ (l : List Name). AreOutputsDeclared (sorts_in v) (with_sorts (sorts_in v) (numbers l))) (sym c.deref-x-items.ensures.value)
    c.requires in
    let same_sorts : sorts_in u ≡ sorts_in v = c.loop-x.invariant.grows.sorts in
    let x = (get_or ns i (record { 0 = 0 })).0 in
    let known : sorts_in v x ≡ Some (sort_named (sorts_in v) x) = output_at (sorts_in v) ns i c.loop-x-test.true declared in
    let sort : c.sort_named-sort.result ≡ sort_named (sorts_in v) x =
    c.sort_named-sort.ensures ∙ ap (λ (f : Sorts). sort_named f x) same_sorts in
    ap (λ (f : Sorts). f x) same_sorts ∙ known ∙ ap (λ (s : Sort). Some s) (sym sort)

pub returns-in_err-at-clause-grows : goal.returns-in_err-at-clause-grows
returns-in_err-at-clause-grows c = grows-twice c.args.table.now c.loop-x.table c.places.new.table c.loop-x.invariant.grows
    c.places.ensures.grows

pub returns-in_err-put_goals-clause-grows : goal.returns-in_err-put_goals-clause-grows
returns-in_err-put_goals-clause-grows c = grows-twice c.args.table.now c.loop-x.table c.places.new.table c.loop-x.invariant.grows
    c.places.ensures.grows

pub loop-x-preserved : goal.loop-x-preserved
loop-x-preserved c =
    let v = c.args.table.now in
    let u = c.loop-x.table in
    let ns : List Name = c.deref-x-items.result.now in
    let i = c.loop-x.x-index in
    let declared : AreOutputsDeclared (sorts_in v) (with_sorts (sorts_in v) (numbers ns)) =
    subst (λ (l : List Name). AreOutputsDeclared (sorts_in v) (with_sorts (sorts_in v) (numbers l))) (sym c.deref-x-items.ensures.value)
    c.requires in
    let same_sorts : sorts_in u ≡ sorts_in v = c.loop-x.invariant.grows.sorts in
    let x = (get_or ns i (record { 0 = 0 })).0 in
    let known : sorts_in v x ≡ Some (sort_named (sorts_in v) x) = output_at (sorts_in v) ns i c.loop-x-test.true declared in
    let sort : c.sort_named-sort.result ≡ sort_named (sorts_in v) x =
    c.sort_named-sort.ensures ∙ ap (λ (f : Sorts). sort_named f x) same_sorts in
    let z = c.places.new.table in
    let g = c.places.ensures.grows in
    let wider = widens_grown u z g in
    let at : PerCopy TermId = c.in_ok-at.at in
    let of : Copy → ℕ = λ (d : Copy). (of_copy at d).0 in
    let o : ℕ × Sort = (x, sort_named (sorts_in v) x) in
    let got : (d : Copy) → slice_get (trees_in z) (of d) ≡ Some (place o d) = λ (d : Copy). c.in_ok-at.ensures.made d
    ∙ ap (λ (s : Sort). Some (place (x, s) d)) sort in
    let nums : (d : Copy) → tree_sort (sorts_in z) (place o d) ≡ Num =
    λ (d : Copy). ap (λ (f : Sorts). tree_sort f (place o d)) (g.sorts ∙ same_sorts)
    ∙ (place_sorted (sorts_in v) x (sort_named (sorts_in v) x) d known).1 in
    let old : List NumberedFormula = map numbered c.loop-x.list.items in
    let items : map numbered c.put_goals.new.list.items ≡ old ++ goals_over of = c.in_ok-put_goals.ensures in
    let a : NumberedFormula → Assertion = assertion_in (sorts_in z) (trees_in z) in
    let os = with_sorts (sorts_in v) (numbers ns) in
    let goals : List (ℕ × Sort) → List Assertion = flat_map (λ (p : ℕ × Sort). keeps_goals (place p)) in
    let first : map a old ≡ goals (take i os) = all_stay u z wider old c.loop-x.invariant.within ∙ c.loop-x.invariant.made in
    let second : map a (goals_over of) ≡ keeps_goals (place o) =
    goals_are (sorts_in z) (trees_in z) of o (λ (d : Copy). tree_got (trees_in z) (of d) (place o d) (got d)) nums in
    let n = length (trees_in z) in
    record {
      grows = grows-twice v u z c.loop-x.invariant.grows g;
      made =
          ap (map a) items
          ∙ map-append a old (goals_over of)
          ∙ (λ j. first j ++ second j)
          ∙ sym (ap goals (outputs_more (sorts_in v) ns i c.loop-x-test.true) ∙ goals_more (take i os) o);
      within =
          subst (AreAllWithin n) (sym items)
          (all_append n old (goals_over of) (all_within u z wider old c.loop-x.invariant.within)
          (goals_within n of (λ (d : Copy). there (trees_in z) (of d) (place o d) (got d))));
    }

pub returns-clause-made : goal.returns-clause-made
returns-clause-made c =
    let v = c.args.table.now in
    let u = c.loop-x.table in
    let ns : List Name = c.deref-x-items.result.now in
    let goals : List (ℕ × Sort) → List Assertion = flat_map (λ (p : ℕ × Sort). keeps_goals (place p)) in
    let os = with_sorts (sorts_in v) (numbers ns) in
    let made : forms_in (sorts_in u) (trees_in u) c.loop-x.list.items ≡ goals (with_sorts (sorts_in v) (outputs_of c.args.outputs.now)) =
    by_numbers (sorts_in u) (trees_in u) c.loop-x.list.items
    ∙ c.loop-x.invariant.made
    ∙ ap goals (take_all c.loop-x.x-index os (omega (arith, long-outputs (sorts_in v) ns, c.loop-x-test.false)))
    ∙ ap (λ (l : List Name). goals (with_sorts (sorts_in v) (numbers l))) c.deref-x-items.ensures.value in
    made

pub returns-clause-ready : goal.returns-clause-ready
returns-clause-ready c =
    let v = c.args.table.now in
    let u = c.loop-x.table in
    let ns : List Name = c.deref-x-items.result.now in
    let goals : List (ℕ × Sort) → List Assertion = flat_map (λ (p : ℕ × Sort). keeps_goals (place p)) in
    let os = with_sorts (sorts_in v) (numbers ns) in
    let made : forms_in (sorts_in u) (trees_in u) c.loop-x.list.items ≡ goals (with_sorts (sorts_in v) (outputs_of c.args.outputs.now)) =
    by_numbers (sorts_in u) (trees_in u) c.loop-x.list.items
    ∙ c.loop-x.invariant.made
    ∙ ap goals (take_all c.loop-x.x-index os (omega (arith, long-outputs (sorts_in v) ns, c.loop-x-test.false)))
    ∙ ap (λ (l : List Name). goals (with_sorts (sorts_in v) (numbers l))) c.deref-x-items.ensures.value in
    let sorted = goals_sorted (sorts_in v) (with_sorts (sorts_in v) (outputs_of c.args.outputs.now)) c.requires in
    ready_from (sorts_in u) (trees_in u) c.loop-x.list.items c.loop-x.invariant.within
    (subst (AreFormsSorted (sorts_in u)) (sym made)
    (subst (λ (f : Sorts). AreFormsSorted f (goals (with_sorts (sorts_in v) (outputs_of c.args.outputs.now))))
    (sym c.loop-x.invariant.grows.sorts) sorted))
