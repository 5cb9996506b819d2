-- By what is found of the facts alone.
use Rattle.sm_solve.proofs.Imports.{◌≡◌, ℕ, List, [], ◌∷◌, ◌++◌, length, take, slice_set, arith, Option, IfOk, IfSome, refl, sym, ap, subst, ◌∙◌, length-set, Sorts, Formula, Assertion, AreFormsSorted, trees_in, sorts_in, Tree, IsLedBy, Inconsistent, with_formulas, with_parts, terms_of, given_from, classes_by, all_numbered, assertions_in, AreFormulasWithin, room_for_goal, IsInconsistent, IsBelow, Walked, Closes, walk_from, ClosesIn}
use Rattle.sm_term.specs.declared.formula.Formula.TheVariants as tree
use Rattle.sm_term.specs.Assertions.{Yes}
use Rattle.sm_solve.proofs.AtGoalLemmas.{led_with, goal_sorted, renumbered_goal, room_kept}
use Rattle.sm_solve.proofs.InconsistentLemmas.{goal_below, on_ok_from, front_fits}
use Rattle.sm_solve.proofs.fact_base.FactBase.inconsistent_goal.Goals as goal

pub inconsistent_tree-requires-clause-within : goal.inconsistent_tree-requires-clause-within
inconsistent_tree-requires-clause-within c =
    subst (λ (fs : List Formula). AreFormulasWithin (length (trees_in c.args.self.now.terms.own)) (all_numbered fs))
    (sym c.deref-in-Some.ensures.value) c.requires.3.within

pub inconsistent_tree-requires-clause-sorted : goal.inconsistent_tree-requires-clause-sorted
inconsistent_tree-requires-clause-sorted c =
    let own = c.args.self.now.terms.own in
    subst (λ (fs : List Formula). AreFormsSorted (sorts_in own) (assertions_in (sorts_in own) (trees_in own) (all_numbered fs)))
    (sym c.deref-in-Some.ensures.value) (goal_sorted c.requires.0 c.requires.1 c.requires.2 c.args.self.now c.requires.3)

pub inconsistent_tree-requires-clause-place : goal.inconsistent_tree-requires-clause-place
inconsistent_tree-requires-clause-place c =
    let n = c.args.self.now in
    let at = c.requires.3 in
    let inconsistent = subst (λ (o : Option Inconsistent). IfSome o (IsInconsistent (sorts_in c.requires.0) (with_formulas (room_for_goal c.requires.1) [])
    (c.requires.1 ++ Yes ∷ []))) c.in-Some.is at.inconsistent in
    let there = at.there in
    let same = length-set (take (length (room_for_goal c.requires.1)) n.facts.items) n.place tree.Yes in
    let kept = room_kept c.requires.0 c.requires.1 c.requires.2 n at in
    let many = inconsistent.many in
    omega (arith, there, same, kept, many)

pub inconsistent_tree-requires-clause-many : goal.inconsistent_tree-requires-clause-many
inconsistent_tree-requires-clause-many c =
    let n = c.args.self.now in
    let at = c.requires.3 in
    let inconsistent = subst (λ (o : Option Inconsistent). IfSome o (IsInconsistent (sorts_in c.requires.0) (with_formulas (room_for_goal c.requires.1) [])
    (c.requires.1 ++ Yes ∷ []))) c.in-Some.is at.inconsistent in
    let kept = room_kept c.requires.0 c.requires.1 c.requires.2 n at in
    let few = front_fits (length (room_for_goal c.requires.1)) n.facts.items kept in
    let many = inconsistent.many in
    let value = ap length c.deref-in-Some.ensures.value in
    omega (arith, few, many, value)

pub inconsistent_tree-requires-clause-led : goal.inconsistent_tree-requires-clause-led
inconsistent_tree-requires-clause-led c =
    let own = c.args.self.now.terms.own in
    let n = c.args.self.now in
    let at = c.requires.3 in
    let inconsistent = subst (λ (o : Option Inconsistent). IfSome o (IsInconsistent (sorts_in c.requires.0) (with_formulas (room_for_goal c.requires.1) [])
    (c.requires.1 ++ Yes ∷ []))) c.in-Some.is at.inconsistent in
    let l = led_with c.requires.0 c.requires.1 c.requires.2 n at in
    let value = sym c.deref-in-Some.ensures.value in (
      l.0,
      l.1,
      l.2 ∙ ap (λ (k : ℕ). given_from 0 (slice_set (take k n.facts.items) n.place tree.Yes)) (sym inconsistent.many)
          ∙ ap (λ (fs : List Formula). given_from 0 (slice_set (take c.in-Some.inconsistent.facts fs) n.place tree.Yes)) value,
      λ ids counted. subst (λ (fs : List Formula). IsLedBy l.0 (classes_by own ids fs)) value (l.3 ids counted),
    )

pub returns-in-Some-clause-tells : goal.returns-in-Some-clause-tells
returns-in-Some-clause-tells c = λ table given contrary at.
    let own = c.args.self.now.terms.own in
    let sorts = sorts_in own in
    let trees = trees_in own in
    let first = with_formulas (room_for_goal given) [] in
    let whole = given ++ Yes ∷ [] in
    let all = with_parts (given ++ contrary ∷ []) in
    let value = c.deref-in-Some.ensures.value in
    let facts = assertions_in sorts trees (all_numbered c.deref-in-Some.result.now) in
    let same : facts ≡ all =
    ap (λ (fs : List Formula). assertions_in sorts trees (all_numbered fs)) value
    ∙ ap (λ (s : Sorts). assertions_in s trees (all_numbered c.args.self.now.facts.items)) at.shared.sorts ∙ at.facts in
    let inconsistent = subst (λ (o : Option Inconsistent). IfSome o (IsInconsistent (sorts_in table) first whole)) c.in-Some.is at.inconsistent in
    let inconsistent_here = subst (λ (s : Sorts). IsInconsistent s first whole c.in-Some.inconsistent) (sym at.shared.sorts) inconsistent in
    let below = subst (λ (fs : List Formula). IsBelow first trees (with_parts whole) (assertions_in sorts trees (all_numbered fs)))
    (sym value) (goal_below table given contrary c.args.self.now at sorts at.shared.sorts) in
    let by : Sorts → List Tree → List Assertion → Walked = λ s ts fs. walk_from s ts c.args.reach 1001 0 fs in
    let walked : by sorts trees facts ≡ by (sorts_in table) (terms_of all) all =
    ap (λ (s : Sorts). by s trees facts) at.shared.sorts
    ∙ ap (λ (ts : List Tree). by (sorts_in table) ts facts) (at.shared.own ∙ at.terms)
    ∙ ap (by (sorts_in table) (terms_of all)) same in
    subst (λ (w : Walked). IfOk c.inconsistent_tree.result (λ o. IfSome o (λ t. (n : ℕ) × (w ≡ Closes n)))) walked
    (c.inconsistent_tree.ensures.tells first whole inconsistent_here below)

pub returns-in-Some-clause-shows : goal.returns-in-Some-clause-shows
returns-in-Some-clause-shows c = λ table given contrary at.
    let own = c.args.self.now.terms.own in
    let first = with_formulas (room_for_goal given) [] in
    let whole = given ++ Yes ∷ [] in
    let inconsistent = subst (λ (o : Option Inconsistent). IfSome o (IsInconsistent (sorts_in table) first whole)) c.in-Some.is at.inconsistent in
    let inconsistent_here = subst (λ (s : Sorts). IsInconsistent s first whole c.in-Some.inconsistent) (sym at.shared.sorts) inconsistent in
    subst (λ (s : Sorts). IfOk c.inconsistent_tree.result (λ o. IfSome o (ClosesIn s (trees_in own) (given ++ contrary ∷ []) 1001))) at.shared.sorts
    (c.inconsistent_tree.ensures.shows first given contrary inconsistent_here (at.more, at.shared.own))

pub returns-in-Some-clause-stays : goal.returns-in-Some-clause-stays
returns-in-Some-clause-stays c = λ table given contrary at.
    on_ok_from c.inconsistent_tree.result
    (renumbered_goal table given contrary c.args.self.now _ refl refl refl refl refl c.inconsistent_tree.ensures.stays at)

pub returns-in-None-clause-stays : goal.returns-in-None-clause-stays
returns-in-None-clause-stays c = λ table given contrary at. at
