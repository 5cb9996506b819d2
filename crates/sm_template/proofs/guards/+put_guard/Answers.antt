-- The terms of a comparison's sides, and the second of two conditions over the table with the first.
use Rattle.sm_template.proofs.Imports.{rules, sym, subst, IsWellSortedExpression, IsWellSortedCondition, copy_named, expression_of, condition_of, Cond, on_ok, trees_in, sorts_in, tree_at, within_more, grows-twice, AddsBounds, weaker, guard_templates}
use Rattle.sm_term.proofs.FormsLemmas.{tested_more}
use Rattle.sm_template.proofs.BoundsMade.{bounds_after}
use Rattle.sm_template.proofs.GuardsLemmas.{places_stay, store_sorted, weaker_is, first_term, second_term}
use Rattle.sm_template.proofs.guards.+put_guard.Goals as goal

pub put_guard-term_of-requires-clause-store : goal.put_guard-term_of-requires-clause-store
put_guard-term_of-requires-clause-store t c =
    store_sorted c.args.table.now c.args.s.now (copy_named c.args.copy) c.requires.store

pub put_guard-term_of-requires-in-Cmp-clause-within : goal.put_guard-term_of-requires-in-Cmp-clause-within
put_guard-term_of-requires-in-Cmp-clause-within t c =
    within_more c.args.table.now c.term_of.new.table c.term_of.ensures.grows c.args.s.now c.requires.within

pub put_guard-term_of-requires-in-Cmp-clause-store : goal.put_guard-term_of-requires-in-Cmp-clause-store
put_guard-term_of-requires-in-Cmp-clause-store t c =
    let copy = copy_named c.args.copy in
    store_sorted c.term_of.new.table c.args.s.now copy
    (places_stay c.args.table.now c.term_of.new.table c.term_of.ensures.grows c.args.s.now copy c.requires.within c.requires.store)

pub put_guard-put_weaker-requires-clause-first : goal.put_guard-put_weaker-requires-clause-first
put_guard-put_weaker-requires-clause-first t c =
    let u = c.args.table.now in
    let v = c.term_of.new.table in
    let w = c.term_of-in-Cmp.new.table in
    let s = c.args.s.now in
    let copy = copy_named c.args.copy in
    let d = expression_of c.in-Cmp.d in
    let e = expression_of c.in-Cmp.e in
    let well : IsWellSortedExpression (sorts_in u) d × IsWellSortedExpression (sorts_in u) e =
    subst (λ (b : Cond). IsWellSortedCondition (sorts_in u) (condition_of b)) c.in-Cmp.is c.requires.condition in
    (first_term u v w c.term_of.ensures.grows c.term_of-in-Cmp.ensures.grows s copy c.requires.within c.requires.store d
    c.in_ok-t-in-Cmp.t.0 well.0 c.in_ok-t-in-Cmp.ensures.made).inside

pub put_guard-put_weaker-requires-clause-second : goal.put_guard-put_weaker-requires-clause-second
put_guard-put_weaker-requires-clause-second t c =
    let u = c.args.table.now in
    let v = c.term_of.new.table in
    let w = c.term_of-in-Cmp.new.table in
    let s = c.args.s.now in
    let copy = copy_named c.args.copy in
    let d = expression_of c.in-Cmp.d in
    let e = expression_of c.in-Cmp.e in
    let well : IsWellSortedExpression (sorts_in u) d × IsWellSortedExpression (sorts_in u) e =
    subst (λ (b : Cond). IsWellSortedCondition (sorts_in u) (condition_of b)) c.in-Cmp.is c.requires.condition in
    (second_term u v w c.term_of.ensures.grows c.term_of-in-Cmp.ensures.grows s copy c.requires.within c.requires.store e
    c.in_ok-u-in-Cmp.u.0 well.1 c.in_ok-u-in-Cmp.ensures.made).inside

pub put_guard-put_weaker-requires-clause-first_sort : goal.put_guard-put_weaker-requires-clause-first_sort
put_guard-put_weaker-requires-clause-first_sort t c =
    let u = c.args.table.now in
    let v = c.term_of.new.table in
    let w = c.term_of-in-Cmp.new.table in
    let s = c.args.s.now in
    let copy = copy_named c.args.copy in
    let d = expression_of c.in-Cmp.d in
    let e = expression_of c.in-Cmp.e in
    let well : IsWellSortedExpression (sorts_in u) d × IsWellSortedExpression (sorts_in u) e =
    subst (λ (b : Cond). IsWellSortedCondition (sorts_in u) (condition_of b)) c.in-Cmp.is c.requires.condition in
    (first_term u v w c.term_of.ensures.grows c.term_of-in-Cmp.ensures.grows s copy c.requires.within c.requires.store d
    c.in_ok-t-in-Cmp.t.0 well.0 c.in_ok-t-in-Cmp.ensures.made).sorted

pub put_guard-put_weaker-requires-clause-second_sort : goal.put_guard-put_weaker-requires-clause-second_sort
put_guard-put_weaker-requires-clause-second_sort t c =
    let u = c.args.table.now in
    let v = c.term_of.new.table in
    let w = c.term_of-in-Cmp.new.table in
    let s = c.args.s.now in
    let copy = copy_named c.args.copy in
    let d = expression_of c.in-Cmp.d in
    let e = expression_of c.in-Cmp.e in
    let well : IsWellSortedExpression (sorts_in u) d × IsWellSortedExpression (sorts_in u) e =
    subst (λ (b : Cond). IsWellSortedCondition (sorts_in u) (condition_of b)) c.in-Cmp.is c.requires.condition in
    (second_term u v w c.term_of.ensures.grows c.term_of-in-Cmp.ensures.grows s copy c.requires.within c.requires.store e
    c.in_ok-u-in-Cmp.u.0 well.1 c.in_ok-u-in-Cmp.ensures.made).sorted

pub put_guard-returns-in_ok-u-in-Cmp-clause-added : goal.put_guard-returns-in_ok-u-in-Cmp-clause-added
put_guard-returns-in_ok-u-in-Cmp-clause-added t c =
    let u = c.args.table.now in
    let v = c.term_of.new.table in
    let w = c.term_of-in-Cmp.new.table in
    let s = c.args.s.now in
    let copy = copy_named c.args.copy in
    let d = expression_of c.in-Cmp.d in
    let e = expression_of c.in-Cmp.e in
    let well : IsWellSortedExpression (sorts_in u) d × IsWellSortedExpression (sorts_in u) e =
    subst (λ (b : Cond). IsWellSortedCondition (sorts_in u) (condition_of b)) c.in-Cmp.is c.requires.condition in
    let z = c.put_weaker.new.table in
    let ps = c.args.bounds.now.keys in
    let qs = c.put_weaker.new.bounds.keys in
    let op = c.in-Cmp.op in
    let n = c.in_ok-t-in-Cmp.t.0 in
    let m = c.in_ok-u-in-Cmp.u.0 in
    let one = first_term u v w c.term_of.ensures.grows c.term_of-in-Cmp.ensures.grows s copy c.requires.within c.requires.store d
    c.in_ok-t-in-Cmp.t.0 well.0 c.in_ok-t-in-Cmp.ensures.made in
    let other = second_term u v w c.term_of.ensures.grows c.term_of-in-Cmp.ensures.grows s copy c.requires.within c.requires.store e
    c.in_ok-u-in-Cmp.u.0 well.1 c.in_ok-u-in-Cmp.ensures.made in
    let grows = grows-twice u v w c.term_of.ensures.grows c.term_of-in-Cmp.ensures.grows in
    on_ok c.put_weaker.result c.put_weaker.ensures.added
    (λ (more : AddsBounds w z ps qs (weaker op (tree_at (trees_in w) n) (tree_at (trees_in w) m))).
    subst (λ (b : Cond). AddsBounds u z ps qs (guard_templates (condition_of b) copy)) (sym c.in-Cmp.is)
    (subst (AddsBounds u z ps qs) (weaker_is w copy op d e n m one other)
    (bounds_after u w z grows ps qs (weaker op (tree_at (trees_in w) n) (tree_at (trees_in w) m)) more)))

pub put_guard-returns-in_ok-u-in-Cmp-clause-grows : goal.put_guard-returns-in_ok-u-in-Cmp-clause-grows
put_guard-returns-in_ok-u-in-Cmp-clause-grows t c =
    let u = c.args.table.now in
    let v = c.term_of.new.table in
    let w = c.term_of-in-Cmp.new.table in
    grows-twice u w c.put_weaker.new.table (grows-twice u v w c.term_of.ensures.grows c.term_of-in-Cmp.ensures.grows)
    c.put_weaker.ensures.grows

pub put_guards-put_guard-requires-2 : goal.put_guards-put_guard-requires-2
put_guards-put_guard-requires-2 t c =
    let u = c.args.table.now in
    let v = c.put_guard.new.table in
    let grows = c.put_guard.ensures.grows in
    let s = c.args.s.now in (
      search rules,
      (
        tested_more u v grows (condition_of c.args.c.now) c.requires.second,
        (
          within_more u v grows s c.requires.within,
          places_stay u v grows s (copy_named c.args.copy) c.requires.within c.requires.store,
        ),
      ),
    )

pub put_guards-returns-clause-grows : goal.put_guards-returns-clause-grows
put_guards-returns-clause-grows t c =
    grows-twice c.args.table.now c.put_guard.new.table c.put_guard-2.new.table c.put_guard.ensures.grows c.put_guard-2.ensures.grows
