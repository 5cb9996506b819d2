use Rattle.sm_term.proofs.Imports.{rules, ◌≡◌, true, Some, length, slice_get, IfOk, ap, sym, subst, ◌∙◌, IsWellSortedExpression, Num, Arr, expression_of, tree_sort, pair_tree, store_in, term_fits, trees_in, sorts_in, codes_in, tree_at, tree_in, IsTermWithin}
use Rattle.sm_term.specs.Terms as tree
use Rattle.sm_term.specs.Symbolic as plain
use Rattle.sm_term.proofs.PairsLemmas.{pair_within, pair_fits, pair_made}
use Rattle.sm_term.proofs.ExpressionLemmas.{store-more, stays_got, tree_got, sort_got, within_more, sorted_more, well-more, made-more, number_made, there}
use Rattle.sm_term.proofs.symbolic.+terms.Goals as goal

-- the element of an array, over the table with the index
pub made_term-element_term-requires : goal.made_term-element_term-requires
made_term-element_term-requires t c =
    let v0 = c.args.table.now in
    let s = c.args.s.now in
    let v1 = c.made_term.new.table in
    let g1 = c.made_term.ensures.grows in
    let i = c.in-Read.i.value in
    let well = subst (λ e. IsWellSortedExpression (sorts_in v0) (expression_of e)) c.in-Read.is c.requires.expression in
    let made = c.in_ok-u-in-Read.ensures.made ∙ ap (λ e. Some (plain.term_of (expression_of e) (store_in (trees_in v0) s))) c.deref.ensures in
    record {
      array = subst (λ f. f c.in-Read.a.0 ≡ Some Arr) (sym g1.sorts) well.0;
      index = there (trees_in v1) _ _ made;
      number = ap (tree_sort (sorts_in v1)) (tree_got (trees_in v1) _ _ made) ∙ number_made v0 v1 g1 s c.requires.store (expression_of i) well.1;
      within = within_more v0 v1 g1 s c.requires.within;
      store = sorted_more v0 v1 g1 s c.requires.within c.requires.store;
    }

pub made_term-returns-in_ok-u-in-Read-clause-made : goal.made_term-returns-in_ok-u-in-Read-clause-made
made_term-returns-in_ok-u-in-Read-clause-made t c =
    let v0 = c.args.table.now in
    let s = c.args.s.now in
    let v1 = c.made_term.new.table in
    let g1 = c.made_term.ensures.grows in
    let made = c.in_ok-u-in-Read.ensures.made ∙ ap (λ e. Some (plain.term_of (expression_of e) (store_in (trees_in v0) s))) c.deref.ensures in
    let first = ap (λ f. f c.in-Read.a.0) (store-more v0 v1 g1 s c.requires.within) in
    let second = tree_got (trees_in v1) c.in_ok-u-in-Read.u.0 _ made in
    let same : tree.Read (store_in (trees_in v1) s c.in-Read.a.0) (tree_at (trees_in v1) c.in_ok-u-in-Read.u.0) ≡ plain.term_of (expression_of c.args.e.now) (store_in (trees_in v0) s) =
    (λ k. tree.Read (first k) (second k)) ∙ ap (λ e. plain.term_of (expression_of e) (store_in (trees_in v0) s)) (sym c.in-Read.is) in
    subst (λ u. IfOk c.element_term.result (λ id. slice_get (trees_in c.element_term.new.table) id.0 ≡ Some u)) same c.element_term.ensures.made

pub made_term-add-requires-in-Neg-clause-within : goal.made_term-add-requires-in-Neg-clause-within
made_term-add-requires-in-Neg-clause-within t c =
    let v0 = c.args.table.now in
    let s = c.args.s.now in
    let v1 = c.made_term-in-Neg.new.table in
    let g1 = c.made_term-in-Neg.ensures.grows in
    let d = c.in-Neg.d.value in
    let well = subst (λ e. IsWellSortedExpression (sorts_in v0) (expression_of e)) c.in-Neg.is c.requires.expression in
    let made = c.in_ok-t-in-Neg.ensures.made ∙ ap (λ e. Some (plain.term_of (expression_of e) (store_in (trees_in v0) s))) c.deref-in-Neg.ensures in
    there (trees_in v1) _ _ made

pub made_term-add-requires-in-Neg-clause-fits : goal.made_term-add-requires-in-Neg-clause-fits
made_term-add-requires-in-Neg-clause-fits t c =
    let v0 = c.args.table.now in
    let s = c.args.s.now in
    let v1 = c.made_term-in-Neg.new.table in
    let g1 = c.made_term-in-Neg.ensures.grows in
    let d = c.in-Neg.d.value in
    let well = subst (λ e. IsWellSortedExpression (sorts_in v0) (expression_of e)) c.in-Neg.is c.requires.expression in
    let made = c.in_ok-t-in-Neg.ensures.made ∙ ap (λ e. Some (plain.term_of (expression_of e) (store_in (trees_in v0) s))) c.deref-in-Neg.ensures in
    sort_got (sorts_in v1) (trees_in v1) c.in_ok-t-in-Neg.t _ Num made (number_made v0 v1 g1 s c.requires.store (expression_of d) well)

pub made_term-returns-in_ok-t-in-Neg-clause-made : goal.made_term-returns-in_ok-t-in-Neg-clause-made
made_term-returns-in_ok-t-in-Neg-clause-made t c =
    let v0 = c.args.table.now in
    let s = c.args.s.now in
    let v1 = c.made_term-in-Neg.new.table in
    let g1 = c.made_term-in-Neg.ensures.grows in
    let d = c.in-Neg.d.value in
    let well = subst (λ e. IsWellSortedExpression (sorts_in v0) (expression_of e)) c.in-Neg.is c.requires.expression in
    let made = c.in_ok-t-in-Neg.ensures.made ∙ ap (λ e. Some (plain.term_of (expression_of e) (store_in (trees_in v0) s))) c.deref-in-Neg.ensures in
    let p = tree_got (trees_in v1) _ _ made in
    let same : tree.Neg (tree_at (trees_in v1) c.in_ok-t-in-Neg.t.0) ≡ plain.term_of (expression_of c.args.e.now) (store_in (trees_in v0) s) =
    ap tree.Neg p ∙ ap (λ e. plain.term_of (expression_of e) (store_in (trees_in v0) s)) (sym c.in-Neg.is) in
    subst (λ u. IfOk c.add-in-Neg.result (λ id. slice_get (trees_in c.add-in-Neg.new.self) id.0 ≡ Some u)) same c.add-in-Neg.ensures.stored

-- the row of an operation, over the table with both sides
pub made_pair-add-requires-clause-within : goal.made_pair-add-requires-clause-within
made_pair-add-requires-clause-within t c =
    let v1 = c.made_terms.new.table in
    subst (IsTermWithin (sorts_in v1) (length (codes_in v1)) (length (trees_in v1))) (sym c.pair.ensures)
    (pair_within (sorts_in v1) (length (codes_in v1)) (length (trees_in v1)) c.args.op c.in_ok-t.t c.in_ok-t.u (there (trees_in v1) _ _ c.in_ok-t.ensures.first) (there (trees_in v1) _ _ c.in_ok-t.ensures.second))

pub made_pair-add-requires-clause-fits : goal.made_pair-add-requires-clause-fits
made_pair-add-requires-clause-fits t c =
    let v0 = c.args.table.now in
    let s = c.args.s.now in
    let v1 = c.made_terms.new.table in
    let g1 = c.made_terms.ensures.grows in
    subst (λ r. term_fits (sorts_in v1) (trees_in v1) r ≡ true) (sym c.pair.ensures)
    (pair_fits (sorts_in v1) (trees_in v1) c.args.op c.in_ok-t.t c.in_ok-t.u
    (sort_got (sorts_in v1) (trees_in v1) c.in_ok-t.t _ Num c.in_ok-t.ensures.first (number_made v0 v1 g1 s c.requires.store (expression_of c.args.d.now) c.requires.first))
    (sort_got (sorts_in v1) (trees_in v1) c.in_ok-t.u _ Num c.in_ok-t.ensures.second (number_made v0 v1 g1 s c.requires.store (expression_of c.args.e.now) c.requires.second)))

pub made_pair-returns-clause-made : goal.made_pair-returns-clause-made
made_pair-returns-clause-made t c =
    let f = store_in (trees_in c.args.table.now) c.args.s.now in
    let v1 = c.made_terms.new.table in
    let same : tree_in (codes_in v1) (trees_in v1) c.pair.result ≡ pair_tree c.args.op (plain.term_of (expression_of c.args.d.now) f) (plain.term_of (expression_of c.args.e.now) f) =
    ap (tree_in (codes_in v1) (trees_in v1)) c.pair.ensures
    ∙ pair_made (codes_in v1) (trees_in v1) c.args.op c.in_ok-t.t c.in_ok-t.u _ _ (tree_got (trees_in v1) _ _ c.in_ok-t.ensures.first) (tree_got (trees_in v1) _ _ c.in_ok-t.ensures.second) in
    subst (λ u. IfOk c.add.result (λ id. slice_get (trees_in c.add.new.self) id.0 ≡ Some u)) same c.add.ensures.stored

-- the second of two, over the table with the first
pub made_terms-made_term-requires-2 : goal.made_terms-made_term-requires-2
made_terms-made_term-requires-2 t c =
    let v0 = c.args.table.now in
    let s = c.args.s.now in
    let v1 = c.made_term.new.table in
    let g1 = c.made_term.ensures.grows in
    (search rules, (well-more v0 v1 g1 (expression_of c.args.e.now) c.requires.second, (within_more v0 v1 g1 s c.requires.within, sorted_more v0 v1 g1 s c.requires.within c.requires.store)))

pub made_terms-returns-clause-first : goal.made_terms-returns-clause-first
made_terms-returns-clause-first t c = stays_got c.made_term.new.table c.made_term-2.new.table c.made_term-2.ensures.grows _ _ c.in_ok-t.ensures.made

pub made_terms-returns-clause-second : goal.made_terms-returns-clause-second
made_terms-returns-clause-second t c =
    made-more c.args.table.now c.made_term.new.table c.made_term-2.new.table c.made_term.ensures.grows c.args.s.now c.requires.within (expression_of c.args.e.now) _ c.in_ok-u.ensures.made
