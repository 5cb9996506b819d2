-- What a formula needs of its terms.
use Rattle.calls.proofs.Imports.{OnTrue_at, OnTrue_from, trees_in, sorts_in}
use Rattle.calls.proofs.FormulasLemmas.{IsSortedIn, equal_sorted, unequal_sorted, at_most_sorted, below_sorted}
use Rattle.calls.proofs.solving.+fits.Goals as goal

pub returns-in-Eq-clause-sorted : goal.returns-in-Eq-clause-sorted
returns-in-Eq-clause-sorted t c =
    let table = c.args.scene.now.table in
    OnTrue_from c.have_one_sort.result (IsSortedIn (sorts_in table) (trees_in table) c.args.f.now) (λ e.
    equal_sorted (sorts_in table) (trees_in table) c.len-count.ensures.sorted c.args.f.now c.in-Eq.t c.in-Eq.u
    (OnTrue_at e c.have_one_sort.ensures.left) (OnTrue_at e c.have_one_sort.ensures.right) c.in-Eq.is (OnTrue_at e c.have_one_sort.ensures.sorts))

pub returns-in-Ne-clause-sorted : goal.returns-in-Ne-clause-sorted
returns-in-Ne-clause-sorted t c =
    let table = c.args.scene.now.table in
    OnTrue_from c.have_one_sort-in-Ne.result (IsSortedIn (sorts_in table) (trees_in table) c.args.f.now) (λ e.
    unequal_sorted (sorts_in table) (trees_in table) c.len-count.ensures.sorted c.args.f.now c.in-Ne.t c.in-Ne.u
    (OnTrue_at e c.have_one_sort-in-Ne.ensures.left) (OnTrue_at e c.have_one_sort-in-Ne.ensures.right) c.in-Ne.is (OnTrue_at e c.have_one_sort-in-Ne.ensures.sorts))

pub returns-in-Le-clause-sorted : goal.returns-in-Le-clause-sorted
returns-in-Le-clause-sorted t c =
    let table = c.args.scene.now.table in
    OnTrue_from c.are_numbers.result (IsSortedIn (sorts_in table) (trees_in table) c.args.f.now) (λ e.
    at_most_sorted (sorts_in table) (trees_in table) c.len-count.ensures.sorted c.args.f.now c.in-Le.t c.in-Le.u
    (OnTrue_at e c.are_numbers.ensures.left) (OnTrue_at e c.are_numbers.ensures.right) c.in-Le.is (OnTrue_at e c.are_numbers.ensures.left_sort) (OnTrue_at e c.are_numbers.ensures.right_sort))

pub returns-in-Lt-clause-sorted : goal.returns-in-Lt-clause-sorted
returns-in-Lt-clause-sorted t c =
    let table = c.args.scene.now.table in
    OnTrue_from c.are_numbers-in-Lt.result (IsSortedIn (sorts_in table) (trees_in table) c.args.f.now) (λ e.
    below_sorted (sorts_in table) (trees_in table) c.len-count.ensures.sorted c.args.f.now c.in-Lt.t c.in-Lt.u
    (OnTrue_at e c.are_numbers-in-Lt.ensures.left) (OnTrue_at e c.are_numbers-in-Lt.ensures.right) c.in-Lt.is (OnTrue_at e c.are_numbers-in-Lt.ensures.left_sort) (OnTrue_at e c.are_numbers-in-Lt.ensures.right_sort))
