-- The formula compares the two terms.
use Rattle.sm_term.proofs.Imports.{length, ap, ◌∙◌, expression_of, tree_sort, trees_in, sorts_in}
use Rattle.sm_term.specs.Symbolic as plain
use Rattle.sm_term.proofs.ExpressionLemmas.{tree_got, number_made, there}
use Rattle.sm_term.proofs.forms.compared.Goals as goal

pub returns-clause-made : goal.returns-clause-made
returns-clause-made c =
    let v0 = c.args.table.now in
    let v1 = c.made_terms.new.table in
    let g = c.made_terms.ensures.grows in
    let p = tree_got (trees_in v1) c.in_ok-t.t.0 _ c.in_ok-t.ensures.first in
    let q = tree_got (trees_in v1) c.in_ok-t.u.0 _ c.in_ok-t.ensures.second in
    let left = ap (tree_sort (sorts_in v1)) p ∙ number_made v0 v1 g c.args.s.now c.requires.store (expression_of c.args.d.now) c.requires.first in
    let right = ap (tree_sort (sorts_in v1)) q ∙ number_made v0 v1 g c.args.s.now c.requires.store (expression_of c.args.e.now) c.requires.second in
    c.comparison.ensures.made (trees_in v1) (sorts_in v1) left right ∙ (λ k. plain.comparison_form c.args.op (p k) (q k))

pub returns-clause-within : goal.returns-clause-within
returns-clause-within c =
    let trees = trees_in c.made_terms.new.table in
    c.comparison.ensures.within (length trees) (there trees c.in_ok-t.t.0 _ c.in_ok-t.ensures.first) (there trees c.in_ok-t.u.0 _ c.in_ok-t.ensures.second)
