-- The next term's arguments are there, and it isn't there itself.
use Rattle.sm_list.proofs.Imports.{List, get_or, sym, ap, ◌∙◌, subst, Tree, arguments_of, trees_in, tree_at, with_tree, AllAmong}
use Rattle.sm_list.proofs.SharedLemmas.{next_number}
use Rattle.sm_list.proofs.shared.put_rest.Goals as goal

pub put_term-requires-clause-within : goal.put_term-requires-clause-within
put_term-requires-clause-within c =
    (next_number (trees_in c.args.table.now) c.args.terms.now c.requires.below c.requires.built c.loop-k.k c.loop-k-test.true).within

pub put_term-requires-clause-ready : goal.put_term-requires-clause-ready
put_term-requires-clause-ready c =
    let trees = trees_in c.args.table.now in
    let n = get_or c.args.terms.now c.loop-k.k 0 in
    let next = next_number trees c.args.terms.now c.requires.below c.requires.built c.loop-k.k c.loop-k-test.true in
    subst (λ (ts : List Tree). AllAmong ts (arguments_of (tree_at trees n))) (sym c.loop-k.invariant.trees) next.ready

pub loop-k-preserved : goal.loop-k-preserved
loop-k-preserved c =
    let trees = trees_in c.args.table.now in
    let n = get_or c.args.terms.now c.loop-k.k 0 in
    let next = next_number trees c.args.terms.now c.requires.below c.requires.built c.loop-k.k c.loop-k-test.true in
    record {
      sorts = c.put_term.ensures.sorts ∙ c.loop-k.invariant.sorts;
      codes = c.put_term.ensures.codes ∙ c.loop-k.invariant.codes;
      count = c.put_term.ensures.count ∙ c.loop-k.invariant.count;
      trees =
          c.in_ok-put_term.ensures.trees
          ∙ ap (λ (ts : List Tree). with_tree ts (tree_at trees n)) c.loop-k.invariant.trees ∙ next.next;
      placed = c.in_ok-put_term.ensures.placed;
    }
