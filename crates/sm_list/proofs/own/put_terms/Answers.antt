-- The next term's arguments are there, and it isn't there itself.
use Rattle.sm_list.proofs.Imports.{List, get_or, sym, ap, ◌∙◌, subst, Tree, arguments_of, trees_in, tree_at, with_tree, AllAmong}
use Rattle.sm_list.proofs.OwnLemmas.{next_term}
use Rattle.sm_list.proofs.own.put_terms.Goals as goal

pub put_term-requires-clause-within : goal.put_term-requires-clause-within
put_term-requires-clause-within c =
    let trees = trees_in c.args.table.now in
    (next_term trees c.args.terms.now c.requires.below c.requires.built c.loop-t.t-index (record { 0 = 0 }) c.loop-t-test.true).within

pub put_term-requires-clause-ready : goal.put_term-requires-clause-ready
put_term-requires-clause-ready c =
    let trees = trees_in c.args.table.now in
    let t = get_or c.args.terms.now c.loop-t.t-index (record { 0 = 0 }) in
    let next = next_term trees c.args.terms.now c.requires.below c.requires.built c.loop-t.t-index (record { 0 = 0 }) c.loop-t-test.true in
    subst (λ (ts : List Tree). AllAmong ts (arguments_of (tree_at trees t.0))) (sym c.loop-t.invariant.trees) next.ready

pub loop-t-preserved : goal.loop-t-preserved
loop-t-preserved c =
    let trees = trees_in c.args.table.now in
    let t = get_or c.args.terms.now c.loop-t.t-index (record { 0 = 0 }) in
    let next = next_term trees c.args.terms.now c.requires.below c.requires.built c.loop-t.t-index (record { 0 = 0 }) c.loop-t-test.true in
    record {
      sorts = c.put_term.ensures.sorts ∙ c.loop-t.invariant.sorts;
      codes = c.put_term.ensures.codes ∙ c.loop-t.invariant.codes;
      count = c.put_term.ensures.count ∙ c.loop-t.invariant.count;
      trees =
          c.in_ok-put_term.ensures.trees
          ∙ ap (λ (ts : List Tree). with_tree ts (tree_at trees t.0)) c.loop-t.invariant.trees ∙ next.next;
      placed = c.in_ok-put_term.ensures.placed;
    }
