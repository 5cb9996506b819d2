-- The next term is put in over the copies of those before it.
use Rattle.sm_term.proofs.Imports.{◌≡◌, true, ◌+◌, [], map, length, take, sym, ap, ◌∙◌, arith, take_all, sort_of, declared_of, code_of, block_of, contents_of, term_fits, trees_behind, trees_in, sorts_in, codes_in, tree_in, IsTermWithin, with_tree}
use Rattle.sm_term.proofs.TreesLemmas.{length-trees}
use Rattle.sm_term.proofs.CopiesLemmas.{item_row, row_next, over_same}
use Rattle.sm_term.proofs.table.TermTable.copy.Goals as goal

pub add-requires-clause-within : goal.add-requires-clause-within
add-requires-clause-within c =
    let sorts = sort_of (declared_of c.self.inside.decls) in
    let codes = map code_of (map block_of c.self.inside.bodies) in
    let keys = c.self.inside.terms in
    let all = trees_behind codes [] keys in
    let cp = c.loop-term.copy in
    let i = c.loop-term.term-index in
    let u = c.in_ok-t.t in
    let many = ap length c.as_slice-term-items.ensures.values in
    let item = item_row c.as_slice-term-items.result.now keys c.as_slice-term-items.ensures.values i c.loop-term-test.true c.term-item.result c.term-item.is in
    let next = row_next sorts codes keys c.self.invariant.1 i (omega (arith, many, c.loop-term-test.true)) u (ap contents_of item ∙ c.in_ok-t.ensures) in
    let same_sorts = c.loop-term.invariant.sorts ∙ sym (ap sorts_in c.self.view_is) in
    let same_codes = c.loop-term.invariant.codes ∙ sym (ap codes_in c.self.view_is) in
    let same_trees = c.loop-term.invariant.trees ∙ sym (ap (λ v. take i (trees_in v)) c.self.view_is) in
    over_same (λ s d l. IsTermWithin s (length d) (length l) u) _ _ _ _ _ _ same_sorts same_codes same_trees next.within

pub add-requires-clause-fits : goal.add-requires-clause-fits
add-requires-clause-fits c =
    let sorts = sort_of (declared_of c.self.inside.decls) in
    let codes = map code_of (map block_of c.self.inside.bodies) in
    let keys = c.self.inside.terms in
    let all = trees_behind codes [] keys in
    let cp = c.loop-term.copy in
    let i = c.loop-term.term-index in
    let u = c.in_ok-t.t in
    let many = ap length c.as_slice-term-items.ensures.values in
    let item = item_row c.as_slice-term-items.result.now keys c.as_slice-term-items.ensures.values i c.loop-term-test.true c.term-item.result c.term-item.is in
    let next = row_next sorts codes keys c.self.invariant.1 i (omega (arith, many, c.loop-term-test.true)) u (ap contents_of item ∙ c.in_ok-t.ensures) in
    let same_sorts = c.loop-term.invariant.sorts ∙ sym (ap sorts_in c.self.view_is) in
    let same_codes = c.loop-term.invariant.codes ∙ sym (ap codes_in c.self.view_is) in
    let same_trees = c.loop-term.invariant.trees ∙ sym (ap (λ v. take i (trees_in v)) c.self.view_is) in
    over_same (λ s d l. term_fits s l u ≡ true) _ _ _ _ _ _ same_sorts same_codes same_trees next.fit

pub loop-term-preserved : goal.loop-term-preserved
loop-term-preserved c =
    let sorts = sort_of (declared_of c.self.inside.decls) in
    let codes = map code_of (map block_of c.self.inside.bodies) in
    let keys = c.self.inside.terms in
    let all = trees_behind codes [] keys in
    let cp = c.loop-term.copy in
    let i = c.loop-term.term-index in
    let u = c.in_ok-t.t in
    let many = ap length c.as_slice-term-items.ensures.values in
    let item = item_row c.as_slice-term-items.result.now keys c.as_slice-term-items.ensures.values i c.loop-term-test.true c.term-item.result c.term-item.is in
    let next = row_next sorts codes keys c.self.invariant.1 i (omega (arith, many, c.loop-term-test.true)) u (ap contents_of item ∙ c.in_ok-t.ensures) in
    let same_sorts = c.loop-term.invariant.sorts ∙ sym (ap sorts_in c.self.view_is) in
    let same_codes = c.loop-term.invariant.codes ∙ sym (ap codes_in c.self.view_is) in
    let same_trees = c.loop-term.invariant.trees ∙ sym (ap (λ v. take i (trees_in v)) c.self.view_is) in
    record {
      sorts = c.add.ensures.grows.sorts ∙ c.loop-term.invariant.sorts;
      codes = c.add.ensures.grows.codes ∙ c.loop-term.invariant.codes;
      trees =
          c.in_ok-add.ensures.trees
          ∙ ap (λ d. with_tree (trees_in cp) (tree_in d (trees_in cp) u)) same_codes
          ∙ ap (λ l. with_tree l (tree_in codes l u)) same_trees
          ∙ next.next
          ∙ ap (λ v. take (i + 1) (trees_in v)) c.self.view_is;
    }

pub returns-clause-trees : goal.returns-clause-trees
returns-clause-trees c =
    let codes = map code_of (map block_of c.self.inside.bodies) in
    let keys = c.self.inside.terms in
    let many = ap length c.as_slice-term-items.ensures.values in
    let long = length-trees codes [] keys ∙ sym many in
    let whole = ap (λ v. length (trees_in v)) c.self.view_is in
    c.loop-term.invariant.trees ∙ take_all c.loop-term.term-index (trees_in c.args.self.now) (omega (arith, long, whole))
