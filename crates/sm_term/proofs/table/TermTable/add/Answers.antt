use Rattle.sm_term.proofs.Imports.{[], ◌++◌, length, map, sym, ap, subst, ◌∙◌, IsTrue, Some, slice_get, sort_of, declared_of, code_of, block_of, trees_behind, trees_in, sorts_in, codes_in, tree_in, IsTermWithin, TableValue, term_fits, IsTable, with_tree, append-nil, same_term}
use Rattle.sm_term.proofs.TablesLemmas.{table-insert, trees-insert, stored-insert, grown-with_tree}
use Rattle.sm_term.proofs.AdoptionLemmas.{grown_key}
use Rattle.sm_term.proofs.table.TermTable.add.Goals as goal

-- what is so of the term, over the fields
pub invariant_of-self-2 : goal.invariant_of-self-2
invariant_of-self-2 c =
    let sorts = sort_of (declared_of c.self.inside.decls) in
    let codes = map code_of (map block_of c.self.inside.bodies) in
    let keys = c.self.inside.terms in
    let within = subst (λ v. IsTermWithin (sorts_in v) (length (codes_in v)) (length (trees_in v)) c.args.t) (sym c.self.view_is) c.requires.within in
    let fit = subst (λ v. IsTrue (term_fits (sorts_in v) (trees_in v) c.args.t)) (sym c.self.view_is) c.requires.fits in
    (c.self.invariant.0, subst (IsTable sorts codes) (sym c.in_ok-index.ensures.values) (table-insert sorts codes keys c.self.invariant.1 c.args.t within fit))

pub returns-clause-trees : goal.returns-clause-trees
returns-clause-trees c =
    let sorts = sort_of (declared_of c.self.inside.decls) in
    let codes = map code_of (map block_of c.self.inside.bodies) in
    let keys = c.self.inside.terms in
    let within = subst (λ v. IsTermWithin (sorts_in v) (length (codes_in v)) (length (trees_in v)) c.args.t) (sym c.self.view_is) c.requires.within in
    let fit = subst (λ v. IsTrue (term_fits (sorts_in v) (trees_in v) c.args.t)) (sym c.self.view_is) c.requires.fits in
    ap (trees_behind codes []) c.in_ok-index.ensures.values ∙ trees-insert sorts codes keys c.self.invariant.1 c.args.t within fit
    ∙ ap (λ v. with_tree (trees_in v) (tree_in (codes_in v) (trees_in v) c.args.t)) c.self.view_is

pub returns-clause-stored : goal.returns-clause-stored
returns-clause-stored c =
    let sorts = sort_of (declared_of c.self.inside.decls) in
    let codes = map code_of (map block_of c.self.inside.bodies) in
    let keys = c.self.inside.terms in
    let within = subst (λ v. IsTermWithin (sorts_in v) (length (codes_in v)) (length (trees_in v)) c.args.t) (sym c.self.view_is) c.requires.within in
    let fit = subst (λ v. IsTrue (term_fits (sorts_in v) (trees_in v) c.args.t)) (sym c.self.view_is) c.requires.fits in
    let found = c.in_ok-index.ensures.stored in
    let there = ap (λ l. slice_get l c.in_ok-index.index) (sym c.in_ok-index.ensures.values) ∙ found.1 in
    ap (λ l. slice_get (trees_behind codes [] l) c.in_ok-index.index) c.in_ok-index.ensures.values
    ∙ stored-insert sorts codes keys c.self.invariant.1 c.args.t within fit found.0 c.in_ok-index.index there found.2
    ∙ ap (λ v. Some (tree_in (codes_in v) (trees_in v) c.args.t)) c.self.view_is

pub returns-clause-grows : goal.returns-clause-grows
returns-clause-grows c =
    let sorts = sort_of (declared_of c.self.inside.decls) in
    let codes = map code_of (map block_of c.self.inside.bodies) in
    let keys = c.self.inside.terms in
    let within = subst (λ v. IsTermWithin (sorts_in v) (length (codes_in v)) (length (trees_in v)) c.args.t) (sym c.self.view_is) c.requires.within in
    let fit = subst (λ v. IsTrue (term_fits (sorts_in v) (trees_in v) c.args.t)) (sym c.self.view_is) c.requires.fits in
    let grown = grown-with_tree (trees_behind codes [] keys) (tree_in codes (trees_behind codes [] keys) c.args.t) in
    let trees = ap (trees_behind codes []) c.in_ok-index.ensures.values ∙ trees-insert sorts codes keys c.self.invariant.1 c.args.t within fit in
    record {
      sorts = ap sorts_in c.self.view_is;
      codes = ap codes_in c.self.view_is;
      trees = (grown.0, trees ∙ grown.1 ∙ ap (λ v. trees_in v ++ grown.0) c.self.view_is);
    }

pub returns-clause-rows : goal.returns-clause-rows
returns-clause-rows c =
    let grown = grown_key same_term c.self.inside.terms c.args.t in
    record {
      declared = ap (λ (v : TableValue). v.declared) c.self.view_is;
      bodies = ([], ap (λ (v : TableValue). v.bodies) c.self.view_is ∙ sym (append-nil c.args.self.now.bodies));
      terms = (grown.0, c.in_ok-index.ensures.values ∙ grown.1 ∙ ap (λ (v : TableValue). v.terms ++ grown.0) c.self.view_is);
    }
