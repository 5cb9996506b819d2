use Rattle.sm_term.proofs.Imports.{[], ◌++◌, map, sym, ap, subst, ◌∙◌, Some, slice_get, IsWellSorted, sort_of, declared_of, code_of, block_of, trees_behind, trees_in, sorts_in, codes_in, TableValue, IsTable, with_code, append-nil}
use Rattle.sm_term.proofs.TablesLemmas.{bodies-insert, codes-insert, body-stored, bodies-trees}
use Rattle.sm_term.proofs.AdoptionLemmas.{grown_bodies}
use Rattle.sm_term.proofs.table.TermTable.body.Goals as goal

pub invariant_of-self-2 : goal.invariant_of-self-2
invariant_of-self-2 c =
    let sorts = sort_of (declared_of c.self.inside.decls) in
    let bodies = c.self.inside.bodies in
    let well = subst (λ v. IsWellSorted (sorts_in v) (code_of c.args.block.now)) (sym c.self.view_is) c.requires in
    let same = subst (IsWellSorted sorts) (sym c.in_ok-body.ensures) well in
    (c.self.invariant.0, subst (λ bs. IsTable sorts (map code_of (map block_of bs)) c.self.inside.terms) (sym c.in_ok-index.ensures.values) (bodies-insert sorts bodies c.self.inside.terms c.self.invariant.1 c.in_ok-body.body same))

pub returns-clause-codes : goal.returns-clause-codes
returns-clause-codes c =
    let sorts = sort_of (declared_of c.self.inside.decls) in
    let bodies = c.self.inside.bodies in
    ap (λ bs. map code_of (map block_of bs)) c.in_ok-index.ensures.values
    ∙ codes-insert sorts bodies c.self.inside.terms c.self.invariant.1 c.in_ok-body.body
    ∙ ap (with_code (map code_of (map block_of bodies))) c.in_ok-body.ensures
    ∙ ap (λ v. with_code (codes_in v) (code_of c.args.block.now)) c.self.view_is

pub returns-clause-stored : goal.returns-clause-stored
returns-clause-stored c =
    let sorts = sort_of (declared_of c.self.inside.decls) in
    let bodies = c.self.inside.bodies in
    let found = c.in_ok-index.ensures.stored in
    let there = ap (λ l. slice_get l c.in_ok-index.index) (sym c.in_ok-index.ensures.values) ∙ found.1 in
    ap (λ bs. slice_get (map code_of (map block_of bs)) c.in_ok-index.index) c.in_ok-index.ensures.values
    ∙ body-stored sorts bodies c.self.inside.terms c.self.invariant.1 c.in_ok-body.body found.0 c.in_ok-index.index there found.2
    ∙ ap Some c.in_ok-body.ensures

pub returns-clause-trees : goal.returns-clause-trees
returns-clause-trees c =
    let sorts = sort_of (declared_of c.self.inside.decls) in
    let bodies = c.self.inside.bodies in
    ap (λ bs. trees_behind (map code_of (map block_of bs)) [] c.self.inside.terms) c.in_ok-index.ensures.values
    ∙ bodies-trees sorts bodies c.self.inside.terms c.self.invariant.1 c.in_ok-body.body
    ∙ ap trees_in c.self.view_is

pub returns-clause-rows : goal.returns-clause-rows
returns-clause-rows c =
    let grown = grown_bodies c.self.inside.bodies c.in_ok-body.body in
    record {
      declared = ap (λ (v : TableValue). v.declared) c.self.view_is;
      bodies = (grown.0, ap (map block_of) c.in_ok-index.ensures.values ∙ grown.1 ∙ ap (λ (v : TableValue). v.bodies ++ grown.0) c.self.view_is);
      terms = ([], ap (λ (v : TableValue). v.terms) c.self.view_is ∙ sym (append-nil c.args.self.now.terms));
    }
