use Rattle.sm_term.proofs.Imports.{[], map, take, sym, ap, subst, ◌∙◌, sort_of, declared_of, code_of, block_of, trees_behind, trees_in, IsTable}
use Rattle.sm_term.proofs.TreesLemmas.{take-trees}
use Rattle.sm_term.proofs.TablesLemmas.{table-take}
use Rattle.sm_term.proofs.table.TermTable.cut.Goals as goal

pub invariant_of-self : goal.invariant_of-self
invariant_of-self c =
    (c.self.invariant.0, subst (λ ts. IsTable (sort_of (declared_of c.self.inside.decls)) (map code_of (map block_of c.self.inside.bodies)) ts) (sym c.truncate.ensures) (table-take _ _ _ c.self.invariant.1 c.args.len))

pub returns-clause-trees : goal.returns-clause-trees
returns-clause-trees c =
    let codes = map code_of (map block_of c.self.inside.bodies) in
    ap (trees_behind codes []) c.truncate.ensures ∙ take-trees codes [] c.self.inside.terms c.args.len ∙ ap (λ v. take c.args.len (trees_in v)) c.self.view_is
