-- The first bodies and terms are a table where they were one.
use Rattle.sm_term.proofs.Imports.{map, take, sym, ap, subst, ◌∙◌, take-map, sort_of, declared_of, code_of, block_of, TableValue, sorts_in, codes_in, IsTable}
use Rattle.sm_term.proofs.table.TermTable.restore.Goals as goal

pub invariant_of-self : goal.invariant_of-self
invariant_of-self c =
    let sorts = sort_of (declared_of c.self.inside.decls) in
    let bodies = c.self.inside.bodies in
    let asked = subst (λ (v : TableValue). IsTable (sorts_in v) (take c.args.bodies (codes_in v)) (take c.args.terms v.terms)) (sym c.self.view_is) c.requires in
    let codes = take-map code_of c.args.bodies (map block_of bodies) ∙ ap (map code_of) (take-map block_of c.args.bodies bodies) in
    let first = subst (λ cs. IsTable sorts cs (take c.args.terms c.self.inside.terms)) codes asked in
    let second = subst (λ bs. IsTable sorts (map code_of (map block_of bs)) (take c.args.terms c.self.inside.terms)) (sym c.truncate.ensures) first in
    (c.self.invariant.0, subst (IsTable sorts (map code_of (map block_of c.truncate.new.self))) (sym c.truncate-2.ensures) second)

pub returns-clause-bodies : goal.returns-clause-bodies
returns-clause-bodies c =
    ap (map block_of) c.truncate.ensures
    ∙ sym (take-map block_of c.args.bodies c.self.inside.bodies)
    ∙ ap (λ (v : TableValue). take c.args.bodies v.bodies) c.self.view_is
