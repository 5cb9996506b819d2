-- A term that is put in has the tree.
use Rattle.sm_plan.proofs.Imports.{subst, Some, ap, ◌∙◌, nat_eq, get, Tree, trees_in, IsFilling, stores_in}
use Rattle.sm_plan.proofs.FillingGrows.{filled_by}
use Rattle.sm_plan.proofs.filling.number_of.Goals as goal

pub returns-in_ok-made-in-Made-clause-number : goal.returns-in_ok-made-in-Made-clause-number
returns-in_ok-made-in-Made-clause-number c =
    let v = c.args.table.now in
    let stores = c.args.stores.now in
    let tree = subst (IsFilling v (stores_in (trees_in v) stores) (get nat_eq c.args.known.now) c.args.t.0) c.in-Made.is
    c.in_ok-id.ensures in
    filled_by v c.made.new.table c.made.ensures.grows stores c.requires.stores c.args.t.0 c.in_ok-made-in-Made.field-0 c.requires.inside
    (c.in_ok-made-in-Made.ensures.stored ∙ ap (λ (t : Tree). Some t) tree.2)
