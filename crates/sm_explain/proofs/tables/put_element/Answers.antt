use Rattle.sm_explain.proofs.Imports.{◌≡◌, ◌++◌, ℤ, to_z, of_z, ap, ◌∙◌, rules, w128, Element, end_in, cell_rows}
use Rattle.sm_explain.proofs.tables.put_element.Goals as goal

pub returns : goal.returns
returns c =
    let i = c.args.i.now in
    let same : to_z w128 (of_z w128 i) ≡ i = search rules in
    c.in_ok-put_rows.ensures
    ∙ ap (λ (z : ℤ). c.args.out.now.items ++ cell_rows c.args.names.now (end_in c.args.ends.now) (Element c.args.a.0 z)) same
