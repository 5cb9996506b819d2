use Rattle.sm_explain.proofs.Imports.{◌≡◌, ◌++◌, ℤ, to_z, of_z, refl, sym, ap, subst, ◌∙◌, rules, w128, Scalar, Value, Grows, start_line, AreValueLines}
use Rattle.sm_explain.proofs.starts.put_number_line.Goals as goal

pub returns : goal.returns
returns c =
    let z = c.number-z.result in
    let same : to_z w128 (of_z w128 z) ≡ z = search rules in
    let line = λ (y : ℤ). start_line c.args.names.now (Scalar c.args.x.0) y in
    subst (λ (v : Value). Grows (AreValueLines c.args.names.now c.args.x.0 v) c.args.out.now.items c.put_line.new.out.items)
    (sym c.number-z.ensures)
    (line z, refl, c.in_ok-put_line.ensures ∙ ap (λ (y : ℤ). c.args.out.now.items ++ line y) same)
