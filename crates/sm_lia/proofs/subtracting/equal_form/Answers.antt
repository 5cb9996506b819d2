-- The left side is a number.
use Rattle.sm_lia.proofs.Imports.{◌≡◌, Bool, true, None, if◌then◌else◌, sym, subst, ◌∙◌, IfOk, trees_in, sorts_in, tree_at, is_numeric, form_fact, difference, StandsIf}
use Rattle.sm_num.specs.declared.kind.Kind.TheVariants as kind
use Rattle.sm_lia.proofs.subtracting.equal_form.Goals as goal

pub returns : goal.returns
returns c = λ left right.
    let trees = trees_in c.args.table.now in
    let sorts = sorts_in c.args.table.now in
    let t = tree_at trees c.args.t.0 in
    let u = tree_at trees c.args.u.0 in
    let yes : is_numeric sorts t ≡ true = sym c.is_numeric.ensures ∙ c.if-not-is_numeric.false in
    subst (λ (b : Bool). IfOk c.fact_of.result (λ o. StandsIf sorts trees o (if b then form_fact (difference t u kind.Eq) else None)))
    (sym yes) (c.fact_of.ensures sorts trees (difference t u kind.Eq) c.difference.ensures)
