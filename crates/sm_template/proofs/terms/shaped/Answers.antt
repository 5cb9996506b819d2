-- An equation of the terms of two sides, or of their cells.
use Rattle.sm_template.proofs.Imports.{◌≡◌, ◌∙◌, Some, refl, sym, ap, subst, Sorts, Num, Formula, sorts_in, Cell, Read, Shape, IsFormMade, side_tree, shape_form, FitsShape}
use Rattle.sm_term.specs.declared.formula.Formula.TheVariants as form
use Rattle.sm_template.proofs.NameShapesLemmas.{side_sorted}
use Rattle.sm_template.proofs.TermsMade.{equation_made}
use Rattle.sm_template.proofs.terms.shaped.Goals as goal

pub returns-in_ok-t-in-Equal-clause-made : goal.returns-in_ok-t-in-Equal-clause-made
returns-in_ok-t-in-Equal-clause-made c =
    let w = c.sides.new.table in
    let x = c.args.x.0 in
    let sort = c.args.sort in
    let a = c.in-Equal.a in
    let b = c.in-Equal.b in
    let t = c.in_ok-t-in-Equal.t in
    let u = c.in_ok-t-in-Equal.u in
    let f : Formula = form.Eq t u in
    let known : sorts_in w x ≡ Some sort = ap (λ (g : Sorts). g x) c.sides.ensures.grows.sorts ∙ c.requires.declared in
    let fits = subst (FitsShape sort) c.in-Equal.is c.requires.fits in
    subst (λ (s : Shape). IsFormMade w f (shape_form (x, sort) s)) (sym c.in-Equal.is)
    (equation_made w f t.0 u.0 sort (side_tree x a) (side_tree x b) refl c.in_ok-t-in-Equal.ensures.first
    c.in_ok-t-in-Equal.ensures.second (side_sorted (sorts_in w) x sort known a fits.0).1)

pub returns-in_ok-t-in-Cells-clause-made : goal.returns-in_ok-t-in-Cells-clause-made
returns-in_ok-t-in-Cells-clause-made c =
    let w = c.cells.new.table in
    let x = c.args.x.0 in
    let a = c.in-Cells.a in
    let b = c.in-Cells.b in
    let t = c.in_ok-t-in-Cells.t in
    let u = c.in_ok-t-in-Cells.u in
    let f : Formula = form.Eq t u in
    subst (λ (s : Shape). IsFormMade w f (shape_form (x, c.args.sort) s)) (sym c.in-Cells.is)
    (equation_made w f t.0 u.0 Num (Read (side_tree x a) Cell) (Read (side_tree x b) Cell) refl c.in_ok-t-in-Cells.ensures.first
    c.in_ok-t-in-Cells.ensures.second refl)
