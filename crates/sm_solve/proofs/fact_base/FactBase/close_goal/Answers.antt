-- The facts are those without the contrary and its parts, and the terms those of the facts.
use Rattle.sm_solve.proofs.Imports.{ℕ, List, [], refl, take, slice_set, arith, ap, ◌∙◌, sym, Formula, with_formulas, room_for_goal}
use Rattle.sm_term.specs.declared.formula.Formula.TheVariants as tree
use Rattle.sm_solve.proofs.AtGoalLemmas.{closed, first_fits, first_closed, place_left}
use Rattle.sm_solve.proofs.fact_base.FactBase.close_goal.Goals as goal

pub index_mut-requires : goal.index_mut-requires
index_mut-requires c =
    let left = place_left c.requires.1 c.args.self.now c.args.count c.truncate.new.self.items c.truncate.ensures.items c.requires.4
    c.requires.3.there in
    let many = c.args.self.now.facts.ok.0 in
    omega (arith, left, many)

pub cut-requires : goal.cut-requires
cut-requires c =
    let fits = first_fits c.requires.0 c.requires.1 c.requires.2 c.args.self.now c.requires.3 in
    let len = c.requires.5 in
    omega (arith, fits, len)

pub returns : goal.returns
returns c = λ table given contrary at many len.
    let first = with_formulas (room_for_goal given) [] in
    let left = ap (λ (fs : List Formula). slice_set fs c.args.self.now.place tree.Yes)
    (c.truncate.ensures.items ∙ ap (λ (k : ℕ). take k c.args.self.now.facts.items) (sym many)) in
    closed table given contrary c.args.self.now _ at (c.cut.ensures table first at.more at.shared len (first_closed given))
    (c.truncate-2.ensures.items ∙ ap (λ (k : ℕ). take k c.args.self.now.forms.items) (sym len)) left refl refl refl
