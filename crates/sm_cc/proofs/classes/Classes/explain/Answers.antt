-- By the places.
use Rattle.sm_cc.proofs.Imports.{◌<◌, ◌∙◌, length, map, sym, ap, subst, trees_in, sorts_in, tree_at, line_in, Same, Explain, AreLinesOf, AreStepsIn, step_line, ClassesValue, setting_of, equation_of}
use Rattle.sm_cc.specs.Views.{trees_of, numbers_of}
use Rattle.sm_cc.proofs.LinesLemmas.{places_of_same, steps_in, lines_explain}
use Rattle.sm_cc.proofs.classes.Classes.explain.Goals as goal

pub explain-requires-clause-same : goal.explain-requires-clause-same
explain-requires-clause-same c =
    let inside = c.self.inside in
    let v : ClassesValue = record { table = inside.table.now; terms = inside.terms.now; given = inside.given.items } in
    let t = c.args.t in
    let u = c.args.u in
    let left = subst (λ (w : ClassesValue). t.0 < length (trees_in w.table)) (sym c.self.view_is) c.requires.left in
    let right = subst (λ (w : ClassesValue). u.0 < length (trees_in w.table)) (sym c.self.view_is) c.requires.right in
    let same = subst (λ (w : ClassesValue). Same (setting_of w) (tree_at (trees_in w.table) t.0) (tree_at (trees_in w.table) u.0))
    (sym c.self.view_is) c.requires.same in
    places_of_same v inside.positions inside.places c.self.invariant t u left right c.place-i.result c.place-j.result
    c.place-i.ensures c.place-j.ensures same

pub lines-requires : goal.lines-requires
lines-requires c =
    let inside = c.self.inside in
    let v : ClassesValue = record { table = inside.table.now; terms = inside.terms.now; given = inside.given.items } in
    subst (AreStepsIn (length v.terms)) (sym c.deref.ensures.value)
    (steps_in v inside.positions inside.places c.self.invariant c.args.start c.in_ok-steps.steps.items c.place-i.result c.place-j.result
    c.in_ok-steps.ensures)

pub returns-clause-named : goal.returns-clause-named
returns-clause-named c =
    subst (λ (w : ClassesValue). AreLinesOf w.terms c.in_ok-lines.lines.items) c.self.view_is c.in_ok-lines.ensures.named

pub returns-clause-lines : goal.returns-clause-lines
returns-clause-lines c =
    let inside = c.self.inside in
    let v : ClassesValue = record { table = inside.table.now; terms = inside.terms.now; given = inside.given.items } in
    let t = c.args.t in
    let u = c.args.u in
    let left = subst (λ (w : ClassesValue). t.0 < length (trees_in w.table)) (sym c.self.view_is) c.requires.left in
    let right = subst (λ (w : ClassesValue). u.0 < length (trees_in w.table)) (sym c.self.view_is) c.requires.right in
    let lines = c.in_ok-lines.lines.items in
    let told = lines_explain v inside.positions inside.places c.self.invariant c.len.ensures.sorted t u left right
    c.place-i.result c.place-j.result c.place-i.ensures c.place-j.ensures c.args.start c.in_ok-steps.steps.items c.in_ok-steps.ensures
    lines (c.in_ok-lines.ensures.lines (trees_in v.table)
    ∙ ap (map (step_line (trees_of (trees_in v.table) v.terms))) c.deref.ensures.value) in
    subst (λ (w : ClassesValue). Explain (sorts_in w.table) (numbers_of w) (setting_of w).given c.args.start
    (map (line_in (trees_in w.table)) lines) (equation_of w.table t u))
    c.self.view_is told
