-- By what is so of the rows and of what is given.
use Rattle.sm_cc.proofs.Imports.{List, refl, sym, ap, subst, trees_in, sorts_in, TermId, placed_equations, placed_contraries, placed_of, Placed, RowsStand, ArePositions, ClassesValue, AreNumberedBy}
use Rattle.sm_cc.specs.declared.row.Row.{Row}
use Rattle.sm_cc.specs.Views.{trees_of}
use Rattle.sm_cc.proofs.PlacedLemmas.{classes_made}
use Rattle.sm_cc.proofs.ground.BaseClasses.of.Goals as goal

pub returns : goal.returns
returns c =
    let table = c.args.table.now in
    let trees = trees_in table in
    let v : ClassesValue = record { table = table; terms = c.args.terms.now.list.items; given = c.args.given.now } in
    let positions = c.in_ok-positions.positions in
    let rows = c.in_ok-rows.rows.items in
    let numbering = c.in_ok-rows.numbering in
    let stands = c.in_ok-rows.ensures in
    let closure = c.in_ok-closure.closure in
    let given = c.in_ok-closure.ensures.given in
    let tell = subst (λ (ids : List TermId). ArePositions trees (trees_of trees ids) positions) c.deref.ensures.value
    c.in_ok-positions.ensures in
    let stand = subst (λ (ids : List TermId). RowsStand (sorts_in table) (trees_of trees ids) rows) c.deref-2.ensures.value stands.stand in
    let numbered = subst (λ (ids : List TermId). AreNumberedBy table (trees_of trees ids) rows numbering) c.deref-2.ensures.value
    stands.numbered in
    let made =
    classes_made v positions tell rows stand c.requires.given (placed_equations positions v.given) (placed_contraries positions v.given) refl refl
    (placed_of closure) given in
    let counted =
    subst (λ (rs : List Row). AreNumberedBy table (trees_of trees v.terms) rs numbering) (sym (ap (λ (q : Placed). q.board.rows) given)) numbered in
    c.made_ground.ensures v c.requires.before made counted
