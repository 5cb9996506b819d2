-- What is given of the terms is given of their places.
use Rattle.sm_cc.proofs.Imports.{List, sym, subst, AreClasses, ClassesValue, IsTermOf, HaveOneSort, GivenFact}
use Rattle.sm_cc.proofs.ClassesLemmas.{place_below, classes_more}
use Rattle.sm_cc.proofs.classes.Classes.give.Goals as goal

pub note-requires-clause-left : goal.note-requires-clause-left
note-requires-clause-left c =
    let inside = c.self.inside in
    let v : ClassesValue = record { table = inside.table.now; terms = inside.terms.now; given = inside.given.items } in
    place_below v inside.positions inside.places c.self.invariant c.args.g.left
    (subst (λ (w : ClassesValue). IsTermOf w c.args.g.left) (sym c.self.view_is) c.requires.left) c.place-i.result c.place-i.ensures

pub note-requires-clause-right : goal.note-requires-clause-right
note-requires-clause-right c =
    let inside = c.self.inside in
    let v : ClassesValue = record { table = inside.table.now; terms = inside.terms.now; given = inside.given.items } in
    place_below v inside.positions inside.places c.self.invariant c.args.g.right
    (subst (λ (w : ClassesValue). IsTermOf w c.args.g.right) (sym c.self.view_is) c.requires.right) c.place-j.result c.place-j.ensures

pub invariant_of-self : goal.invariant_of-self
invariant_of-self c =
    let inside = c.self.inside in
    let v : ClassesValue = record { table = inside.table.now; terms = inside.terms.now; given = inside.given.items } in
    let g = c.args.g in
    let left = subst (λ (w : ClassesValue). IsTermOf w g.left) (sym c.self.view_is) c.requires.left in
    let right = subst (λ (w : ClassesValue). IsTermOf w g.right) (sym c.self.view_is) c.requires.right in
    let sorts = subst (λ (w : ClassesValue). HaveOneSort w.table g.left g.right) (sym c.self.view_is) c.requires.sorts in
    let more = classes_more v inside.positions inside.places c.self.invariant g (left, right, sorts) c.place-i.result c.place-j.result
    c.place-i.ensures c.place-j.ensures c.note.new.places c.in-Ok.ensures.places in
    subst (λ (given : List GivenFact).
    let w : ClassesValue = record { table = inside.table.now; terms = inside.terms.now; given = given } in
    AreClasses w inside.positions c.note.new.places) (sym c.in-Ok.ensures.given) more
