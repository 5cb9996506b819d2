-- By the places.
use Rattle.sm_cc.proofs.Imports.{◌↔◌, ◌<◌, IsTrue, length, sym, subst, trees_in, tree_at, ClassesValue, setting_of}
use Rattle.sm_cc.specs.Classes.{Apart}
use Rattle.sm_cc.proofs.ClassesLemmas.{apart_of_their_places}
use Rattle.sm_cc.proofs.classes.Classes.apart.Goals as goal

pub returns : goal.returns
returns c =
    let inside = c.self.inside in
    let v : ClassesValue = record { table = inside.table.now; terms = inside.terms.now; given = inside.given.items } in
    let t = c.args.t in
    let u = c.args.u in
    let left = subst (λ (w : ClassesValue). t.0 < length (trees_in w.table)) (sym c.self.view_is) c.requires.left in
    let right = subst (λ (w : ClassesValue). u.0 < length (trees_in w.table)) (sym c.self.view_is) c.requires.right in
    let told = apart_of_their_places v inside.positions inside.places c.self.invariant t u left right c.apart.result c.place.result
    c.place-2.result
    c.place.ensures c.place-2.ensures c.apart.ensures in
    subst (λ (w : ClassesValue). IsTrue c.apart.result ↔ Apart (setting_of w) (tree_at (trees_in w.table) t.0)
    (tree_at (trees_in w.table) u.0))
    c.self.view_is told
