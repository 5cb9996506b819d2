-- One place more.
use Rattle.sm_template.proofs.Imports.{◌≡◌, List, [], ◌∷◌, ◌++◌, length, map, take, get_or, sym, ap, subst, ◌∙◌, take_all, map-append, map_more, Name, sort_of, Sorts, Sort, Num, copy_named, Tree, Slot, trees_in, sorts_in, tree_at, AreBefore, TermId, grows-twice, tree_got, there, AreNumbered, trees_stay, before_append, widens_grown, longer, places_of}
use Rattle.sm_term.proofs.TreesLemmas.{before-later}
use Rattle.sm_plan.proofs.StartsMade.{pairs}
use Rattle.sm_template.proofs.PlacesMade.{places_made}
use Rattle.sm_template.proofs.SitesLemmas.{all_declared}
use Rattle.sm_template.proofs.TemplatesMade.{name_at}
use Rattle.sm_template.proofs.guards.places_of.Goals as goal

pub slot-requires : goal.slot-requires
slot-requires c =
    let ds : List (Name × Sort) = c.deref-d-items.result.now in
    let i = c.loop-d.d-index in
    let d : Name × Sort = (record { 0 = 0 }, Num) in
    let value = c.deref-d-items.ensures.value in
    let numbered : AreNumbered (pairs ds) = subst (λ (l : List (Name × Sort)). AreNumbered (pairs l)) (sym value) c.requires.numbered in
    let sorts : sorts_in c.loop-d.table ≡ sort_of (pairs ds) =
    c.loop-d.invariant.grows.sorts ∙ c.requires.declared ∙ ap (λ (l : List (Name × Sort)). sort_of (pairs l)) (sym value) in
    ap (λ (f : Sorts). f (get_or ds i d).0.0) sorts
    ∙ name_at (sort_of (pairs ds)) ds i d (all_declared (pairs ds) numbered) c.loop-d-test.true

pub loop-d-preserved : goal.loop-d-preserved
loop-d-preserved c =
    let v = c.args.table.now in
    let u = c.loop-d.table in
    let z = c.slot.new.table in
    let grows = c.slot.ensures.grows in
    let wider = widens_grown u z grows in
    let ds : List (Name × Sort) = c.deref-d-items.result.now in
    let i = c.loop-d.d-index in
    let d : Name × Sort = (record { 0 = 0 }, Num) in
    let old : List TermId = c.loop-d.list.items in
    let t : TermId = c.in_ok-slot.field-0 in
    let items : c.push.new.self.items ≡ old ++ t ∷ [] = c.in_ok-push.ensures.items in
    let place : Name × Sort → Tree = λ (e : Name × Sort). Slot (copy_named c.args.copy) e.0.0 in
    let tree : TermId → Tree = λ (r : TermId). tree_at (trees_in z) r.0 in
    let first : map tree old ≡ map place (take i ds) = trees_stay u z wider old c.loop-d.invariant.within ∙ c.loop-d.invariant.made in
    let second : tree t ≡ place (get_or ds i d) = tree_got (trees_in z) t.0 _ c.in_ok-slot.ensures.made in
    let n = length (trees_in z) in
    record {
      grows = grows-twice v u z c.loop-d.invariant.grows grows;
      made =
          ap (map tree) items
          ∙ map-append tree old (t ∷ [])
          ∙ (λ j. first j ++ second j ∷ [])
          ∙ sym (map_more place ds i d c.loop-d-test.true);
      within =
          subst (AreBefore n) (sym items)
          (before_append n old (t ∷ []) (before-later (length (trees_in u)) n (longer u z wider) old c.loop-d.invariant.within)
          (there (trees_in z) t.0 _ c.in_ok-slot.ensures.made, tt));
    }

pub returns-clause-store : goal.returns-clause-store
returns-clause-store c =
    let ds : List (Name × Sort) = c.deref-d-items.result.now in
    let copy = copy_named c.args.copy in
    let value = c.deref-d-items.ensures.value in
    let place : Name × Sort → Tree = λ (e : Name × Sort). Slot copy e.0.0 in
    places_made (trees_in c.loop-d.table) copy (record { list = c.loop-d.list }) ds
    (c.loop-d.invariant.made ∙ ap (map place) (take_all c.loop-d.d-index ds c.loop-d-test.false))
    (subst (λ (l : List (Name × Sort)). AreNumbered (pairs l)) (sym value) c.requires.numbered)
    ∙ ap (λ (f : Sorts). places_of f copy) (ap (λ (l : List (Name × Sort)). sort_of (pairs l)) value ∙ sym c.requires.declared)
