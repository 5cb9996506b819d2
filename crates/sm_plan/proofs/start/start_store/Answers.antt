-- One start value more.
use Rattle.sm_plan.proofs.Imports.{◌≡◌, List, [], ◌∷◌, ◌++◌, length, map, take, get_or, sym, ap, subst, ◌∙◌, take_more, take_all, map-append, Name, Sorts, Sort, Num, sort_of, Tree, Start, trees_in, tree_at, AreBefore, TermId, grows-twice, tree_got, there, before-later, AreNumbered}
use Rattle.std.proofs.Common.{is_some}
use Rattle.sm_plan.proofs.StartsMade.{pairs, declared_at, starts, trees_stay, before_append}
use Rattle.sm_plan.proofs.TablesWiden.{widens_grown, longer}
use Rattle.sm_plan.proofs.start.start_store.Goals as goal

pub made-requires-clause-within : goal.made-requires-clause-within
made-requires-clause-within c =
    let ds : List (Name × Sort) = c.deref-d-items.result.now in
    let i = c.loop-d.d-index in
    let d : Name × Sort = (record { 0 = 0 }, Num) in
    let sorts = c.loop-d.invariant.grows.sorts ∙ c.requires.declared in
    ap (λ (f : Sorts). is_some (f (get_or ds i d).0.0))
    (sorts ∙ ap (λ (l : List (Name × Sort)). sort_of (pairs l)) (sym c.deref-d-items.ensures.value))
    ∙ declared_at ds i d c.loop-d-test.true

pub returns-in_err-made-clause-grows : goal.returns-in_err-made-clause-grows
returns-in_err-made-clause-grows c = grows-twice c.args.table.now c.loop-d.table c.made.new.table c.loop-d.invariant.grows c.made.ensures.grows

pub returns-in_err-push-clause-grows : goal.returns-in_err-push-clause-grows
returns-in_err-push-clause-grows c = grows-twice c.args.table.now c.loop-d.table c.made.new.table c.loop-d.invariant.grows c.made.ensures.grows

pub loop-d-preserved : goal.loop-d-preserved
loop-d-preserved c =
    let v = c.args.table.now in
    let u = c.loop-d.table in
    let z = c.made.new.table in
    let g = c.made.ensures.grows in
    let wider = widens_grown u z g in
    let ds : List (Name × Sort) = c.deref-d-items.result.now in
    let i = c.loop-d.d-index in
    let d : Name × Sort = (record { 0 = 0 }, Num) in
    let old : List TermId = c.loop-d.list.items in
    let t : TermId = c.in_ok-made.field-0 in
    let items : c.push.new.self.items ≡ old ++ t ∷ [] = c.in_ok-push.ensures.items in
    let f : Name × Sort → Tree = λ (e : Name × Sort). Start e.0.0 in
    let a : TermId → Tree = λ (r : TermId). tree_at (trees_in z) r.0 in
    let first : map a old ≡ map f (take i ds) = trees_stay u z wider old c.loop-d.invariant.within ∙ c.loop-d.invariant.made in
    let second : a t ≡ f (get_or ds i d) = tree_got (trees_in z) t.0 _ c.in_ok-made.ensures.stored in
    let n = length (trees_in z) in
    record {
      grows = grows-twice v u z c.loop-d.invariant.grows g;
      made =
          ap (map a) items
          ∙ map-append a old (t ∷ [])
          ∙ (λ j. first j ++ second j ∷ [])
          ∙ sym (ap (map f) (take_more ds i d c.loop-d-test.true) ∙ map-append f (take i ds) (get_or ds i d ∷ []));
      within =
          subst (AreBefore n) (sym items)
          (before_append n old (t ∷ []) (before-later (length (trees_in u)) n (longer u z wider) old c.loop-d.invariant.within)
          (there (trees_in z) t.0 _ c.in_ok-made.ensures.stored, tt));
    }

pub returns-clause-store : goal.returns-clause-store
returns-clause-store c =
    let ds : List (Name × Sort) = c.deref-d-items.result.now in
    let f : Name × Sort → Tree = λ (e : Name × Sort). Start e.0.0 in
    starts (trees_in c.loop-d.table) (record { list = c.loop-d.list }) ds
    (c.loop-d.invariant.made ∙ ap (map f) (take_all c.loop-d.d-index ds c.loop-d-test.false))
    (subst (λ (l : List (Name × Sort)). AreNumbered (pairs l)) (sym c.deref-d-items.ensures.value) c.requires.numbered)
