-- The six places, of which the first four stay.
use Rattle.sm_template.proofs.Imports.{◌≡◌, ◌∙◌, ℕ, Some, ap, Sorts, Sort, if_ok, numbered, Formula, sorts_in, stays_got, grows-twice, place, IsFormMade, adds_nothing}
use Rattle.sm_term.specs.Formulas as over
use Rattle.sm_template.proofs.TermsMade.{adds_made}
use Rattle.sm_template.proofs.terms.adds_nothing.Goals as goal

pub places-requires-2 : goal.places-requires-2
places-requires-2 c = record { declared = ap (λ (f : Sorts). f c.args.x.0) c.places.ensures.grows.sorts ∙ c.requires.declared }

pub places-requires-3 : goal.places-requires-3
places-requires-3 c =
    record { declared = ap (λ (f : Sorts). f c.args.x.0) (c.places-2.ensures.grows.sorts ∙ c.places.ensures.grows.sorts) ∙ c.requires.declared }

pub returns-in_err-a-clause-grows : goal.returns-in_err-a-clause-grows
returns-in_err-a-clause-grows c =
    grows-twice c.args.table.now c.places.new.table c.places-2.new.table c.places.ensures.grows c.places-2.ensures.grows

pub returns-in_err-m-clause-grows : goal.returns-in_err-m-clause-grows
returns-in_err-m-clause-grows c =
    let u = c.args.table.now in
    let v = c.places-2.new.table in
    let first = grows-twice u c.places.new.table v c.places.ensures.grows c.places-2.ensures.grows in
    grows-twice u v c.places-3.new.table first c.places-3.ensures.grows

pub returns-in_err-last-clause-grows : goal.returns-in_err-last-clause-grows
returns-in_err-last-clause-grows c =
    let u = c.args.table.now in
    let v = c.places-2.new.table in
    let first = grows-twice u c.places.new.table v c.places.ensures.grows c.places-2.ensures.grows in
    grows-twice u v c.places-3.new.table first c.places-3.ensures.grows

pub returns-clause-grows : goal.returns-clause-grows
returns-clause-grows c =
    let u = c.args.table.now in
    let v = c.places-2.new.table in
    let first = grows-twice u c.places.new.table v c.places.ensures.grows c.places-2.ensures.grows in
    grows-twice u v c.places-3.new.table first c.places-3.ensures.grows

pub returns-clause-made : goal.returns-clause-made
returns-clause-made c =
    let u = c.places.new.table in
    let v = c.places-2.new.table in
    let w = c.places-3.new.table in
    let first = c.places-2.ensures.grows in
    let second = c.places-3.ensures.grows in
    let name : ℕ × Sort = (c.args.x.0, c.args.sort) in
    let known : sorts_in w name.0 ≡ Some name.1 =
    ap (λ (f : Sorts). f c.args.x.0) (second.sorts ∙ first.sorts ∙ c.places.ensures.grows.sorts) ∙ c.requires.declared in
    let t = c.in_ok-t.t.0 in
    let s = c.in_ok-t.u.0 in
    let a = c.in_ok-a.a.0 in
    let b = c.in_ok-a.b.0 in
    let m = c.in_ok-m.m.0 in
    let o = c.in_ok-m.o.0 in
    let inner = over.Or (over.Ne a b) (over.Eq m o) in
    let last = numbered c.in_ok-last.last in
    if_ok c.either-2.result (λ (f : Formula). numbered f ≡ over.Or (over.Ne t s) last)
    (λ (f : Formula). IsFormMade w f (adds_nothing (place name))) c.either-2.ensures
    (λ (f : Formula) (e : numbered f ≡ over.Or (over.Ne t s) last).
    adds_made w name known f t s a b m o (e ∙ ap (over.Or (over.Ne t s)) c.in_ok-last.ensures)
    (stays_got v w second t _ (stays_got u v first t _ c.in_ok-t.ensures.first))
    (stays_got v w second s _ (stays_got u v first s _ c.in_ok-t.ensures.second))
    (stays_got v w second a _ c.in_ok-a.ensures.first)
    (stays_got v w second b _ c.in_ok-a.ensures.second)
    c.in_ok-m.ensures.first c.in_ok-m.ensures.second)
