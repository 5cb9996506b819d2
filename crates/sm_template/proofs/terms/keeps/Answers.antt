-- The four places, of which the first two stay.
use Rattle.sm_template.proofs.Imports.{◌≡◌, ◌∙◌, ℕ, Some, ap, Sorts, Sort, copy_named, if_ok, numbered, Formula, sorts_in, stays_got, place, IsFormMade, keeps_change}
use Rattle.sm_term.specs.Formulas as over
use Rattle.sm_template.proofs.TermsMade.{keeps_made}
use Rattle.sm_template.proofs.terms.keeps.Goals as goal

pub places-requires-2 : goal.places-requires-2
places-requires-2 c = record { declared = ap (λ (f : Sorts). f c.args.x.0) c.places.ensures.grows.sorts ∙ c.requires.declared }

pub returns-clause-made : goal.returns-clause-made
returns-clause-made c =
    let v = c.places.new.table in
    let w = c.places-2.new.table in
    let grows = c.places-2.ensures.grows in
    let name : ℕ × Sort = (c.args.x.0, c.args.sort) in
    let copy = copy_named c.args.c in
    let known : sorts_in w name.0 ≡ Some name.1 =
    ap (λ (f : Sorts). f c.args.x.0) (grows.sorts ∙ c.places.ensures.grows.sorts) ∙ c.requires.declared in
    let t = c.in_ok-t.t.0 in
    let u = c.in_ok-t.u.0 in
    let a = c.in_ok-a.a.0 in
    let b = c.in_ok-a.b.0 in
    if_ok c.either.result (λ (f : Formula). numbered f ≡ over.Or (over.Eq t u) (over.Eq a b))
    (λ (f : Formula). IsFormMade w f (keeps_change (place name) copy)) c.either.ensures
    (λ (f : Formula) (e : numbered f ≡ over.Or (over.Eq t u) (over.Eq a b)).
    keeps_made w name known f copy t u a b e (stays_got v w grows t _ c.in_ok-t.ensures.first)
    (stays_got v w grows u _ c.in_ok-t.ensures.second) c.in_ok-a.ensures.first c.in_ok-a.ensures.second)
