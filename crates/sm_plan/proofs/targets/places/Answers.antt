-- Each place stays where the table grows.
use Rattle.sm_plan.proofs.Imports.{◌≡◌, ℕ, Some, slice_get, ap, ◌∙◌, Copy, O, A, B, M, Sorts, Sort, by_copy, trees_in, TermId, grows-twice, stays_got, place}
use Rattle.sm_plan.proofs.targets.places.Goals as goal

-- what holds of each of four
of_each : {T : Type 0} (P : T → Copy → Type 0) (o a b m : T) → P o O → P a A → P b B → P m M → (c : Copy) → P (by_copy o a b m c) c
of_each P o a b m po pa pb pm O = po
of_each P o a b m po pa pb pm A = pa
of_each P o a b m po pa pb pm B = pb
of_each P o a b m po pa pb pm M = pm

pub place-requires-2 : goal.place-requires-2
place-requires-2 c = ap (λ (f : Sorts). f c.args.x.0) c.place.ensures.grows.sorts ∙ c.requires

pub place-requires-3 : goal.place-requires-3
place-requires-3 c = ap (λ (f : Sorts). f c.args.x.0) (c.place-2.ensures.grows.sorts ∙ c.place.ensures.grows.sorts) ∙ c.requires

pub place-requires-4 : goal.place-requires-4
place-requires-4 c = ap (λ (f : Sorts). f c.args.x.0)
    (c.place-3.ensures.grows.sorts ∙ c.place-2.ensures.grows.sorts ∙ c.place.ensures.grows.sorts) ∙ c.requires

pub returns-in_err-variant_a-clause-grows : goal.returns-in_err-variant_a-clause-grows
returns-in_err-variant_a-clause-grows c =
    grows-twice c.args.table.now c.place.new.table c.place-2.new.table c.place.ensures.grows c.place-2.ensures.grows

pub returns-in_err-variant_b-clause-grows : goal.returns-in_err-variant_b-clause-grows
returns-in_err-variant_b-clause-grows c =
    let z = c.place-3.new.table in
    let g2 = grows-twice c.place.new.table c.place-2.new.table z c.place-2.ensures.grows c.place-3.ensures.grows in
    grows-twice c.args.table.now c.place.new.table z c.place.ensures.grows g2

pub returns-in_err-candidate-clause-grows : goal.returns-in_err-candidate-clause-grows
returns-in_err-candidate-clause-grows c =
    let z = c.place-4.new.table in
    let g3 = grows-twice c.place-2.new.table c.place-3.new.table z c.place-3.ensures.grows c.place-4.ensures.grows in
    let g2 = grows-twice c.place.new.table c.place-2.new.table z c.place-2.ensures.grows g3 in
    grows-twice c.args.table.now c.place.new.table z c.place.ensures.grows g2

pub returns-clause-grows : goal.returns-clause-grows
returns-clause-grows c =
    let z = c.place-4.new.table in
    let g3 = grows-twice c.place-2.new.table c.place-3.new.table z c.place-3.ensures.grows c.place-4.ensures.grows in
    let g2 = grows-twice c.place.new.table c.place-2.new.table z c.place-2.ensures.grows g3 in
    grows-twice c.args.table.now c.place.new.table z c.place.ensures.grows g2

pub returns-clause-made : goal.returns-clause-made
returns-clause-made c =
    let z = c.place-4.new.table in
    let g4 = c.place-4.ensures.grows in
    let g3 = grows-twice c.place-2.new.table c.place-3.new.table z c.place-3.ensures.grows g4 in
    let g2 = grows-twice c.place.new.table c.place-2.new.table z c.place-2.ensures.grows g3 in
    let o : ℕ × Sort = (c.args.x.0, c.args.sort) in
    of_each (λ (t : TermId) (d : Copy). slice_get (trees_in z) t.0 ≡ Some (place o d)) c.in_ok-base.base c.in_ok-variant_a.variant_a
    c.in_ok-variant_b.variant_b c.in_ok-candidate.candidate
    (stays_got c.place.new.table z g2 c.in_ok-base.base.0 _ c.in_ok-base.ensures.made)
    (stays_got c.place-2.new.table z g3 c.in_ok-variant_a.variant_a.0 _ c.in_ok-variant_a.ensures.made)
    (stays_got c.place-3.new.table z g4 c.in_ok-variant_b.variant_b.0 _ c.in_ok-variant_b.ensures.made)
    c.in_ok-candidate.ensures.made
