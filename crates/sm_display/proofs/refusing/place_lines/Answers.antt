use Rattle.sm_display.proofs.Imports.{◌≡◌, ◌∙◌, ℕ, Option, Some, IfOk, subst, sym, offset_of, ShowsOffset}
use Rattle.sm_display.proofs.Refused.{offset_within}
use Rattle.sm_display.proofs.refusing.place_lines.Goals as goal

pub show_place-requires : goal.show_place-requires
show_place-requires c =
    offset_within c.args.bytes.now c.args.error c.in-Some.offset c.requires (sym c.offset_of.ensures ∙ c.in-Some.is)

pub returns-in-Some : goal.returns-in-Some
returns-in-Some c =
    let is : offset_of c.args.error ≡ Some c.in-Some.offset = sym c.offset_of.ensures ∙ c.in-Some.is in
    subst (λ (o : Option ℕ). IfOk c.show_place.result (λ lines. ShowsOffset c.args.bytes.now o lines.items)) (sym is)
    c.show_place.ensures
