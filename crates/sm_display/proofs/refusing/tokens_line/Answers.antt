use Rattle.sm_display.proofs.Imports.{◌≡◌, ◌∙◌, ℕ, Option, Some, IfOk, subst, sym, misfit_of, ShowsTokens}
use Rattle.std.proofs.lemmas.List.{length-take-le}
use Rattle.sm_display.proofs.Refused.{front_at_fault, misfit_within}
use Rattle.sm_display.proofs.refusing.tokens_line.Goals as goal

pub slice_bounds-follow_line-end : goal.slice_bounds-follow_line-end
slice_bounds-follow_line-end c =
    sym (length-take-le c.in-Some.offset c.args.bytes.now
    (misfit_within c.args.bytes.now c.args.error c.in-Some.offset c.requires.first (sym c.misfit_of.ensures ∙ c.in-Some.is)))

pub returns-in-Some : goal.returns-in-Some
returns-in-Some c =
    let is : misfit_of c.args.error ≡ Some c.in-Some.offset = sym c.misfit_of.ensures ∙ c.in-Some.is in
    subst (λ (o : Option ℕ). IfOk c.follow_line.result (λ line. ShowsTokens c.args.bytes.now o line.items)) (sym is)
    c.follow_line.ensures
