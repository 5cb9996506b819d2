-- The places with that of the last value.
use Rattle.std.proofs.Common.{◌≡◌, cond, Some, false, length, slice_get, sym, ap, ◌∙◌, subst}
use Rattle.std.specs.List.{list_any}
use Rattle.sm_numbering.specs.Places.{place_of, AreApart}
use Rattle.sm_numbering.proofs.PlaceLemmas.{apart_put, places_put, distinct}
use Rattle.sm_numbering.proofs.numbering.Numbering.put.Goals as goal
use Rattle.sm_lemmas.proofs.Lists.{get_last}

pub invariant_of-self-in-Ok : goal.invariant_of-self-in-Ok
invariant_of-self-in-Ok g c =
    let eq = g.T.PartialEq.eq in
    let ts = c.self.inside.list.items in
    let v = c.args.value in
    let k = c.args.key in
    let new = subst (λ l. list_any (eq v) l ≡ false) (sym c.self.view_is) c.requires.new in
    let whole = c.in_ok-push.ensures.items in (
      λ q. c.in-Ok.ensures.updates.0 q
          ∙ ap (cond (eq k q) (Some c.len-at.result)) (c.self.invariant.0 q)
          ∙ ap (λ n. cond (eq k q) (Some n) (place_of (eq q) ts)) (c.len-at.ensures ∙ sym (ap length c.self.view_is))
          ∙ places_put eq g.met.T.Eq.laws ts v k q c.requires.same new
          ∙ ap (place_of (eq q)) (sym whole),
      subst (AreApart eq) (sym whole) (apart_put eq g.met.T.Eq.laws ts v c.self.invariant.1 new),
    )

pub returns-in-Ok-clause-stored : goal.returns-in-Ok-clause-stored
returns-in-Ok-clause-stored g c =
    ap (slice_get c.push.new.self.items) (c.len-at.ensures ∙ sym (ap length c.self.view_is))
    ∙ ap (λ l. slice_get l (length c.self.inside.list.items)) c.in_ok-push.ensures.items
    ∙ get_last c.self.inside.list.items c.args.value

pub returns-in-Ok-clause-unique : goal.returns-in-Ok-clause-unique
returns-in-Ok-clause-unique g c =
    distinct g.T.PartialEq.eq c.push.new.self.items (invariant_of-self-in-Ok g c).1
