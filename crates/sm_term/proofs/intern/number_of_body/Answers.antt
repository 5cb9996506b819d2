-- A body that is there stays at its place, and another goes last.
use Rattle.sm_term.proofs.Imports.{◌++◌, ◌∷◌, [], if◌then◌else◌, refl, sym, ap, ◌∙◌, same_body-Decides}
use Rattle.sm_term.proofs.intern.number_of_body.Goals as goal

pub returns-in-Some-clause-values : goal.returns-in-Some-clause-values
returns-in-Some-clause-values c =
    let ts = c.args.bodies.now in
    sym (ap (λ b. if b then ts else ts ++ c.args.body ∷ []) (sym c.in-Some.ensures.found))

pub put-requires-clause-same : goal.put-requires-clause-same
put-requires-clause-same c = (same_body-Decides _ c.args.body).1 c.in_ok-key.ensures

pub put-requires-clause-new : goal.put-requires-clause-new
put-requires-clause-new c = sym c.in-None.ensures.found

pub returns-clause-values : goal.returns-clause-values
returns-clause-values c =
    let ts = c.args.bodies.now in
    c.in_ok-index.ensures.values ∙ sym (ap (λ b. if b then ts else ts ++ c.args.body ∷ []) (sym c.in-None.ensures.found))

pub returns-clause-stored : goal.returns-clause-stored
returns-clause-stored c = (
  c.args.body,
  c.in_ok-index.ensures.stored,
  (same_body-Decides c.args.body c.args.body).1 refl,
)
