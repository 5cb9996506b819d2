-- A value that is there stays at its place, and another goes last.
use Rattle.std.proofs.Common.{◌++◌, ◌∷◌, [], if◌then◌else◌, sym, ap, ◌∙◌}
use Rattle.sm_numbering.proofs.numbering.Numbering.add.Goals as goal

pub returns-in-Some-clause-values : goal.returns-in-Some-clause-values
returns-in-Some-clause-values g c =
    let ts = c.args.self.now in
    sym (ap (λ b. if b then ts else ts ++ c.args.value ∷ []) (sym c.in-Some.ensures.found))

pub put-requires-clause-same : goal.put-requires-clause-same
put-requires-clause-same g c = g.met.T.Eq.laws.refl c.args.value

pub put-requires-clause-new : goal.put-requires-clause-new
put-requires-clause-new g c = sym c.in-None.ensures.found

pub returns-clause-values : goal.returns-clause-values
returns-clause-values g c =
    let ts = c.args.self.now in
    c.in_ok-number.ensures.values ∙ sym (ap (λ b. if b then ts else ts ++ c.args.value ∷ []) (sym c.in-None.ensures.found))
