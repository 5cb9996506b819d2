use Rattle.sm_cc.proofs.Imports.{◌≡◌, ℕ, length, refl, subst, arith, Adds}
use Rattle.sm_cc.specs.Closures.{Closure}
use Rattle.sm_cc.proofs.ClosuresLemmas.{noted}
use Rattle.sm_cc.proofs.closure.note.Goals as goal

pub returns-clause-adds : goal.returns-clause-adds
returns-clause-adds c =
    let old = c.args.c.now in
    let after : Closure = record old { entries = c.push.new.self } in
    subst (λ (n : ℕ). Adds old after n c.args.known) (let e : length old.entries.items ≡ c.len-number.result = omega (
      arith,
      c.len-number.ensures,
    ) in e)
    (noted old after (record { why = c.args.why; known = c.args.known }) c.requires.sound c.requires.follows refl refl refl refl
    c.in_ok-push.ensures.items)
