-- By the place of the key, else one by one; without the key there is none.
use Rattle.sm_judge.proofs.Imports.{nat_eq, ap, sym, ◌∙◌, get, numbered}
use Rattle.sm_judge.proofs.KeyedLemmas.{none_keyed}
use Rattle.sm_judge.proofs.keyed.has_keyed.Goals as goal

pub returns-in-None : goal.returns-in-None
returns-in-None c =
    let place = get nat_eq c.args.places.now in
    none_keyed place c.args.list.now c.requires (numbered c.args.f.now) (ap place (sym c.key_of.ensures) ∙ sym c.in-None.ensures.value)
