use Rattle.sm_cc.proofs.Imports.{refl, sym, subst, IsSound}
use Rattle.sm_cc.specs.Closures.{Closure, Given}
use Rattle.sm_cc.proofs.PlacesLemmas.{sound_equal}
use Rattle.sm_cc.proofs.places.PlaceClasses.assume.Goals as goal

pub settle-requires : goal.settle-requires
settle-requires c =
    let old = c.replace-inside.result in
    let new : Closure = record old { equal = c.push.new.self } in
    let g : Given = record { fact = c.args.fact; left = c.args.i; right = c.args.j } in
    sound_equal old new g (subst IsSound (sym c.replace-inside.ensures.value) c.self.invariant.sound) c.in_ok-push.ensures.items refl
    refl refl refl
