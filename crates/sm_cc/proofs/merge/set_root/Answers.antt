use Rattle.std.proofs.Common.{refl}
use Rattle.std.specs.Vec.{with_item}
use Rattle.sm_cc.specs.declared.closure.Closure.{Closure}
use Rattle.sm_cc.proofs.ClosuresLemmas.{root_set}
use Rattle.sm_cc.proofs.merge.set_root.Goals as goal

pub returns-clause-grows : goal.returns-clause-grows
returns-clause-grows c =
    let old = c.args.c.now in
    let new : Closure = record old { roots = with_item old.roots c.args.k c.args.e } in
    root_set old new c.args.k c.args.e c.requires.sound c.requires.left c.requires.noted refl refl refl refl refl
