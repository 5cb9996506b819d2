-- The table has the sorts of the declared names.
use Rattle.calls.proofs.Imports.{sym, subst, Sorts, IsDeclaredIn}
use Rattle.std.specs.Bool.{OnTrue}
use Rattle.calls.proofs.scene.Scene.declares.Goals as goal

pub returns : goal.returns
returns c =
    subst (λ (sorts : Sorts). OnTrue c.is_declared.result (IsDeclaredIn sorts c.args.name.0))
    (sym c.args.self.now.declared) c.is_declared.ensures
