-- The declaration that was found declares the name.
use Rattle.calls.proofs.Imports.{IsTrue, List, map, subst, is_some, Name, Sort, Num, sort_of}
use Rattle.calls.proofs.DeclaredLemmas.{declared_at}
use Rattle.calls.proofs.scene.is_declared.Goals as goal

pub returns-then-d-name : goal.returns-then-d-name
returns-then-d-name c =
    subst
    (λ (ds : List (Name × Sort)). IsTrue (is_some (sort_of (map (λ (e : Name × Sort). (e.0.0, e.1)) ds) c.args.name.0)))
    c.deref-d-items.ensures.value
    (declared_at c.deref-d-items.result.now c.loop-d.d-index c.args.name.0 (record { 0 = 0 }, Num) c.loop-d-test.true c.if-d-name.true)
