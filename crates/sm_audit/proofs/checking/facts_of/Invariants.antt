-- The facts so far.
use Rattle.sm_audit.proofs.Imports.{List, take, Sorts, Tree, as_facts, AllStand, AreFormsReady, forms_in}
use Rattle.sm_audit.proofs.checking.facts_of.Given as goal

abbrev pub invariant-loop-f : goal.invariant-loop-f
invariant-loop-f l =
    (sorts : Sorts) (trees : List Tree) → AreFormsReady sorts trees l.f-items →
    AllStand sorts trees l.list.items (as_facts (forms_in sorts trees (take l.f-index l.f-items)))
