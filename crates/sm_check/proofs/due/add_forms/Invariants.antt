-- The formulas so far stand behind the facts.
use Rattle.sm_check.proofs.Imports.{List, ◌++◌, take, Sorts, Tree, BranchFact, as_facts, AllStand, forms_in, AreFormsReady}
use Rattle.sm_check.proofs.due.add_forms.Given as goal

abbrev pub invariant-loop-f : goal.invariant-loop-f
invariant-loop-f l =
    (sorts : Sorts) (trees : List Tree) (facts : List BranchFact) → AllStand sorts trees l.initial.path.list.items facts →
    AreFormsReady sorts trees l.f-items →
    AllStand sorts trees l.path.list.items (facts ++ as_facts (forms_in sorts trees (take l.f-index l.f-items)))
