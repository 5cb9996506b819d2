-- The formulas so far stand for those that were passed.
use Rattle.sm_solve.proofs.Imports.{◌≡◌, List, length, take, Sorts, Tree, all_numbered, assertions_in, AreFormulasWithin, AreTermsOf}
use Rattle.sm_solve.proofs.solving.renumbered_facts.Given as goal

abbrev pub invariant-loop-f : goal.invariant-loop-f
invariant-loop-f l = record {
  same : (sorts : Sorts) (trees others : List Tree) → AreTermsOf others l.numbers trees →
      AreFormulasWithin (length trees) (all_numbered l.facts) →
      assertions_in sorts others (all_numbered l.list.items) ≡ assertions_in sorts trees (all_numbered (take l.f-index l.facts));
  within : (trees others : List Tree) → AreTermsOf others l.numbers trees → AreFormulasWithin (length trees) (all_numbered l.facts) →
      AreFormulasWithin (length others) (all_numbered l.list.items);
}
