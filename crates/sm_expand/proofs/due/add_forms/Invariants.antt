-- The formulas so far stand behind the path.
use Rattle.sm_expand.proofs.Imports.{◌≡◌, List, ◌++◌, take, Sorts, Tree, forms_in, AreFormsReady}
use Rattle.sm_expand.proofs.due.add_forms.Given as goal

abbrev pub invariant-loop-f : goal.invariant-loop-f
invariant-loop-f l = record {
  added :
      (sorts : Sorts) (trees : List Tree) → forms_in sorts trees l.path.list.items
      ≡ forms_in sorts trees l.initial.path.list.items ++ forms_in sorts trees (take l.f-index l.f-items);
  ready :
      (sorts : Sorts) (trees : List Tree) → AreFormsReady sorts trees l.initial.path.list.items → AreFormsReady sorts trees l.f-items →
      AreFormsReady sorts trees l.path.list.items;
}
