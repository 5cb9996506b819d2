-- What is left to be settled.
use Rattle.sm_houdini.proofs.Imports.{◌≡◌, ◌-◌, sort_of, declared_of, ExtendsTable, choice_in, closing, IsAskedBefore, next_round, settled, total}
use Rattle.sm_text.specs.Tasks.{parts_of}
use Rattle.sm_houdini.proofs.rounds.settle.Given as goal

abbrev pub invariant-loop : goal.invariant-loop
invariant-loop g l = record {
  settles :
      settled (next_round (closing (sort_of (declared_of l.subject.task.now.shared.decls)) l.reach) (parts_of l.subject.task.now))
      (l.rounds - l.counter) (choice_in l.choice)
      ≡ settled (next_round (closing (sort_of (declared_of l.subject.task.now.shared.decls)) l.reach) (parts_of l.subject.task.now))
      (total (choice_in l.initial.choice)) (choice_in l.initial.choice);
  before : IsAskedBefore l.table l.reach l.subject.product.now.owners.items l.before;
  widens : ExtendsTable l.initial.table l.table;
}
