-- The marks after what is asked from a place on.
use Rattle.sm_houdini.proofs.Imports.{◌≡◌, ℕ, ◌≤◌, Bool, ◌&&◌, length, drop, trees_in, sorts_in, ExtendsTable, Choice, closing, owner_in, all_marked, rows, holds_but, leaves_out}
use Rattle.sm_expand.specs.Views.{dues_in}
use Rattle.sm_houdini.proofs.judging.judge_all.Given as goal

abbrev pub invariant-loop-left : goal.invariant-loop-left
invariant-loop-left l = record {
  marks : (passes : ℕ → ℕ → Bool) (choice : Choice) → rows l.initial.marks.sites.items ≡ all_marked passes 0 choice →
      rows l.marks.sites.items
      ≡ all_marked (λ s i. passes s i && holds_but (leaves_out l.nodes) (closing (sorts_in l.initial.table) l.round.reach)
      (owner_in l.round.owners.now) l.left (drop l.left (dues_in (sorts_in l.initial.table) (trees_in l.initial.table) l.round.dues.now)) s i) 0 choice;
  fits : l.left ≤ length l.round.dues.now;
  widens : ExtendsTable l.initial.table l.table;
}

abbrev pub decreases-loop-left : goal.decreases-loop-left
decreases-loop-left l = l.left
