-- The dues so far close.
use Rattle.sm_houdini.proofs.Imports.{◌≡◌, ℕ, [], drop, take, trees_in, sorts_in, ExtendsTable, Verdict, walk, asked, AreCollected, Outcome, final_outcome}
use Rattle.sm_expand.specs.Views.{dues_in}
use Rattle.sm_houdini.proofs.ending.end_in_turn.Given as goal

abbrev pub invariant-loop-due : goal.invariant-loop-due
invariant-loop-due l =
    let sorts = sorts_in l.initial.table in
    let ds = dues_in sorts (trees_in l.initial.table) l.dues in
    record {
      collected : AreCollected l.initial.table [] l.initial.trees.items →
          AreCollected l.table (asked (take l.due-index ds)) l.trees.items;
      closes : AreCollected l.initial.table [] l.initial.trees.items →
          (let whole : Outcome (ℕ × Verdict) = final_outcome (walk sorts l.reach) ds in
          whole ≡ final_outcome (walk sorts l.reach) (drop l.due-index ds));
      widens : ExtendsTable l.initial.table l.table;
    }
