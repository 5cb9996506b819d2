-- The plans of the sketches so far, and the sites that they have.
use Rattle.sm_sketch.proofs.Imports.{◌≡◌, ◌+◌, List, map, take, Sorts, Tree, plan_in, kept_by, choice_in, plans_from, sites_among, AreSomeReady, AreAllReady, numbered_sketch, sketch_in}
use Rattle.sm_sketch.proofs.planning.+planned.Given as goal

abbrev pub invariant-planned_all-loop-sketch : goal.invariant-planned_all-loop-sketch
invariant-planned_all-loop-sketch l = record {
  made :
      (sorts : Sorts) (trees : List Tree) → AreSomeReady sorts trees (map numbered_sketch l.sketch-items) →
      map (plan_in sorts trees) l.list.items
      ≡ plans_from (kept_by (choice_in l.choice)) l.initial.site (map (sketch_in sorts trees) (take l.sketch-index l.sketch-items));
  ready :
      (sorts : Sorts) (trees : List Tree) → AreSomeReady sorts trees (map numbered_sketch l.sketch-items) →
      AreAllReady sorts trees l.list.items;
  site :
      (sorts : Sorts) (trees : List Tree) →
      l.site ≡ l.initial.site + sites_among (map (sketch_in sorts trees) (take l.sketch-index l.sketch-items));
}
