-- All templates of the sites so far.
use Rattle.sm_sketch.proofs.Imports.{◌≡◌, ℕ, List, map, take, Vec, Global, Sorts, Tree, all_chosen}
use Rattle.sm_sketch.proofs.AllChosen.{listed_at}
use Rattle.sm_sketch.proofs.choices.all_templates.Given as goal

abbrev pub invariant-loop-templates : goal.invariant-loop-templates
invariant-loop-templates l =
    (sorts : Sorts) (trees : List Tree) →
    map (λ (ns : Vec ℕ Global). ns.items) l.chosen.items
    ≡ all_chosen (map (listed_at sorts trees) (take l.templates-index l.templates-items))
