-- Each branching node leaves room for one less below it.
use Rattle.sm_drawing.proofs.Imports.{◌+◌, ◌*◌, List, map, Sorts, Tree, Over, plans_before, ArePlansReady, numbered_plan}
use Rattle.sm_drawing.proofs.trees.+draw.Given as goal

abbrev pub decreases-draw_fork : goal.decreases-draw_fork
decreases-draw_fork l = 7 * l.room

abbrev pub decreases-draw_loops : goal.decreases-draw_loops
decreases-draw_loops l = 7 * l.room

abbrev pub decreases-draw_last : goal.decreases-draw_last
decreases-draw_last l = 7 * l.room + 1

abbrev pub decreases-draw_nodes : goal.decreases-draw_nodes
decreases-draw_nodes l = 7 * l.room + 2

abbrev pub decreases-draw_works : goal.decreases-draw_works
decreases-draw_works l = 7 * l.room + 3

abbrev pub decreases-draw_branch : goal.decreases-draw_branch
decreases-draw_branch l = 7 * l.room + 4

abbrev pub decreases-draw_turn : goal.decreases-draw_turn
decreases-draw_turn l = 7 * l.room + 5

abbrev pub decreases-draw_side : goal.decreases-draw_side
decreases-draw_side l = 7 * l.room + 5

abbrev pub decreases-draw_after : goal.decreases-draw_after
decreases-draw_after l = 7 * l.room + 5

abbrev pub decreases-draw_turns : goal.decreases-draw_turns
decreases-draw_turns l = 7 * l.room + 6

-- each turn so far is ready over each table
abbrev pub invariant-draw_turns-loop-mask : goal.invariant-draw_turns-loop-mask
invariant-draw_turns-loop-mask l =
    (sorts : Sorts) (trees : List Tree) → ArePlansReady sorts trees (plans_before (map numbered_plan l.turns.items) Over)
