-- What proofs of this crate name of definitions and of the lemmas of other crates.
pub use Rattle.std.proofs.Common.{Bool, Err, List, Ok, Option, Result, Some, [], ap, append-nil, arith, drop, false, get_or, if◌then◌else◌, inl, inr, length, map, max, nat_le, refl, reverse, rules, slice_get, subst, suc, sym, take, true, zero, ℕ, ◌++◌, ◌+◌, ◌-◌, ◌/◌, ◌<◌, ◌∙◌, ◌∷◌, ◌≡◌, ◌≤◌}
pub use Rattle.std.proofs.lemmas.List.{drop-map, length-append, length-drop, length-map, length-take, map-append, map_more, map_push, reverse-append, take-map, take_all, take_more}
pub use Rattle.std.specs.Prelude.{Box, Vec, option_to_list, unwrap_or}
pub use Rattle.std.specs.declared.alloc.Global.{Global}
pub use Rattle.std.specs.declared.rc.Rc.{Rc}
pub use Rattle.sm_syntax.specs.claim.ConflictFree.{A, B, Copy, M, O}
pub use Rattle.sm_syntax.specs.text.Parts.{by_copy}
pub use Rattle.sm_syntax.specs.text.Sorts.{Sorts}
pub use Rattle.sm_term.specs.Assertions.{And, Assertion}
pub use Rattle.sm_term.specs.Formulas.{assertion_in, numbered}
pub use Rattle.sm_term.specs.Terms.{Tree}
pub use Rattle.sm_term.specs.declared.formula.Formula.{Formula}
pub use Rattle.sm_plan.specs.Copies.{Copies, has, subsets}
pub use Rattle.sm_plan.specs.Masks.{set_of}
pub use Rattle.sm_plan.specs.Nodes.{Node, is_branching}
pub use Rattle.sm_plan.specs.ReadyStates.{AreFormsReady, IsFormReady}
pub use Rattle.sm_plan.specs.Views.{forms_in}
pub use Rattle.sm_plan.specs.declared.state.Formulas.{Formulas}
pub use Rattle.sm_expand.proofs.PlanViews.{last_block, last_loop, plan_is, plans_are}
pub use Rattle.sm_expand.specs.NumberedPlans.{ArePlansReady, At, Ends, Fork, IsKeepReady, IsPlanReady, NumberedNode, NumberedPlan, node_over, of_copy_or, plan_over, plans_before, plans_over}
pub use Rattle.sm_expand.specs.Views.{last_layer, numbered_last, numbered_plan, plan_in, plan_layer, plans_layer, simple_node, straight_before}
pub use Rattle.sm_expand.specs.declared.plan.Plans.{Plans, fold-Plans, fold-roll-Plans, roll-Plans}
pub use Rattle.sm_expand.specs.declared.plan.Simple.{Simple}
pub use Rattle.sm_moves.specs.CopySets.{members}
pub use Rattle.sm_sketch.specs.ChoiceViews.{AreAllReady, AreSomeReady, choice_in, picked_forms, plans_from, pointed, sites_among}
pub use Rattle.sm_sketch.specs.Choices.{all_chosen, conjoined, halved, kept_by, picked}
pub use Rattle.sm_sketch.specs.Errors.{TellsSketch}
pub use Rattle.sm_sketch.specs.Extents.{TellsExtent, added, drawn_where, greatest, most_branches, node_by, total_nodes}
pub use Rattle.sm_sketch.specs.NumberedSketches.{AreBelowReady, AreNodesReady, BlockSite, Draw, IsSiteReady, LoopSite, More, NumberedSite, NumberedSketch, NumberedSketches, Over, Plain, site_over, sketch_over, sketches_before, sketches_over}
pub use Rattle.sm_sketch.specs.SketchSites.{AreListsReady, forms_at, forms_below, forms_of, forms_of_all, shared_forms}
pub use Rattle.sm_sketch.specs.SketchSizes.{IsTooLarge, deepest_below, sizes_below, sketch_depth, sketch_size}
pub use Rattle.sm_sketch.specs.SketchViews.{AreSketchesReady, IsSketchReady, end_layer, fold_out-Sketch, numbered_end, numbered_sketch, numbered_sketches, sketch_in, sketch_layer, sketches_layer, stacked}
pub use Rattle.sm_sketch.specs.Sketches.{each_of, looped, plan_with, plans_with, site_at, sites_below, sites_of, then_draw, turns_then}
pub use Rattle.sm_sketch.specs.declared.sketch.SketchEnd.{SketchEnd, fold-roll-SketchEnd}
pub use Rattle.sm_sketch.specs.declared.sketch.Sketches.{Sketches, fold-roll-Sketches, fold_out-Sketches, out-Sketches, roll-Sketches}
