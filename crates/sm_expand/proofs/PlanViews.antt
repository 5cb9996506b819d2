-- The plans that trees of the program stand for, by how they end.
use Rattle.sm_expand.proofs.Imports.{◌≡◌, ℕ, List, map, sym, ap, ◌∙◌, Box, Global, by_copy, numbered, Formula, fold-roll-Last, NumberedPlan, At, Over, More, Fork, Loop, Block, Dead, Ends, plans_before, straight_before, last_layer, plan_layer, plans_layer, numbered_plan, numbered_last, Plan, fold_out-Plan, Plans, out-Plans, fold-Plans, fold_out-Plans}
use Rattle.sm_expand.specs.declared.plan.Last.TheOpen as layer
use Rattle.sm_expand.specs.declared.plan.Last.TheVariants as last
use Rattle.sm_expand.specs.declared.plan.Last.TheVariants.{rolls-Fork, rolls-Loop, rolls-Block, rolls-Dead, rolls-End}

-- a plan is its simple nodes, and then its last one
pub plan_is : (p : Plan) → numbered_plan p ≡ straight_before p.straight.list.items (numbered_last p.last)
plan_is p = fold_out-Plan NumberedPlan NumberedPlan (List NumberedPlan) last_layer plan_layer plans_layer p

-- plans
pub plans_are : (ps : Plans) →
    fold-Plans NumberedPlan NumberedPlan (List NumberedPlan) last_layer plan_layer plans_layer ps
    ≡ map numbered_plan (out-Plans ps).list.items
plans_are ps = fold_out-Plans NumberedPlan NumberedPlan (List NumberedPlan) last_layer plan_layer plans_layer ps

pub last_fork : (copy : ℕ) (one other : Box Plan Global) →
    numbered_last (last.Fork copy one other) ≡ At (Fork copy) (More (numbered_plan one.value) (More (numbered_plan other.value) Over))
last_fork copy one other =
    ap numbered_last (sym (rolls-Fork copy one other))
    ∙ fold-roll-Last NumberedPlan NumberedPlan (List NumberedPlan) last_layer plan_layer plans_layer (layer.Fork copy one other)

pub last_loop : (set : ℕ) (keep : Formula) (turns : Plans) (after : Box Plan Global) →
    numbered_last (last.Loop set keep turns after)
    ≡ At (Loop set (numbered keep)) (plans_before (map numbered_plan (out-Plans turns).list.items) (More (numbered_plan after.value) Over))
last_loop set keep turns after =
    ap numbered_last (sym (rolls-Loop set keep turns after))
    ∙ fold-roll-Last NumberedPlan NumberedPlan (List NumberedPlan) last_layer plan_layer plans_layer (layer.Loop set keep turns after)
    ∙ ap (λ (ps : List NumberedPlan). At (Loop set (numbered keep)) (plans_before ps (More (numbered_plan after.value) Over)))
    (plans_are turns)

pub last_block : (k0 k1 k2 k3 : ℕ) (keep : Formula) (inner after : Box Plan Global) →
    numbered_last (last.Block k0 k1 k2 k3 keep inner after)
    ≡ At (Block (by_copy k0 k1 k2 k3) (numbered keep)) (More (numbered_plan inner.value) (More (numbered_plan after.value) Over))
last_block k0 k1 k2 k3 keep inner after =
    ap numbered_last (sym (rolls-Block k0 k1 k2 k3 keep inner after))
    ∙ fold-roll-Last NumberedPlan NumberedPlan (List NumberedPlan) last_layer plan_layer plans_layer
    (layer.Block k0 k1 k2 k3 keep inner after)

pub last_dead : numbered_last last.Dead ≡ At Dead Over
last_dead =
    ap numbered_last (sym rolls-Dead)
    ∙ fold-roll-Last NumberedPlan NumberedPlan (List NumberedPlan) last_layer plan_layer plans_layer layer.Dead

pub last_end : numbered_last last.End ≡ At Ends Over
last_end =
    ap numbered_last (sym rolls-End)
    ∙ fold-roll-Last NumberedPlan NumberedPlan (List NumberedPlan) last_layer plan_layer plans_layer layer.End
