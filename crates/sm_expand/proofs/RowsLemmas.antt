-- The rows of nodes, and the places below them.
use Rattle.sm_expand.proofs.Imports.{◌≡◌, ℕ, nat_le, if◌then◌else◌, Bool, false, Option, Some, None, List, [], ◌∷◌, ◌++◌, slice_get, map, refl, sym, ap, ◌∙◌, subst, Box, Global, copy_of, Sorts, Formula, Tree, Last, NumberedNode, NumberedPlan, Over, More, node_over, head, below, list_of, plans_before, IsRowOf, simple_node, straight_before, numbered_plan, numbered_last, Plan, Simple, Plans, out-Plans}
use Rattle.sm_plan.specs.declared.node.NodeRow.{NodeRow}
use Rattle.sm_plan.specs.Nodes as plain
use Rattle.sm_expand.specs.declared.plan.Last.TheVariants as last
use Rattle.sm_expand.specs.declared.plan.Simple.TheVariants as simple
use Rattle.sm_expand.proofs.PlanViews.{last_fork, last_loop}

-- the first simple node, or none
pub first_simple : (ss : List Simple) (s : Simple) (p : NumberedPlan) → Some s ≡ slice_get ss 0 →
    head (straight_before ss p) ≡ simple_node s
first_simple [] s p e = absurd cc
first_simple (x ∷ ss) s p e = let same : x ≡ s = cc in ap simple_node same

pub first_none : (ss : List Simple) (p : NumberedPlan) → None ≡ slice_get ss 0 → straight_before ss p ≡ p
first_none [] p e = refl
first_none (x ∷ ss) p e = absurd cc

-- a node that has no row
no_row : (sorts : Sorts) (trees : List Tree) (n : NumberedNode) (r : Option NodeRow) (rule : ℕ) →
    node_over sorts trees n ≡ plain.Unfit rule →
    r ≡ None → IsRowOf sorts trees n r
no_row sorts trees n r rule h e = subst (IsRowOf sorts trees n) (sym e) (rule, h)

pub no_step : (sorts : Sorts) (trees : List Tree) (s : Simple) (copy : ℕ) (r : Option NodeRow) → s ≡ simple.Step copy →
    nat_le copy 3 ≡ false →
    r ≡ None → IsRowOf sorts trees (simple_node s) r
no_step sorts trees s copy r is h e =
    no_row sorts trees (simple_node s) r 1
    (ap (λ (x : Simple). node_over sorts trees (simple_node x)) is
    ∙ ap (λ (b : Bool). if b then plain.Step (copy_of copy) else plain.Unfit 1) h) e

pub no_abs : (sorts : Sorts) (trees : List Tree) (s : Simple) (copy n : ℕ) (r : Option NodeRow) → s ≡ simple.Abs copy n →
    nat_le copy 3 ≡ false →
    r ≡ None → IsRowOf sorts trees (simple_node s) r
no_abs sorts trees s copy n r is h e =
    no_row sorts trees (simple_node s) r 2
    (ap (λ (x : Simple). node_over sorts trees (simple_node x)) is
    ∙ ap (λ (b : Bool). if b then plain.Abs (copy_of copy) n else plain.Unfit 2) h) e

pub no_fork : (sorts : Sorts) (trees : List Tree) (l : Last) (copy : ℕ) (one other : Box Plan Global) (r : Option NodeRow) →
    l ≡ last.Fork copy one other → nat_le copy 3 ≡ false → r ≡ None → IsRowOf sorts trees (head (numbered_last l)) r
no_fork sorts trees l copy one other r is h e =
    no_row sorts trees (head (numbered_last l)) r 3
    (ap (λ (x : Last). node_over sorts trees (head (numbered_last x))) is
    ∙ ap (λ (p : NumberedPlan). node_over sorts trees (head p)) (last_fork copy one other)
    ∙ ap (λ (b : Bool). if b then plain.Fork (copy_of copy) else plain.Unfit 3) h) e

-- the plans below loops
listed_before : (ps : List NumberedPlan) (q : NumberedPlan) → list_of (plans_before ps (More q Over)) ≡ ps ++ q ∷ []
listed_before [] q = refl
listed_before (p ∷ ps) q = ap (λ (l : List NumberedPlan). p ∷ l) (listed_before ps q)

pub loop_below : (l : Last) (set : ℕ) (keep : Formula) (turns : Plans) (after : Box Plan Global) → l ≡ last.Loop set keep turns after →
    list_of (below (numbered_last l)) ≡ map numbered_plan (out-Plans turns).list.items ++ numbered_plan after.value ∷ []
loop_below l set keep turns after is =
    ap (λ (x : Last). list_of (below (numbered_last x))) is ∙ ap (λ (p : NumberedPlan). list_of (below p)) (last_loop set keep turns after)
    ∙ listed_before (map numbered_plan (out-Plans turns).list.items) (numbered_plan after.value)
