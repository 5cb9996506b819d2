-- A plan that keeps no formula is ready over each table.
use Rattle.sm_expand.proofs.Imports.{◌≡◌, ◌==◌, ℕ, Some, None, if◌then◌else◌, List, [], ◌∷◌, ◌++◌, map, sym, ap, ◌∙◌, subst, Global, Box, sort_of, Sorts, Sort, Tree, NumberedPlan, IsKeepReady, IsPlanReady, simple_node, straight_before, numbered_plan, numbered_last, Plan, Simple}
use Rattle.sm_syntax.specs.declared.tree.Name.{Name}
use Rattle.sm_syntax.specs.declared.tree.Sort.TheVariants as sort
use Rattle.sm_expand.specs.declared.plan.Last.TheVariants as last
use Rattle.sm_expand.specs.declared.plan.Simple.TheVariants as simple
use Rattle.sm_expand.proofs.PlanViews.{plan_is, last_end, last_fork}

simple_ready : (sorts : Sorts) (trees : List Tree) (s : Simple) → IsKeepReady sorts trees (simple_node s)
simple_ready sorts trees (simple.Step copy) = tt
simple_ready sorts trees (simple.Abs copy n) = tt

straight_ready : (sorts : Sorts) (trees : List Tree) (ss : List Simple) (p : NumberedPlan) →
    IsPlanReady sorts trees p → IsPlanReady sorts trees (straight_before ss p)
straight_ready sorts trees [] p ready = ready
straight_ready sorts trees (s ∷ ss) p ready = (simple_ready sorts trees s, (straight_ready sorts trees ss p ready, tt))

-- a plan is ready for a table where that of its last node is
ready_by_last : (sorts : Sorts) (trees : List Tree) (p : Plan) (q : NumberedPlan) → numbered_last p.last ≡ q →
    IsPlanReady sorts trees q → IsPlanReady sorts trees (numbered_plan p)
ready_by_last sorts trees p q e ready =
    subst (IsPlanReady sorts trees) (sym (plan_is p ∙ ap (straight_before p.straight.list.items) e))
    (straight_ready sorts trees p.straight.list.items q ready)

-- nodes that end a plan
pub ends_ready : (p : Plan) → p.last ≡ last.End → (sorts : Sorts) (trees : List Tree) → IsPlanReady sorts trees (numbered_plan p)
ends_ready p e sorts trees = ready_by_last sorts trees p _ (ap numbered_last e ∙ last_end) (tt, tt)

-- a fork of two such plans
pub fork_ready : (p : Plan) (copy : ℕ) (one other : Box Plan Global) → p.last ≡ last.Fork copy one other →
    ((sorts : Sorts) (trees : List Tree) → IsPlanReady sorts trees (numbered_plan one.value)) →
    ((sorts : Sorts) (trees : List Tree) → IsPlanReady sorts trees (numbered_plan other.value)) →
    (sorts : Sorts) (trees : List Tree) → IsPlanReady sorts trees (numbered_plan p)
fork_ready p copy one other e first second sorts trees =
    ready_by_last sorts trees p _ (ap numbered_last e ∙ last_fork copy one other)
    (tt, (first sorts trees, (second sorts trees, tt)))

-- sorts by one declaration
pub one_number : (sorts : Sorts) (before items : List (Name × Sort)) (n : Name) →
    sorts ≡ sort_of (map (λ (e : Name × Sort). (e.0.0, e.1)) items) → before ≡ [] → items ≡ before ++ (n, sort.Num) ∷ [] → n.0 ≡ 0 →
    sorts 0 ≡ Some sort.Num
one_number sorts before items n e none more zero =
    let all : items ≡ (n, sort.Num) ∷ [] = more ∙ ap (λ (l : List (Name × Sort)). l ++ (n, sort.Num) ∷ []) none in
    ap (λ (s : Sorts). s 0) e
    ∙ ap (λ (l : List (Name × Sort)). sort_of (map (λ (d : Name × Sort). (d.0.0, d.1)) l) 0) all
    ∙ ap (λ (k : ℕ). if k == 0 then Some sort.Num else None) zero
