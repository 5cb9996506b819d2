-- The nodes of the whole plan, as the program puts them together.
use Rattle.sm_sided.proofs.Imports.{◌≡◌, ℕ, suc, ◌-◌, ◌<◌, Bool, true, false, if◌then◌else◌, List, [], ◌∷◌, ◌++◌, map, length, refl, ap, sym, ◌∙◌, arith, Code, End, Copy, O, A, B, M, Sorts, statement_of, statement_layer, sequence, code_of, Tree, is_over, simple_node, straight_before, numbered_last, plan_in, Simple, own_statements, summary_before, whole_plan}
use Rattle.sm_syntax.specs.declared.tree.Stmt.TheOpen as layer
use Rattle.sm_syntax.specs.declared.tree.Stmt.{Stmt, Stmt-F}
use Rattle.sm_syntax.specs.declared.tree.Block.{Block}
use Rattle.sm_syntax.proofs.Blocks.{block_is, statement_layer_is}
use Rattle.sm_plan.specs.Nodes as node
use Rattle.sm_plan.specs.Plans as plain
use Rattle.sm_expand.specs.declared.plan.Last.TheVariants as last
use Rattle.sm_expand.specs.declared.plan.Simple.TheVariants as simple
use Rattle.sm_expand.specs.NumberedPlans.{NumberedPlan, At, Over, More, Ends, plan_over}
use Rattle.sm_expand.specs.declared.plan.Plan.{Plan}
use Rattle.sm_expand.proofs.PlanViews.{plan_is, last_end}
use Rattle.sm_sided.specs.WholeNodes.{summary_nodes}
use Rattle.sm_moves.proofs.PiecesLemmas.{own-block}

-- one statement more
one_more : (s : Stmt) (k : Code) → (own_statements (statement_of s k) ≡ suc (own_statements k)) × (is_over (statement_of s k) ≡ false)
one_more s k =
    let l = statement_layer_is s in
    (ap (λ (f : Code → Code). own_statements (f k)) l.1 ∙ (of l.0).0, ap (λ (f : Code → Code). is_over (f k)) l.1 ∙ (of l.0).1)
  where
    of : (l : Stmt-F (Code → Code) Code)
        → (own_statements (statement_layer l k) ≡ suc (own_statements k)) × (is_over (statement_layer l k) ≡ false)
    of layer.Skip = (refl, refl)
    of (layer.Assign x e) = (refl, refl)
    of (layer.Store a i e) = (refl, refl)
    of (layer.If b c d) = (refl, refl)
    of (layer.While b c) = (refl, refl)
    of (layer.Hole h) = (refl, refl)

listed : (ss : List Stmt) → own_statements (sequence (map statement_of ss) End) ≡ length ss
listed [] = refl
listed (s ∷ ss) = (one_more s (sequence (map statement_of ss) End)).0 ∙ ap suc (listed ss)

-- one with statements isn't
pub filled_goes_on : (b : Block) (n : ℕ) → length b.list.items ≡ suc n → is_over (code_of b) ≡ false
filled_goes_on b n e = ap is_over (block_is b) ∙ of b.list.items e
  where
    of : (ss : List Stmt) → length ss ≡ suc n → is_over (sequence (map statement_of ss) End) ≡ false
    of [] e = absurd cc
    of (s ∷ ss) e = (one_more s (sequence (map statement_of ss) End)).1

-- nodes of which the first are told
straight_both : (ss rest : List Simple) (p : NumberedPlan) → straight_before (ss ++ rest) p ≡ straight_before ss (straight_before rest p)
straight_both [] rest p = refl
straight_both (s ∷ ss) rest p = ap (λ (q : NumberedPlan). At (simple_node s) (More q Over)) (straight_both ss rest p)

-- the nodes of a copy before a plan
nodes_before : (sorts : Sorts) (trees : List Tree) (program : Copy → Code) (copy : Copy) (n : ℕ) (p : NumberedPlan) →
    ((count : ℕ) → plan_over sorts trees (straight_before (simple.Abs n count ∷ []) p)
    ≡ plain.At (node.Abs copy count) (plain.More (plan_over sorts trees p) plain.Over))
    → plan_over sorts trees (straight_before (summary_nodes n (program copy)) p)
    ≡ summary_before program copy (plan_over sorts trees p)
nodes_before sorts trees program copy n p one = of (is_over (program copy))
  where
    of : (b : Bool) →
        plan_over sorts trees (straight_before (if b then [] else simple.Abs n (own_statements (program copy)) ∷ []) p)
        ≡ (if b then plan_over sorts trees p
        else plain.At (node.Abs copy (own_statements (program copy))) (plain.More (plan_over sorts trees p) plain.Over))
    of true = refl
    of false = one (own_statements (program copy))

-- all nodes, and then the end
pub all_nodes_are : (sorts : Sorts) (trees : List Tree) (program : Copy → Code) →
    plan_over sorts trees
    (straight_before
    ((((summary_nodes 0 (program O)) ++ summary_nodes 1 (program A)) ++ summary_nodes 2 (program B)) ++ summary_nodes 3 (program M))
    (At Ends Over))
    ≡ whole_plan program
all_nodes_are sorts trees program =
    let o = summary_nodes 0 (program O) in
    let a = summary_nodes 1 (program A) in
    let b = summary_nodes 2 (program B) in
    let m = summary_nodes 3 (program M) in
    let end : NumberedPlan = At Ends Over in
    ap (plan_over sorts trees)
    (straight_both ((o ++ a) ++ b) m end ∙ straight_both (o ++ a) b (straight_before m end)
    ∙ straight_both o a (straight_before b (straight_before m end)))
    ∙ nodes_before sorts trees program O 0 (straight_before a (straight_before b (straight_before m end))) (λ (count : ℕ). refl)
    ∙ ap (summary_before program O)
    (nodes_before sorts trees program A 1 (straight_before b (straight_before m end)) (λ (count : ℕ). refl)
    ∙ ap (summary_before program A)
    (nodes_before sorts trees program B 2 (straight_before m end) (λ (count : ℕ). refl)
    ∙ ap (summary_before program B) (nodes_before sorts trees program M 3 end (λ (count : ℕ). refl))))

-- the whole plan
pub whole_is : (sorts : Sorts) (trees : List Tree) (program : Copy → Code) (p : Plan) → p.last ≡ last.End →
    p.straight.list.items
    ≡ (((summary_nodes 0 (program O)) ++ summary_nodes 1 (program A)) ++ summary_nodes 2 (program B)) ++ summary_nodes 3 (program M)
    → plan_in sorts trees p ≡ whole_plan program
whole_is sorts trees program p ends nodes =
    ap (plan_over sorts trees)
    (plan_is p ∙ ap (straight_before p.straight.list.items) (ap numbered_last ends ∙ last_end)
    ∙ ap (λ (ss : List Simple). straight_before ss (At Ends Over)) nodes)
    ∙ all_nodes_are sorts trees program

-- nodes that are put one after the other
pub put_together : (w x y z none one two three four : List Simple) → none ≡ [] → one ≡ none ++ w → two ≡ one ++ x → three ≡ two ++ y →
    four ≡ three ++ z → four ≡ ((w ++ x) ++ y) ++ z
put_together w x y z none one two three four a b c d e =
    e
    ∙ ap (λ (l : List Simple). l ++ z)
    (d ∙ ap (λ (l : List Simple). l ++ y) (c ∙ ap (λ (l : List Simple). l ++ x) (b ∙ ap (λ (l : List Simple). l ++ w) a)))

-- the node of a block that has statements
pub node_of : (b : Block) (copy count : ℕ) → count ≡ length b.list.items → 0 < count →
    simple.Abs copy count ∷ [] ≡ summary_nodes copy (code_of b)
node_of b copy count e some =
    ap (λ (n : ℕ). simple.Abs copy n ∷ []) (e ∙ sym (own-block b))
    ∙ sym (ap (λ (over : Bool). if over then [] else simple.Abs copy (own_statements (code_of b)) ∷ [])
    (filled_goes_on b (count - 1) (omega arith)))
