use Rattle.sm_deps.proofs.Imports.{◌≡◌, ◌+◌, ℕ, Bool, map, drop, sym, ap, ◌∙◌, ⊎_elim, Expr, assigns, End, sequence, statement_of, code_of, Stmt, members, only, either}
use Rattle.sm_syntax.specs.declared.tree.Stmt.{Assign, Store}
use Rattle.sm_deps.proofs.MembersLemmas.{either-none, either-either, added_two, on_ok}
use Rattle.sm_deps.proofs.AssignsLemmas.{assigns-Skip, assigns-Hole, assigns-Assign, assigns-Store, assigns-If, assigns-drop, assigns-drop-end}
use Rattle.sm_deps.proofs.assigned.+add_block.Goals as goal

-- one statement more
pub add_block-loop-s-preserved : goal.add_block-loop-s-preserved
add_block-loop-s-preserved t c =
    let l = c.deref-s-items.result.now in
    let old = members c.loop-s.names in
    let here = assigns (statement_of c.s-item.result End) in
    let rest = assigns (sequence (map statement_of (drop (c.loop-s.s-index + 1) l)) End) in
    c.loop-s.invariant ∙ ap (either old) (assigns-drop l c.loop-s.s-index c.s-item.result c.loop-s-test.true c.s-item.is) ∙
    sym (either-either old here rest) ∙
    ap (λ (s : ℕ → Bool). either s rest) (sym c.in_ok-add_stmt.ensures)

-- all statements
pub add_block-returns : goal.add_block-returns
add_block-returns t c =
    let names = members c.loop-s.names in
    sym (c.loop-s.invariant ∙ ap (either names) (assigns-drop-end c.deref-s-items.result.now c.loop-s.s-index c.loop-s-test.false) ∙
    either-none names)

-- the names of both branches
pub add_stmt-returns-in_ok-add_block-in-If : goal.add_stmt-returns-in_ok-add_block-in-If
add_stmt-returns-in_ok-add_block-in-If t c =
    let x = c.in-If.c in
    let y = c.in-If.d in
    on_ok c.add_block-in-If.result c.add_block-in-If.ensures
    (added_two (members c.args.names.now) (members c.add_block.new.names) (members c.add_block-in-If.new.names) (assigns (code_of x))
    (assigns (code_of y))
    (assigns (statement_of c.args.s.now End))
    c.in_ok-add_block-in-If.ensures
    (ap (λ (s : Stmt). assigns (statement_of s End)) c.in-If.is ∙ assigns-If c.in-If.field-0 x y))

-- one name
pub add_stmt-returns-in-Assign : goal.add_stmt-returns-in-Assign
add_stmt-returns-in-Assign t c =
    let start = members c.args.names.now in
    let names : Stmt → ℕ → Bool = λ (s : Stmt). assigns (statement_of s End) in
    let x = c.in-Assign.x in
    let one : names c.args.s.now ≡ only x.0 =
    ⊎_elim (λ (is : (e : Expr) × (c.args.s.now ≡ Assign x e)). ap names is.1 ∙ assigns-Assign x is.0)
    (λ (is : (i : Expr) × (e : Expr) × (c.args.s.now ≡ Store x i e)). ap names is.2 ∙ assigns-Store x is.0 is.1) c.in-Assign.is in
    on_ok c.add_name.result c.add_name.ensures (λ more. more ∙ ap (either start) (sym one))

-- no name
pub add_stmt-returns-in-Skip : goal.add_stmt-returns-in-Skip
add_stmt-returns-in-Skip t c =
    let start = members c.args.names.now in
    sym (ap (λ (s : Stmt). either start (assigns (statement_of s End))) c.in-Skip.is ∙ ap (either start) assigns-Skip ∙ either-none start)

pub add_stmt-returns-in-Hole : goal.add_stmt-returns-in-Hole
add_stmt-returns-in-Hole t c =
    let start = members c.args.names.now in
    sym (ap (λ (s : Stmt). either start (assigns (statement_of s End))) c.in-Hole.is ∙ ap (either start) (assigns-Hole c.in-Hole.field-0) ∙
    either-none start)
