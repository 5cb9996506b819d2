use Rattle.sm_eval.proofs.Imports.{◌≡◌, ◌⊎◌, Some, IfErr, sym, ap, subst, ◌∙◌, truth_of, run, Code, End, condition_of, statement_of, code_of, Stmt, event, EvalError, Memory, meaning}
use Rattle.sm_syntax.proofs.Statements.{statement_of-While}
use Rattle.sm_eval.proofs.Turns.{answered, turns_event-turn, turns-turn}
use Rattle.sm_eval.proofs.runs.+run.Goals as goal

-- the guard held and the body ended, so a turn is over
pub run_loop-loop-left-preserved : goal.run_loop-loop-left-preserved
run_loop-loop-left-preserved t c =
    let b = condition_of c.args.c.now in
    let body = code_of c.args.b.now in
    let n = c.args.turns in
    let s = meaning c.loop-left.s in
    let next = meaning c.run_block.new.s in
    let guard = answered _ _ _ c.in_ok-truth.ensures in
    let holds = sym guard.1 ∙ c.if-branch.true in
    let inner = c.in_ok-run_block.ensures in
    record {
      sorts = inner.sorts ∙ c.loop-left.invariant.sorts;
      events =
          c.loop-left.invariant.events ∙
          turns_event-turn b (event n body) (run n body) c.loop-left.left s next c.if-left-eq0.false guard.0 holds inner.event inner.end;
      ends = c.loop-left.invariant.ends ∙ turns-turn (truth_of b) (run n body) c.loop-left.left s next c.if-left-eq0.false holds inner.end;
    }

-- the statement is the loop
pub run_stmt-returns-in-While-clause-err : goal.run_stmt-returns-in-While-clause-err
run_stmt-returns-in-While-clause-err t c =
    let same = ap (λ (s : Stmt). statement_of s End) c.in-While.is ∙ statement_of-While c.in-While.c c.in-While.d End in
    subst (λ (k : Code). IfErr c.run_loop.result (λ (e : EvalError). (e ≡ Memory) ⊎ (event c.args.turns k (meaning c.args.s.now) ≡ Some e)))
    (sym same)
    c.run_loop.ensures.err
