-- The last statement says.
use Rattle.sm_plan.proofs.Imports.{◌≡◌, ◌+◌, ◌-◌, length, sym, ap, ◌∙◌, arith, End, statement_of, last_guard}
use Rattle.sm_syntax.proofs.Statements.{statement_of-Skip, statement_of-Assign, statement_of-Store, statement_of-If, statement_of-While, statement_of-Hole}
use Rattle.sm_plan.proofs.LastGuards.{last_of_block}
use Rattle.sm_plan.proofs.summaries.last_guard.Goals as goal

pub returns-in-Skip : goal.returns-in-Skip
returns-in-Skip c =
    let l = c.args.block.now.list in
    let n : (c.len-len.result - 1) + 1 ≡ length l.items = omega (arith, c.if-len-eq0.false, c.len-len.ensures, l.ok.0) in
    sym (last_of_block c.args.block.now (c.len-len.result - 1) c.index.result.now n c.index.ensures
    ∙ ap (λ s. last_guard (statement_of s End)) c.in-Skip.is ∙ ap last_guard (statement_of-Skip End))

pub returns-in-Assign : goal.returns-in-Assign
returns-in-Assign c =
    let l = c.args.block.now.list in
    let n : (c.len-len.result - 1) + 1 ≡ length l.items = omega (arith, c.if-len-eq0.false, c.len-len.ensures, l.ok.0) in
    sym (last_of_block c.args.block.now (c.len-len.result - 1) c.index.result.now n c.index.ensures
    ∙ ap (λ s. last_guard (statement_of s End)) c.in-Assign.is
    ∙ ap last_guard (statement_of-Assign c.in-Assign.field-0 c.in-Assign.field-1 End))

pub returns-in-Store : goal.returns-in-Store
returns-in-Store c =
    let l = c.args.block.now.list in
    let n : (c.len-len.result - 1) + 1 ≡ length l.items = omega (arith, c.if-len-eq0.false, c.len-len.ensures, l.ok.0) in
    sym (last_of_block c.args.block.now (c.len-len.result - 1) c.index.result.now n c.index.ensures
    ∙ ap (λ s. last_guard (statement_of s End)) c.in-Store.is
    ∙ ap last_guard (statement_of-Store c.in-Store.field-0 c.in-Store.field-1 c.in-Store.field-2 End))

pub returns-in-If : goal.returns-in-If
returns-in-If c =
    let l = c.args.block.now.list in
    let n : (c.len-len.result - 1) + 1 ≡ length l.items = omega (arith, c.if-len-eq0.false, c.len-len.ensures, l.ok.0) in
    sym (last_of_block c.args.block.now (c.len-len.result - 1) c.index.result.now n c.index.ensures
    ∙ ap (λ s. last_guard (statement_of s End)) c.in-If.is
    ∙ ap last_guard (statement_of-If c.in-If.field-0 c.in-If.field-1 c.in-If.field-2 End))

pub returns-in-Hole : goal.returns-in-Hole
returns-in-Hole c =
    let l = c.args.block.now.list in
    let n : (c.len-len.result - 1) + 1 ≡ length l.items = omega (arith, c.if-len-eq0.false, c.len-len.ensures, l.ok.0) in
    sym (last_of_block c.args.block.now (c.len-len.result - 1) c.index.result.now n c.index.ensures
    ∙ ap (λ s. last_guard (statement_of s End)) c.in-Hole.is ∙ ap last_guard (statement_of-Hole c.in-Hole.field-0 End))

pub returns-in-While : goal.returns-in-While
returns-in-While c =
    let l = c.args.block.now.list in
    let n : (c.len-len.result - 1) + 1 ≡ length l.items = omega (arith, c.if-len-eq0.false, c.len-len.ensures, l.ok.0) in
    sym (last_of_block c.args.block.now (c.len-len.result - 1) c.index.result.now n c.index.ensures
    ∙ ap (λ s. last_guard (statement_of s End)) c.in-While.is
    ∙ ap last_guard (statement_of-While c.in-While.guard c.in-While.field-1 End))
