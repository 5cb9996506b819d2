use Rattle.std.proofs.Common.{◌≡◌, IsTrue, true, false, length, refl, sym, ◌∙◌, arith, rules}
use Rattle.sm_syntax.proofs.Matching.{one_more, matching, same_length, all_matching}
use Rattle.sm_syntax.proofs.same.+same_statement.Goals as goal

-- blocks of unlike lengths
pub same_block-returns-then-len : goal.same_block-returns-then-len
same_block-returns-then-len t c = (λ (h : IsTrue false). cc, λ same. absurd (c.if-len.true (let long : length c.args.a.now.list.items ≡ length c.args.b.now.list.items = same_length c.args.a.now c.args.b.now same in search rules)))

-- two statements differ
pub same_block-returns-then-not-same_stmt : goal.same_block-returns-then-not-same_stmt
same_block-returns-then-not-same_stmt t c = (λ (h : IsTrue false). cc, λ same. sym c.if-not-same_stmt.true ∙ c.same_stmt.ensures.1 (matching c.args.a.now c.args.b.now c.loop-i.i c.index.result.now c.index-in-loop-i.result.now c.index.ensures c.index-in-loop-i.ensures (omega arith) same))

-- one statement more
pub same_block-loop-i-preserved : goal.same_block-loop-i-preserved
same_block-loop-i-preserved t c = record { long = c.loop-i.invariant.long; same = one_more c.args.a.now.list.items c.args.b.now.list.items c.loop-i.i c.index.result.now c.index-in-loop-i.result.now c.index.ensures c.index-in-loop-i.ensures (omega arith) (omega arith) c.loop-i.invariant.same (c.same_stmt.ensures.0 c.if-not-same_stmt.false) }

-- all are the same
pub same_block-returns : goal.same_block-returns
same_block-returns t c = (λ (h : IsTrue true). all_matching c.args.a.now c.args.b.now c.loop-i.i c.loop-i.invariant.long (omega arith) c.loop-i.invariant.same, λ same. refl)
