use Rattle.sm_trim.proofs.Imports.{◌≡◌, ◌+◌, ◌-◌, ◌<◌, ℕ, length, take, drop, subst, arith, lines_before, pruned, facts_past, Leaves}
use Rattle.sm_trim.proofs.TreesLemmas.{pruned_more}
use Rattle.sm_trim.proofs.pruning.prune_lines.Goals as goal

pub loop-i-preserved : goal.loop-i-preserved
loop-i-preserved c =
    let ls = c.args.lines.now in
    let i = c.loop-i.i in
    let within = c.loop-i.invariant.within in
    let some = c.loop-i-test.true in
    let less : i - 1 < length ls = omega arith in
    let here : i ≡ (i - 1) + 1 = omega arith in
    record {
      within = omega arith;
      left = λ trees at end leaves.
          pruned_more trees at end ls (i - 1) c.index-lines-i.result c.loop-i.left c.prune_line.new.below less c.index-lines-i.is
          (subst
          (λ (n : ℕ). Leaves trees (facts_past trees at (take n ls))
          (pruned (facts_past trees at (take n ls)) (lines_before trees (drop n ls) end)) c.loop-i.left) here
          (c.loop-i.invariant.left trees at end leaves))
          (λ a p h. c.in_ok-prune_line.ensures trees a p h);
    }
