-- One line more is looked at.
use Rattle.sm_used.proofs.UsedLemmas.{one_looked}
use Rattle.sm_used.proofs.using.are_used.Goals as goal

pub loop-row-preserved-else-not-branch : goal.loop-row-preserved-else-not-branch
loop-row-preserved-else-not-branch c =
    one_looked c.args.rows.items c.loop-row.left.items c.pop.new.self.items c.in-Some.row c.loop-row.branches.items
    c.put_row.new.branches.items c.in-Some.ensures.items
    (λ lines know. let told = c.in_ok-put_row.ensures lines know in (told.0, told.1 cc)) c.loop-row.invariant

pub loop-row-preserved-else-not-branch-2 : goal.loop-row-preserved-else-not-branch-2
loop-row-preserved-else-not-branch-2 c =
    one_looked c.args.rows.items c.loop-row.left.items c.pop.new.self.items c.in-Some.row c.loop-row.branches.items
    c.put_row.new.branches.items c.in-Some.ensures.items
    (λ lines know. let told = c.in_ok-put_row.ensures lines know in (told.0, told.1 cc)) c.loop-row.invariant

pub loop-row-preserved : goal.loop-row-preserved
loop-row-preserved c =
    one_looked c.args.rows.items c.loop-row.left.items c.pop.new.self.items c.in-Some.row c.loop-row.branches.items
    c.put_row.new.branches.items c.in-Some.ensures.items
    (λ lines know. let told = c.in_ok-put_row.ensures lines know in (told.0, told.1 cc)) c.loop-row.invariant
