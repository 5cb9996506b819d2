-- Cell by cell.
use Rattle.sm_replay.proofs.Imports.{ℤ, end_in, IsUpTo}
use Rattle.sm_replay.proofs.FirstBreakLeast.{seen_more}
use Rattle.sm_replay.proofs.first_break.least_in.Goals as goal

pub loop-p-preserved : goal.loop-p-preserved
loop-p-preserved c = record {
  found = c.lesser_at-least.ensures.found;
  old = λ (i : ℤ) (u : IsUpTo c.args.found i). c.lesser_at-least.ensures.old i (c.loop-p.invariant.old i u);
  new =
      seen_more (end_in c.args.ends.now) c.args.a.0 c.args.cells.now c.loop-p.p c.loop-p.least c.lesser_at-least.result
      c.loop-p.invariant.new c.lesser_at-least.ensures.old c.lesser_at-least.ensures.new;
}
