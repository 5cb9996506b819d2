-- A term more.
use Rattle.sm_audit.proofs.spreading.spread.Goals as goal

pub loop-n-preserved : goal.loop-n-preserved
loop-n-preserved c = λ states all. c.spread_one.ensures states (c.loop-n.invariant states all)
