-- The key of one fact more.
use Rattle.sm_judge.proofs.Imports.{◌<◌, nat_eq, length, arith, get}
use Rattle.std.proofs.Common.{ℕ}
use Rattle.sm_judge.proofs.KeyedLemmas.{keys_more}
use Rattle.sm_judge.proofs.keyed.places_of.Goals as goal

pub loop-n-preserved : goal.loop-n-preserved
loop-n-preserved c =
    keys_more (get nat_eq c.loop-n.places) (get nat_eq c.note.new.places) c.args.list.now c.loop-n.n c.key_of.result c.loop-n.n
    c.index-list-n.result c.loop-n-test.true c.index-list-n.is c.key_of.ensures c.in_ok-note.ensures c.loop-n.invariant

pub returns : goal.returns
returns c = λ (m : ℕ) (h : m < length c.args.list.now). c.loop-n.invariant m (omega (arith, h, c.loop-n-test.false))
