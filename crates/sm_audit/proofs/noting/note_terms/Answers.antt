-- A term more.
use Rattle.sm_audit.proofs.SinceLemmas.{one_named, since_put}
use Rattle.sm_audit.proofs.noting.note_terms.Goals as goal

pub loop-t-preserved : goal.loop-t-preserved
loop-t-preserved c = λ sorts states trees all named.
    since_put sorts states trees c.loop-t.since.items c.note_term.new.since.items _ c.args.node c.note_term.ensures
    (c.loop-t.invariant sorts states trees all named)
    (one_named sorts states trees c.args.node c.args.terms.now c.loop-t.t-index _ named c.loop-t-test.true)
