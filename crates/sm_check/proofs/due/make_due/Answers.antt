-- What waits last is taken from what waits.
use Rattle.sm_term.specs.Tables.{trees_in, sorts_in}
use Rattle.sm_check.proofs.due.make_due.Goals as goal

pub invariant_of-walk : goal.invariant_of-walk
invariant_of-walk c =
    let w = c.walk.inside in
    record {
      numbered = c.walk.invariant.numbered;
      named = c.walk.invariant.named;
      rows = c.walk.invariant.rows;
      first = c.walk.invariant.first;
      later = c.next_due.ensures.later (sorts_in w.table) (trees_in w.table) c.walk.invariant.later;
    }

pub invariant_of-walk-2 : goal.invariant_of-walk-2
invariant_of-walk-2 c =
    let w = c.walk.inside in
    record {
      numbered = c.walk.invariant.numbered;
      named = c.walk.invariant.named;
      rows = c.walk.invariant.rows;
      first = c.in_ok-due.ensures.ready (sorts_in w.table) (trees_in w.table) c.walk.invariant.later;
      later = c.next_due.ensures.later (sorts_in w.table) (trees_in w.table) c.walk.invariant.later;
    }
