-- A line that is taken leads on.
use Rattle.sm_used.proofs.Imports.{line_of, Underway}
use Rattle.sm_used.proofs.CountedLemmas.{leads_on}
use Rattle.sm_used.proofs.counting.next_row.Goals as goal

pub returns-clause-counts : goal.returns-clause-counts
returns-clause-counts c = λ s exact p at.
    let led =
    leads_on s exact p (line_of c.args.line) c.line.new.self c.in_ok-_state._state
    (c.in_ok-_state.ensures.ok s (Underway exact p) at) in
    (c.facts-facts.ensures s exact p at, led.0, led.1, led.2)
