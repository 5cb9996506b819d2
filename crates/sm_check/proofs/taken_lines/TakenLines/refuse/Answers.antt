-- A bad line that is set aside goes before the one that can't be read.
use Rattle.sm_check.proofs.Imports.{Result, subst, sym, Word, ProofLine, next_standing, reads_exact, RefusesAt}
use Rattle.sm_check.proofs.AsideLemmas.{line_refused, stopped_before}
use Rattle.sm_check.proofs.taken_lines.TakenLines.refuse.Goals as goal

pub returns-in-Ok : goal.returns-in-Ok
returns-in-Ok g c = λ s r line none t.
    let all = c.in-Ok.ensures.ok s r t in
    line_refused c.take_aside.new.self s r line all c.unread.result
    (subst (λ (x : Result ProofLine Word). RefusesAt c.take_aside.new.self.number (next_standing s all.at x) c.unread.result)
    (sym (none (reads_exact all.at))) (c.unread.ensures s all.at all.stands))

pub returns-in-Err : goal.returns-in-Err
returns-in-Err g c = λ s r line none t. stopped_before s r line c.in-Err.stopped (c.in-Err.ensures.err s r t)
