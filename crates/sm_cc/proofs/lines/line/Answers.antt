-- Both terms are listed.
use Rattle.sm_cc.proofs.lines.line.Goals as goal

pub returns-in-Cong-clause-named : goal.returns-in-Cong-clause-named
returns-in-Cong-clause-named c = c.congruence.ensures.named c.args.terms.now c.term-t.ensures.listed c.term-u.ensures.listed
