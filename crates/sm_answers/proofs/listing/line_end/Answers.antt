use Rattle.sm_check.proofs.PieceLemmas.{end_found, end_missing}
use Rattle.sm_answers.proofs.listing.line_end.Goals as goal

pub returns-clause-some : goal.returns-clause-some
returns-clause-some c = end_found c.args.bytes.now c.memchr.result c.memchr.ensures

pub returns-clause-none : goal.returns-clause-none
returns-clause-none c = end_missing c.args.bytes.now c.memchr.result c.memchr.ensures
