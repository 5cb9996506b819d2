-- What is read at a place is there.
use Rattle.std.proofs.lemmas.Option.{slice_get-get_or}
use Rattle.sm_cc.proofs.lines.term.Goals as goal

pub returns-clause-listed : goal.returns-clause-listed
returns-clause-listed c = (c.args.i, slice_get-get_or c.args.terms.now c.args.i _ c.requires)
