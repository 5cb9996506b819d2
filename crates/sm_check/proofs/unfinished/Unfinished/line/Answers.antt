-- No byte that is kept ends a line.
use Rattle.sm_check.proofs.Imports.{subst, sym, HasNoEnd}
use Rattle.sm_check.proofs.EndedLines.{none-ended}
use Rattle.sm_check.proofs.unfinished.Unfinished.line.Goals as goal

pub returns-clause-no_end : goal.returns-clause-no_end
returns-clause-no_end c =
    subst HasNoEnd (sym c.deref.ensures.value) (none-ended c.args.self.now.bytes.items c.args.self.now.no_end)
