use Rattle.std.proofs.Common.{sym, refl}
use Rattle.sm_check.proofs.MemoryLemmas.{ends_by_last, ends_by_none}
use Rattle.sm_check.proofs.in_memory.ends_whole.Goals as goal

pub returns-in-Some : goal.returns-in-Some
returns-in-Some c = ends_by_last c.args.bytes.now c.in-Some.last.now (sym c.in-Some.ensures.value)

pub returns-in-None : goal.returns-in-None
returns-in-None c = (λ _. ends_by_none c.args.bytes.now (sym c.in-None.ensures.value), λ _. refl)
