-- The sign that closes a list stands behind its fillings.
use Rattle.sm_syntax.specs.trees.Programs.{fillings_of}
use Rattle.sm_text.specs.rules.Reading as spec
use Rattle.sm_text.proofs.Sound.Loops.{followed-reads}
use Rattle.sm_text.proofs.rules.sections.list.Goals as goal

pub returns : goal.returns
unfolding spec.list
returns c =
    rw (c.in_ok-after.ensures, c.in_ok-after-2.ensures, c.in_ok-fillings.ensures)
    (followed-reads fillings_of _ _ _ c.followed.result c.followed.ensures.ok c.followed.ensures.err)
