use Rattle.std.proofs.Common.{◌≡◌, ℕ}
use Rattle.sm_proof.specs.Lines.{line_of}
use Rattle.sm_write.proofs.RereadingLemmas.{next_part}
use Rattle.sm_write.proofs.rereading.next_line.Goals as goal

pub returns-in-Ok-clause-read : goal.returns-in-Ok-clause-read
returns-in-Ok-clause-read c = λ l rest is readable.
    next_part c.args.text.now l (line_of c.in-Ok.line) rest c.in-Ok.size is readable c.in-Ok.ensures.ok c.in-Ok.ensures.length
