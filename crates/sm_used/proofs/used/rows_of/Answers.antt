-- The lines behind the version line are read and counted.
use Rattle.sm_used.proofs.Imports.{Ok, subject_of, parts_of}
use Rattle.sm_used.proofs.CountedLemmas.{rows_told}
use Rattle.sm_used.proofs.used.rows_of.Goals as goal

pub returns : goal.returns
returns c =
    let s = subject_of (parts_of c.args.task.now) in
    rows_told s c.args.bytes.now c.in_ok-left.left.now c.open.new.checker c.lines_counted.result
    (c.in_ok-left.ensures s c.in_ok-checker.ensures) c.lines_counted.ensures.read c.lines_counted.ensures.counted
