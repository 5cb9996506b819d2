-- The answer is that to the value.
use Rattle.sm_replay.proofs.Imports.{view, sort_of, declared_of}
use Rattle.sm_replay.proofs.InputFirstFault.{reads_value}
use Rattle.sm_replay.proofs.input.read_input.Goals as goal

pub returns : goal.returns
returns c =
    reads_value c.args.names.now (sort_of (declared_of c.args.decls.now)) c.args.bytes.now
    (view c.in_ok-input.input) c.read_value.result c.in_ok-input.ensures
    c.read_value.ensures.faultless c.read_value.ensures.value c.read_value.ensures.sorts c.read_value.ensures.err
