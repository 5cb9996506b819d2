-- Numbers of 128 bits fit.
use Rattle.std.proofs.lemmas.Result.{on_ok_weaker}
use Rattle.sm_replay.proofs.NumberUnique.{small_fits}
use Rattle.sm_replay.proofs.input_text.write_cell.Goals as goal

pub returns-clause-inside : goal.returns-clause-inside
returns-clause-inside c =
    on_ok_weaker c.put.result (λ put. (small_fits c.args.i c.ranges.i.sfits, small_fits c.args.z c.ranges.z.sfits)) c.put.ensures.ok
