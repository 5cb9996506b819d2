-- A number of 128 bits fits.
use Rattle.std.proofs.lemmas.Result.{IfOk-weaker}
use Rattle.sm_replay.proofs.NumberUnique.{small_fits}
use Rattle.sm_replay.proofs.input_text.number_text.Goals as goal

pub returns-clause-inside : goal.returns-clause-inside
returns-clause-inside c =
    IfOk-weaker c.try_from_str.result _ _ (λ value written. small_fits c.args.z c.ranges.z.sfits) c.try_from_str.ensures
