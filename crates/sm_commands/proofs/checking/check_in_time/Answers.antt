-- What comes in time is an answer.
use Rattle.std.proofs.Common.{inl}
use Rattle.sm_commands.proofs.checking.check_in_time.Goals as goal

pub returns-in-Ok-clause-answers : goal.returns-in-Ok-clause-answers
returns-in-Ok-clause-answers g c = inl c.in-Ok.ensures.answers
