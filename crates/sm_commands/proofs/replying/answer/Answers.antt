use Rattle.sm_commands.proofs.Imports.{map, string_bytes, asked_in}
use Rattle.sm_commands.proofs.Elsewhere.{writes_elsewhere}
use Rattle.sm_commands.proofs.replying.answer.Goals as goal

pub answer_to-requires-clause-other : goal.answer_to-requires-clause-other
answer_to-requires-clause-other g c κs within =
    writes_elsewhere (map string_bytes c.args.words.now) (asked_in c.in-Ok.request) c.in-Ok.ensures.ok
