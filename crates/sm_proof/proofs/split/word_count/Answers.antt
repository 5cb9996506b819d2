use Rattle.std.proofs.Common.{◌<◌, length, rules}
use Rattle.sm_proof.proofs.WordLemmas.{count_behind}
use Rattle.sm_proof.proofs.split.word_count.Goals as goal

pub returns-else-is_empty : goal.returns-else-is_empty
returns-else-is_empty c =
    let some : 0 < length c.args.rest.now = search rules in
    count_behind c.args.rest.now c.spaces.result some c.spaces.ensures
