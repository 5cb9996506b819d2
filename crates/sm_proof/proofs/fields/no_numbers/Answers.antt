use Rattle.sm_proof.specs.Behind.{behind}
use Rattle.sm_proof.proofs.TakingLemmas.{none_taken}
use Rattle.sm_proof.proofs.fields.no_numbers.Goals as goal

pub returns : goal.returns
returns c made = none_taken made (behind c.args.rest.now) c.words.result c.words.ensures
