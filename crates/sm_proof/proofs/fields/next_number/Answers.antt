use Rattle.sm_proof.proofs.Imports.{Some, None, rules, behind}
use Rattle.sm_proof.proofs.TakingLemmas.{next_word, next_small}
use Rattle.sm_proof.proofs.fields.next_number.Goals as goal

pub returns-in-Some-clause-small : goal.returns-in-Some-clause-small
returns-in-Some-clause-small c =
    next_small c.args.most c.in-Some.n c.args.rest.now (behind c.split_word.result.1.now)
    (next_word c.args.most c.args.rest.now c.split_word.result.0.now (Some c.in-Some.n) (behind c.split_word.result.1.now)
    (search rules) c.split_word.ensures.words c.in-Some.ensures)

pub returns-in-None-clause-found : goal.returns-in-None-clause-found
returns-in-None-clause-found c = (
  behind c.split_word.result.1.now,
  next_word c.args.most c.args.rest.now c.split_word.result.0.now None (behind c.split_word.result.1.now)
      (search rules) c.split_word.ensures.words c.in-None.ensures,
)
