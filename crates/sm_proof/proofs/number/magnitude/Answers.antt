use Rattle.std.proofs.Common.{arith, rules}
use Rattle.sm_proof.proofs.MagnitudeLemmas.{empty_is_none, leading_is_none}
use Rattle.sm_proof.proofs.number.magnitude.Goals as goal

pub returns-then-is_empty : goal.returns-then-is_empty
returns-then-is_empty c = empty_is_none c.args.word.now (search rules)

pub returns-then-word-gt1 : goal.returns-then-word-gt1
returns-then-word-gt1 c = leading_is_none c.args.word.now (search rules) (omega arith)
