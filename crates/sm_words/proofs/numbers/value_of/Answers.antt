use Rattle.sm_words.proofs.Digits.{parses_number}
use Rattle.sm_words.proofs.numbers.value_of.Goals as goal

pub unreachable-requires : goal.unreachable-requires
unreachable-requires c = let e = parses_number c.args.text.now c.parse.result c.parse.ensures.value.0 c.requires in cc
