-- No public clause cites this file.
-- The code's word for what stands at the front of a text, in the words of the token rules.
use Rattle.sm_syntax.specs.text.Tokens as rule
use Rattle.sm_text.specs.declared.lexing.front.Front.{Front}
use Rattle.sm_text.specs.declared.lexing.front.Front.TheVariants.{Gap, Piece, Fault}

-- the front in the words of the token rules
abbrev pub seen : Front → rule.Front
seen (Gap size) = rule.Gap size
seen (Piece kind size) = rule.Piece kind size
seen (Fault kind) = rule.Fault kind
