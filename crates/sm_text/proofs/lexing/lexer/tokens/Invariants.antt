use Rattle.std.proofs.Common.{length}
use Rattle.sm_text.proofs.Cut.Lexing.{IsCut}
use Rattle.sm_text.proofs.lexing.lexer.tokens.Given as goal

abbrev pub invariant-cut : goal.invariant-cut
invariant-cut l = IsCut l.bytes l.list.items l.rest

abbrev pub decreases-cut : goal.decreases-cut
decreases-cut l = length l.rest
