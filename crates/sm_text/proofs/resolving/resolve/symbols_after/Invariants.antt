use Rattle.sm_text.proofs.Numbering.Symbols.{IsRead}
use Rattle.sm_text.proofs.resolving.resolve.symbols_after.Given as goal

abbrev pub invariant-loop-token : goal.invariant-loop-token
invariant-loop-token l = IsRead l.bytes l.initial.names l.tokens l.token-index l.names l.list.items
