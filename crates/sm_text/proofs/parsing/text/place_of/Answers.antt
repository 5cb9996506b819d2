use Rattle.std.proofs.Common.{◌≡◌, ◌+◌, arith, length}
use Rattle.sm_text.proofs.FirstFault.Ordered.{at_index}
use Rattle.sm_text.proofs.parsing.text.place_of.Goals as goal

pub returns-clause-some : goal.returns-clause-some
returns-clause-some c =
    let found = c.in_ok-get.ensures.lookup.3 in
    let sum : c.in_ok-index.index + c.args.fault.left ≡ length c.args.tokens.now = omega (arith, c.in_ok-index.ensures) in
    at_index c.args.tokens.now c.args.fault.left c.in_ok-index.index c.in_ok-get.field-0.now found.0 (found.1 c.in_ok-get.field-0.now) sum
