use Rattle.std.proofs.Common.{arith, rules}
use Rattle.std.proofs.lemmas.Map.Text.{text_keys}
use Rattle.sm_io.proofs.mem_shelf.MemShelfShelf.append.Goals as goal

pub returns-in_err-extend_from_slice-clause-others :
    goal.returns-in_err-extend_from_slice-clause-others
returns-in_err-extend_from_slice-clause-others c =
    λ other ne.
    let after = (c.get_mut.follows.holds c.extend_from_slice.new.self).3 (search rules) in
    grind (arith, text_keys, after)

pub returns-clause-others : goal.returns-clause-others
returns-clause-others c =
    λ other ne.
    let after = (c.get_mut.follows.holds c.extend_from_slice.new.self).3 (search rules) in
    grind (arith, text_keys, after)
