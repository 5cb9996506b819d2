use Rattle.std.proofs.Common.{arith}
use Rattle.std.proofs.lemmas.Map.Text.{text_keys}
use Rattle.sm_io.proofs.mem_shelf.MemShelf.hold.Goals as goal

pub returns-clause-others : goal.returns-clause-others
returns-clause-others c = λ other ne. grind (arith, text_keys)
