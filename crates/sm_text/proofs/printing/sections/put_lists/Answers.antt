use Rattle.sm_syntax.specs.claim.ConflictFree.{O, A, B, M}
use Rattle.sm_text.proofs.printing.sections.put_lists.Goals as goal

pub put_list-requires : goal.put_list-requires
put_list-requires c = c.requires O

pub put_list-requires-2 : goal.put_list-requires-2
put_list-requires-2 c = c.requires A

pub put_list-requires-3 : goal.put_list-requires-3
put_list-requires-3 c = c.requires B

pub put_list-requires-4 : goal.put_list-requires-4
put_list-requires-4 c = c.requires M
