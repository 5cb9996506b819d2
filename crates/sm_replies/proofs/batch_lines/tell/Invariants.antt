-- The lines so far, and those that are told of the slots and the replies that are left.
use Rattle.sm_replies.proofs.Imports.{◌≡◌, ◌++◌, drop, lines_of, told}
use Rattle.sm_replies.proofs.batch_lines.tell.Given as goal

abbrev pub invariant-slots : goal.invariant-slots
invariant-slots l = lines_of l.lines.items ++ told (drop l.slot-index l.slots) l.rest ≡ told l.slots l.replies
