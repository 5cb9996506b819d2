-- The fault of all members is that of those that are left.
use Rattle.sm_replay.proofs.Imports.{◌≡◌, members_view, sorts_of, members_fault}
use Rattle.sm_replay.proofs.input.check_members.Given as goal

abbrev pub invariant-loop-key : goal.invariant-loop-key
invariant-loop-key l =
    members_fault l.names (sorts_of l.s) (members_view l.key-iterator) ≡ members_fault l.names (sorts_of l.s)
    (members_view l.members.entries)
