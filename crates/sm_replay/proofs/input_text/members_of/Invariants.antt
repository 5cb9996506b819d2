-- Each key has its member, or its name is among those that are left.
use Rattle.sm_replay.proofs.Imports.{drop, members_view, meaning, sort_of, declared_of}
use Rattle.sm_replay.proofs.UpdatesSound.{numbered}
use Rattle.sm_replay.proofs.InputTextSound.{MembersSoFar}
use Rattle.sm_replay.proofs.input_text.members_of.Given as goal

abbrev pub invariant-loop-d : goal.invariant-loop-d
invariant-loop-d l =
    MembersSoFar l.names (sort_of (declared_of l.decls)) (meaning l.s) (numbered (drop l.d-index l.d-items))
    (members_view l.members.entries)
