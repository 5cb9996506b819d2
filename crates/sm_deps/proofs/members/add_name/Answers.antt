use Rattle.sm_deps.proofs.MembersLemmas.{members-insert}
use Rattle.sm_deps.proofs.members.add_name.Goals as goal

pub returns : goal.returns
returns c = members-insert c.args.names.now c.insert.new.self c.args.x.0 c.in_ok-insert.ensures.updates
