-- The numbers of a table are apart.
use Rattle.sm_template.proofs.BoundsMade.{bound_put}
use Rattle.sm_template.proofs.guards.put_bound.Goals as goal

pub returns : goal.returns
returns c =
    bound_put c.args.table.now c.len-len.ensures.apart c.args.bounds.now.keys c.insert_full.new.self.keys (c.args.t.0, c.args.u.0)
    c.in_ok-insert_full.ensures.keys (c.requires.first, c.requires.second, c.requires.first_sort, c.requires.second_sort)
