-- The copy has the same terms, and then its rows.
use Rattle.sm_deeper.proofs.Imports.{first_within, ready_over}
use Rattle.sm_deeper.proofs.RowsLemmas.{copy_sound}
use Rattle.sm_deeper.proofs.end_jobs.job_end.Goals as goal

pub put_ends-requires : goal.put_ends-requires
put_ends-requires c =
    ready_over c.args.table.now c.in_ok-copy.copy c.in_ok-copy.ensures.sorts c.in_ok-copy.ensures.trees c.args.ends.now.dues.now c.requires

pub tail-requires : goal.tail-requires
tail-requires c =
    first_within c.in_ok-copy.copy c.put_ends.new.table c.in_ok-put_ends.ensures c.len-from.result c.len-from.ensures.len

pub returns : goal.returns
returns c =
    copy_sound c.args.table.now c.in_ok-copy.copy c.put_ends.new.table c.in_ok-copy.ensures.sorts c.in_ok-copy.ensures.trees
    c.in_ok-put_ends.ensures c.len-from.result c.len-from.ensures.len c.in_ok-rows.rows c.in_ok-rows.ensures.sound
