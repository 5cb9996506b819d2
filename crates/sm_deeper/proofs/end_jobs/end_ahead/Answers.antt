-- The rows of each job are behind all terms of the table.
use Rattle.sm_deeper.proofs.Imports.{ℕ, ◌<◌, List, length, get_or, sym, subst, arith, trees_in, sorts_in, AreRowsSound, JobEnd}
use Rattle.sm_deeper.proofs.RowsLemmas.{all_first}
use Rattle.sm_deeper.proofs.end_jobs.end_ahead.Goals as goal

pub take_all-requires-clause-behind : goal.take_all-requires-clause-behind
take_all-requires-clause-behind g c = let is = c.len-from.ensures.len in omega (arith, is)

pub take_all-requires-clause-sound : goal.take_all-requires-clause-sound
take_all-requires-clause-sound g c =
    let v = c.args.table.now in
    let Sound = λ (es : List JobEnd). (k : ℕ) (e : JobEnd) → k < length es → AreRowsSound (sorts_in v) (trees_in v) (get_or es k e).rows in
    let all : Sound c.deref.result.now = subst Sound (sym c.deref.ensures.value) c.in_ok-made.ensures in
    λ k e h. all_first v c.len-from.result c.len-from.ensures.len (get_or c.deref.result.now k e).rows (all k e h)
