-- No term before has a partner.
use Rattle.sm_judge.proofs.Imports.{◌<◌, None, trees_in, sorts_in, IsPartnerIf}
use Rattle.std.proofs.Common.{ℕ}
use Rattle.sm_judge.proofs.torn.torn_terms.Given as goal

abbrev pub invariant-loop-n : goal.invariant-loop-n
invariant-loop-n l =
    let trees = trees_in l.table in
    (m : ℕ) → m < l.n → IsPartnerIf (sorts_in l.table) trees l.labels m None
