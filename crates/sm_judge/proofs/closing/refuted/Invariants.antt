-- No fact before is refuted.
use Rattle.sm_judge.proofs.Imports.{◌≡◌, ◌<◌, false, get_or, trees_in, sorts_in, is_refuted, seen_in}
use Rattle.std.proofs.Common.{ℕ}
use Rattle.sm_term.specs.Assertions.{Yes}
use Rattle.sm_judge.proofs.closing.refuted.Given as goal

abbrev pub invariant-loop-i : goal.invariant-loop-i
invariant-loop-i g l =
    let trees = trees_in l.table in
    let b = seen_in (sorts_in l.table) trees trees l.facts (g.S.Sees.equal l.sees) (g.S.Sees.apart l.sees) in
    (m : ℕ) → m < l.i → is_refuted b (get_or b.facts m Yes) ≡ false
