-- The index that was passed on is the index.
use Rattle.sm_replay.proofs.Imports.{◌⊎◌, ℤ, to_z, of_z, sym, subst, to_z-of_z, w128, ◌≤ℤ◌, Element, end_in, KeepsAt}
use Rattle.sm_replay.proofs.FirstBreakSound.{breaks_element}
use Rattle.sm_replay.proofs.first_break.break_at_index.Goals as goal

pub returns-in-Some : goal.returns-in-Some
returns-in-Some c =
    let same = to_z-of_z w128 c.args.i c.ranges.i in
    breaks_element (end_in c.args.ends.now) c.args.a.0 c.in-Some.clause (to_z w128 (of_z w128 c.args.i))
    (subst (λ (z : ℤ). (k : ℤ) → KeepsAt (end_in c.args.ends.now) (Element c.args.a.0 k) ⊎ (z ≤ℤ k)) (sym same) c.requires.least)
    c.in-Some.ensures.broken
