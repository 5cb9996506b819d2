-- The shadows so far have entered.
use Rattle.sm_exact.proofs.Imports.{◌≡◌, drop, entered, shadows, before}
use Rattle.sm_exact.proofs.shadows.enter_shadows.Given as goal

abbrev pub invariant-loop-l : goal.invariant-loop-l
invariant-loop-l l =
    before l.fn.out.items (entered l.steps (shadows l.t l.lower l.upper) l.fn.count)
    ≡ before l.so_far.items (entered l.steps (shadows l.t (drop l.l-index l.lower) l.upper) l.counted)
