-- The forms so far have entered.
use Rattle.sm_exact.proofs.Imports.{◌≡◌, ℕ, map, drop, Enter, entered, before}
use Rattle.sm_exact.proofs.entry.enter_all.Given as goal

abbrev pub invariant-loop-f : goal.invariant-loop-f
invariant-loop-f l =
    (limit : ℕ) → entered limit (map Enter l.forms) 0 ≡ before l.out.items (entered limit (map Enter (drop l.f-index l.forms)) l.counted)
