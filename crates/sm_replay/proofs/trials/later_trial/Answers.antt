-- At the end each name has its value.
use Rattle.sm_replay.proofs.Imports.{◌≡◌, ◌<◌, ◌≤◌, ℕ, zero, suc, None, List, length, drop, sym, ap, ◌∙◌, arith, Name, sort_of, declared_of, Sorts, Sort, Store, meaning, zero_of, trial, value_in_trial}
use Rattle.sm_replay.proofs.UpdatesSound.{Filling, numbered, end_filled}
use Rattle.sm_replay.proofs.trials.later_trial.Goals as goal

later_filled : (sorts : Sorts) (j : ℕ) (items : List (Name × Sort)) (i : ℕ) (s : Store) → 0 < j → length items ≤ i
    → Filling sorts (λ (x : ℕ). zero_of (sorts x)) (λ (x : ℕ). value_in_trial j x (sorts x)) (numbered (drop i items)) s → s ≡ trial sorts j
later_filled sorts zero items i s later past f = absurd (omega arith)
later_filled sorts (suc j) items i s later past f =
    end_filled sorts (λ (x : ℕ). zero_of (sorts x)) (λ (x : ℕ). value_in_trial (suc j) x (sorts x)) items i s past f
    (λ (x : ℕ) (none : sorts x ≡ None). ap zero_of none ∙ sym (ap (value_in_trial (suc j) x) none))

pub returns-clause-value : goal.returns-clause-value
returns-clause-value c =
    later_filled (sort_of (declared_of c.args.task.now.shared.decls)) c.args.j c.deref-d-items.result.now c.loop-d.d-index
    (meaning c.loop-d.s) c.requires c.loop-d-test.false c.loop-d.invariant.filling
