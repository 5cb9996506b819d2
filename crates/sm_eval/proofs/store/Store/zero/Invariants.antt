-- The sorts of the stored values, and after them those of what is left, are those of the declarations; each stored value has 0.
use Rattle.sm_eval.proofs.Imports.{◌≡◌, ℕ, drop, sort_of}
use Rattle.sm_syntax.specs.trees.Programs.{declared_of}
use Rattle.sm_eval.specs.Zeros.{AreZero}
use Rattle.sm_eval.proofs.Declaring.{sorts_after}
use Rattle.sm_eval.proofs.store.Store.zero.Given as goal

abbrev pub invariant-loop-d : goal.invariant-loop-d
invariant-loop-d l = record {
  zero : AreZero l.stored.items;
  declared : (x : ℕ) → sort_of (declared_of l.decls) x ≡ sorts_after l.stored.items (drop l.d-index l.d-items) x;
}
