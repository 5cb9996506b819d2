-- The pairs so far, before those of the terms that are left, and the first places of labels so far.
use Rattle.sm_judge.proofs.Imports.{◌≡◌, ◌<◌, ◌++◌, drop, length, Some, nat_eq, get, trees_in, sorts_in, Pairs, TellClasses, first_label, noted_else, pairs_of, places_of, ArePairsWithin}
use Rattle.std.proofs.Common.{ℕ}
use Rattle.sm_judge.proofs.pairs.class_pairs.Given as goal

abbrev pub invariant-loop-n : goal.invariant-loop-n
invariant-loop-n l =
    let trees = trees_in l.table in
    let sorts = sorts_in l.table in
    record {
      firsts : (m : ℕ) → first_label m 0 l.labels ≡ noted_else (get nat_eq l.firsts m) (first_label m l.n (drop l.n l.labels));
      below : (m f : ℕ) → get nat_eq l.firsts m ≡ Some f → f < length trees;
      pairs :
          (equal : Pairs) → TellClasses trees equal l.labels →
          places_of l.pairs.items ++ pairs_of sorts equal trees l.n (drop l.n trees) ≡ pairs_of sorts equal trees 0 trees;
      within : ArePairsWithin (length trees) l.pairs.items;
    }
