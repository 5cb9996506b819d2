-- What stands behind the formulas so far, with their parts, is what is wanted; the formulas stay.
use Rattle.sm_list.proofs.Imports.{◌≡◌, ◌≤◌, ℕ, List, length, drop, Sorts, Tree, all_numbered, assertions_in, AreFormulasWithin}
use Rattle.sm_pairs.specs.Longer.{IsLonger}
use Rattle.sm_list.proofs.PartsLemmas.{queue_from, weight_of_all}
use Rattle.sm_list.proofs.parts.add_parts.Given as goal

abbrev pub invariant-loop-next : goal.invariant-loop-next
invariant-loop-next l = record {
  inside : l.next ≤ length l.facts.items;
  queue : (sorts : Sorts) (trees : List Tree) →
      queue_from l.next (assertions_in sorts trees (all_numbered l.facts.items))
      ≡ queue_from l.fn.from (assertions_in sorts trees (all_numbered l.fn.facts.items));
  within : (count : ℕ) → AreFormulasWithin count (all_numbered l.fn.facts.items) → AreFormulasWithin count (all_numbered l.facts.items);
  longer : IsLonger l.fn.facts.items l.facts.items;
}

abbrev pub decreases-loop-next : goal.decreases-loop-next
decreases-loop-next l = weight_of_all (drop l.next (all_numbered l.facts.items))
