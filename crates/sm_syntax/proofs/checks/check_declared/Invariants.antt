use Rattle.sm_syntax.proofs.Imports.{◌≡◌, ℕ, [], map, drop, first_repeated, declared_of}
use Rattle.sm_syntax.specs.declared.tree.Sort.{Sort}
use Rattle.sm_syntax.proofs.Repeats.{sorted_numbers}
use Rattle.sm_syntax.proofs.checks.check_declared.Given as goal

abbrev pub invariant-loop-d : goal.invariant-loop-d
invariant-loop-d l =
    first_repeated [] (map (λ (d : ℕ × Sort). d.0) (declared_of l.decls)) ≡ first_repeated l.seen.keys (map (λ (d : ℕ × Sort). d.0) (sorted_numbers (drop l.d-index l.d-items)))
