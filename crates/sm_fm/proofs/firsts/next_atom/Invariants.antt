-- No form begins with an atom so far.
use Rattle.sm_fm.proofs.Imports.{◌≡◌, ◌<◌, ℕ, [], get_or, lists_in}
use Rattle.sm_fm.proofs.firsts.next_atom.Given as goal

abbrev pub invariant-loop-next : goal.invariant-loop-next
invariant-loop-next l = (a : ℕ) → l.t < a → a < l.next → get_or (lists_in l.firsts) a [] ≡ []
