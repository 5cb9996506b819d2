-- Cited by public clauses: what the computed classes are.
use Rattle.std.specs.Prelude.{◌↔◌, IsTrue}
use Rattle.sm_term.specs.Terms.{Tree}
use Rattle.sm_cc.specs.Classes.{Setting, AreClosed, Same, Apart, are_apart}
use Rattle.sm_cc.specs.Rounds.{are_equal}

-- the computed pairs are the least congruence that has what is given: they are closed, terms are equal
-- by them exactly where each closed set has the pair, and known apart exactly where they are so by
-- each
pub record AreLeast (s : Setting) : Type 0 where
  pub closed : AreClosed s (are_equal s)
  pub equal : (t u : Tree) → IsTrue (are_equal s t u) ↔ Same s t u
  pub apart : (t u : Tree) → IsTrue (are_apart s (are_equal s) t u) ↔ Apart s t u

-- so they are of all terms, whatever is given
abbrev pub ClassesAreLeast : Type 0
ClassesAreLeast = (s : Setting) → AreLeast s
