-- Terms that are among others, and tests that have each other.
use Rattle.std.proofs.Common.{◌≡◌, ℕ, true, List, [], slice_get, Some, refl}
use Rattle.sm_term.specs.Terms.{Tree}
use Rattle.sm_term.specs.SameTerms.{same_tree}
use Rattle.sm_term.proofs.SameTermsLemmas.{same_tree_is}
use Rattle.sm_theory.specs.TermsOfFormulas.{is_among}
use Rattle.std.proofs.lemmas.Map.Keys.{any_passes_from_place}

pub there_among : (terms : List Tree) (i : ℕ) (t : Tree) → slice_get terms i ≡ Some t → is_among terms t ≡ true
there_among terms i t e = any_passes_from_place (same_tree t) terms i t e ((same_tree_is t t).1 refl)
