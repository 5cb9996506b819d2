-- Cited by public clauses: facts that can't hold together, as the visit of their branch finds.
use Rattle.std.specs.Prelude.{◌≡◌, ◌⊎◌, ℕ, ◌≤◌, true, Some, List, length, slice_get}
use Rattle.std.specs.List.{range_with_len}
use Rattle.sm_syntax.specs.text.Sorts.{Sorts}
use Rattle.sm_num.specs.Combining.{Fits}
use Rattle.sm_term.specs.Terms.{Tree}
use Rattle.sm_term.specs.Assertions.{Assertion, Yes}
use Rattle.sm_cert.specs.MovedTrees.{NamesWhatItReads}
use Rattle.sm_cert.specs.Views.{certificate_in}
use Rattle.sm_pairs.specs.Longer.{IsLonger}
use Rattle.sm_solve.specs.declared.inconsistent.Inconsistent.{Inconsistent}
use Rattle.sm_solve.specs.declared.inconsistent.InconsistentBy.{InconsistentBy}
use Rattle.sm_solve.specs.declared.inconsistent.InconsistentBy.TheVariants as inconsistent
use Rattle.sm_list.specs.Branches.{with_parts}
use Rattle.sm_judge.specs.Holding.{Seen, is_closed}
use Rattle.sm_certify.specs.Given.{seen_by}
use Rattle.sm_terms.specs.Listing.{numbers_of}
use Rattle.sm_judge.specs.Forms.{Walked, Closes, by_forms, forms_of}
use Rattle.sm_solve.specs.Walking.{ClosesIn}

-- a branch is closed by its classes, or its forms come to a contradiction after so many steps
abbrev pub IsInconsistentBy : ℕ → Seen → InconsistentBy → Type 0
IsInconsistentBy steps b inconsistent.Classes = is_closed b ≡ true
IsInconsistentBy steps b (inconsistent.Forms count forms) =
    (forms_of b ≡ Fits forms.items)
    × ((next : ℕ → Walked) →
    by_forms steps 1 (length b.terms) (Fits forms.items) next ≡ Closes count)

-- facts can't hold together: the visit of the branch of them and all their parts closes it, and so
-- does a certificate, which names these terms alone and reads only the facts that it names
pub record IsInconsistent (sorts : Sorts) (terms : List Tree) (facts : List Assertion) (s : Inconsistent)
    : Type 0 where
  pub some : 1 ≤ s.steps
  pub by : IsInconsistentBy s.steps (seen_by sorts terms (with_parts facts)) s.by
  pub many : s.facts ≡ length (with_parts facts)
  pub counted : numbers_of s.terms.list.items ≡ range_with_len 0 (length terms)
  pub closes : ClosesIn sorts terms facts 1 s.tree
  pub named : NamesWhatItReads (certificate_in terms s.tree)

-- each fact of a branch is one of another, but for what always holds
abbrev pub AreFactsStill : List Assertion → List Assertion → Type 0
AreFactsStill facts others =
    (n : ℕ) (f : Assertion) → slice_get facts n ≡ Some f →
    (f ≡ Yes) ⊎ ((m : ℕ) × (slice_get others m ≡ Some f))

-- a branch has the terms and the facts of another, but for what always holds
pub record IsBelow (first trees : List Tree) (facts others : List Assertion) : Type 0 where
  pub longer : IsLonger first trees
  pub still : AreFactsStill facts others
