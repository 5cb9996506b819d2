-- Cited by public clauses: what stands for the same under other numbers of terms.
use Rattle.std.specs.Prelude.{◌≡◌, List, length}
use Rattle.sm_term.specs.declared.term.TermId.{TermId}
use Rattle.sm_term.specs.Terms.{Tree}
use Rattle.sm_terms.specs.Listing.{trees_at, numbers_of, AreBelow}

-- terms of a table are those of a list, in order
pub record AreTermsOf (trees : List Tree) (ids : List TermId) (terms : List Tree) : Type 0 where
  pub trees_are : trees_at trees (numbers_of ids) ≡ terms
  pub below : AreBelow (length trees) (numbers_of ids)
