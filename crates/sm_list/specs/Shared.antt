-- Cited by public clauses: terms of a table in a table of their own.
use Rattle.std.specs.Prelude.{◌≡◌, ◌≤◌, List, [], length, map}
use Rattle.sm_term.specs.Terms.{Tree}
use Rattle.sm_term.specs.Tables.{TableValue, trees_in, sorts_in, codes_in}
use Rattle.sm_list.specs.declared.shared.SharedTerms.{SharedTerms}
use Rattle.sm_list.specs.Branches.{with_all_reads, writes_on, greatest_of}
use Rattle.sm_terms.specs.Listing.{trees_at, AreBelow, IsClosed}
use Rattle.sm_list.specs.Own.{AreBuilt, ArePlaced}

-- terms of a table stand in a table of their own, where the number of each is its place in the list
pub record AreShared (table : TableValue) (terms : List Tree) (s : SharedTerms) : Type 0 where
  pub sorts : sorts_in s.own ≡ sorts_in table
  pub codes : codes_in s.own ≡ codes_in table
  pub own : trees_in s.own ≡ terms
  pub listed : trees_at (trees_in table) s.listed ≡ terms
  pub below : AreBelow (length (trees_in table)) s.listed
  pub closed : IsClosed terms
  pub built : AreBuilt [] terms
  pub count : length s.numbers.items ≤ length (trees_in table)
  pub placed : ArePlaced (trees_in table) terms s.numbers.items

-- terms with what each element that is read was before it was written
abbrev pub with_those_before : List Tree → List Tree
with_those_before seen = with_all_reads (greatest_of (map writes_on seen)) seen
