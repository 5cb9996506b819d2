-- Cited by public clauses: what is so of each table of terms, and how tables grow.
use Rattle.std.specs.Prelude.{◌≡◌, ℕ, ◌<◌, IsTrue, List, [], ◌∷◌, ◌++◌, length, if◌then◌else◌}
use Rattle.std.specs.List.{list_any}
use Rattle.sm_syntax.specs.claim.Syntax.{Code}
use Rattle.sm_syntax.specs.text.Sorts.{Sorts, IsWellSorted}
use Rattle.sm_term.specs.Terms.{Tree}
use Rattle.sm_term.specs.SameTerms.{same_tree, same_code}
use Rattle.sm_term.specs.Sorted.{IsSorted}
use Rattle.sm_term.specs.Tables.{TableValue, tree_at, code_at, tree_in, trees_behind, trees_in, codes_in, sorts_in, IsTermWithin, Term}
use Rattle.sm_term.specs.Fitting.{term_fits}

-- each term stands behind its parts, and its arguments have the sorts that it needs
abbrev pub AreTermsSound : Sorts → List Code → List Tree → List Term → Type 0
AreTermsSound sorts codes older [] = Unit {0}
AreTermsSound sorts codes older (t ∷ ts) =
    IsTermWithin sorts (length codes) (length older) t × IsTrue (term_fits sorts older t)
    × AreTermsSound sorts codes (older ++ tree_in codes older t ∷ []) ts

-- numbers of equal trees are equal
abbrev pub AreApart : List Tree → Type 0
AreApart trees =
    (i j : ℕ) → i < length trees → j < length trees → tree_at trees i ≡ tree_at trees j → i ≡ j

-- numbers of equal code are equal
abbrev pub AreCodesApart : List Code → Type 0
AreCodesApart codes =
    (i j : ℕ) → i < length codes → j < length codes → code_at codes i ≡ code_at codes j → i ≡ j

-- each tree is well sorted
abbrev pub AreTreesSorted : Sorts → List Tree → Type 0
AreTreesSorted sorts trees = (i : ℕ) → i < length trees → IsSorted sorts (tree_at trees i)

-- all code is well sorted
abbrev pub AreCodesSorted : Sorts → List Code → Type 0
AreCodesSorted sorts codes = (i : ℕ) → i < length codes → IsWellSorted sorts (code_at codes i)

-- a table: its terms are sound, its trees and its code are well sorted, and none is there twice
pub record IsTable (sorts : Sorts) (codes : List Code) (terms : List Term) : Type 0 where
  pub sound : AreTermsSound sorts codes [] terms
  pub codes_sorted : AreCodesSorted sorts codes
  pub codes_apart : AreCodesApart codes
  pub sorted : AreTreesSorted sorts (trees_behind codes [] terms)
  pub apart : AreApart (trees_behind codes [] terms)

-- the trees with one more, where it isn't among them
abbrev pub with_tree : List Tree → Tree → List Tree
with_tree trees t = if list_any (same_tree t) trees then trees else trees ++ t ∷ []

-- the codes with one more, where it isn't among them
abbrev pub with_code : List Code → Code → List Code
with_code codes c = if list_any (same_code c) codes then codes else codes ++ c ∷ []

-- a table has the sorts and the code of another, and its terms with more behind them
pub record AddsTerms (old new : TableValue) : Type 0 where
  pub sorts : sorts_in new ≡ sorts_in old
  pub codes : codes_in new ≡ codes_in old
  pub trees : (more : List Tree) × (trees_in new ≡ trees_in old ++ more)

-- the trees with each of some more, in order, where it isn't among them
abbrev pub with_trees : List Tree → List Tree → List Tree
with_trees trees [] = trees
with_trees trees (t ∷ ts) = with_trees (with_tree trees t) ts

-- the codes with each of some more, in order, where it isn't among them
abbrev pub with_codes : List Code → List Code → List Code
with_codes codes [] = codes
with_codes codes (c ∷ cs) = with_codes (with_code codes c) cs

-- a table has the sorts of another, and its code and its terms, each with more behind them
pub record ExtendsTable (old new : TableValue) : Type 0 where
  pub sorts : sorts_in new ≡ sorts_in old
  pub codes : (more : List Code) × (codes_in new ≡ codes_in old ++ more)
  pub trees : (more : List Tree) × (trees_in new ≡ trees_in old ++ more)
