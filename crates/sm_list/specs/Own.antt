-- Cited by public clauses: terms in a table of their own, where each has its place in a list as its number.
use Rattle.std.specs.Prelude.{◌≡◌, ℕ, ◌<◌, IsTrue, false, List, [], ◌∷◌, ◌++◌, length}
use Rattle.sm_term.specs.Terms.{Tree}
use Rattle.sm_term.specs.Tables.{tree_at}
use Rattle.sm_term.specs.declared.term.TermId.{TermId}
use Rattle.sm_term.specs.Heads.{arguments_of}
use Rattle.sm_theory.specs.TermsOfFormulas.{is_among}
use Rattle.sm_theory.specs.Views.{number_under}
use Rattle.sm_terms.specs.Listing.{AllAmong}

-- behind other terms, each term stands once and after its arguments
abbrev pub AreBuilt : List Tree → List Tree → Type 0
AreBuilt older [] = Unit {0}
AreBuilt older (t ∷ ts) =
    AllAmong older (arguments_of t) × (is_among older t ≡ false) × AreBuilt (older ++ t ∷ []) ts

-- the terms of a table that are among those of another have the same trees under their new numbers
abbrev pub ArePlaced : List Tree → List Tree → List TermId → Type 0
ArePlaced trees own numbers =
    (n : ℕ) → n < length trees → IsTrue (is_among own (tree_at trees n)) →
    (number_under numbers n < length own)
    × (tree_at own (number_under numbers n) ≡ tree_at trees n)
