-- Cited by public clauses: what is given to the classes of a branch, and what is seen by them.
use Rattle.std.specs.Prelude.{◌≡◌, ℕ, suc, List, [], ◌∷◌, length}
use Rattle.sm_term.specs.declared.formula.Formula.{Formula}
use Rattle.sm_term.specs.declared.formula.Formula.TheVariants as tree
use Rattle.sm_term.specs.Terms.{Tree}
use Rattle.sm_term.specs.Tables.{TableValue, trees_in, sorts_in}
use Rattle.sm_term.specs.declared.term.TermId.{TermId}
use Rattle.sm_cc.specs.Views.{ClassesValue, equation_under, contrary_under}
use Rattle.sm_cc.specs.declared.classes.GivenFact.{GivenFact}
use Rattle.sm_judge.specs.Holding.{Seen}
use Rattle.sm_terms.specs.Listing.{trees_at, numbers_of, AreBelow}
use Rattle.sm_list.specs.Parts.{all_numbered, assertions_in}
use Rattle.sm_syntax.specs.text.Sorts.{Sorts}
use Rattle.sm_term.specs.Assertions.{Assertion}
use Rattle.sm_cc.specs.Classes.{Setting, are_apart}
use Rattle.sm_cc.specs.Rounds.{are_equal}

-- what is seen by the classes of the facts
abbrev pub seen_by : Sorts → List Tree → List Assertion → Seen
seen_by sorts terms facts =
    let setting : Setting = record { sorts = sorts; terms = terms; given = facts } in
    let equal = are_equal setting in
    record {
      sorts = sorts;
      facts = facts;
      terms = terms;
      equal = equal;
      apart = are_apart setting equal;
    }

-- a list of terms has all terms of a table, in order
pub record IsWhole (trees : List Tree) (terms : List TermId) : Type 0 where
  pub trees_are : trees_at trees (numbers_of terms) ≡ trees
  pub below : AreBelow (length trees) (numbers_of terms)

-- the equations and contraries among formulas, under their places from n on
abbrev pub given_from : ℕ → List Formula → List GivenFact
given_from n [] = []
given_from n (tree.Yes ∷ fs) = given_from (suc n) fs
given_from n (tree.No ∷ fs) = given_from (suc n) fs
given_from n (tree.Eq t u ∷ fs) = equation_under n t u ∷ given_from (suc n) fs
given_from n (tree.Ne t u ∷ fs) = contrary_under n t u ∷ given_from (suc n) fs
given_from n (tree.Le t u ∷ fs) = given_from (suc n) fs
given_from n (tree.Lt t u ∷ fs) = given_from (suc n) fs
given_from n (tree.And' a p b q ∷ fs) = given_from (suc n) fs
given_from n (tree.Or' a p b q ∷ fs) = given_from (suc n) fs

-- the classes of all terms of a table by these facts
abbrev pub classes_by : TableValue → List TermId → List Formula → ClassesValue
classes_by table terms facts =
    record { table = table; terms = terms; given = given_from 0 facts }

-- what is seen on the branch of these facts over the terms of a table
abbrev pub branch_of : TableValue → List Formula → Seen
branch_of table facts =
    seen_by (sorts_in table) (trees_in table)
    (assertions_in (sorts_in table) (trees_in table) (all_numbered facts))
