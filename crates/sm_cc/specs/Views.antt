-- Cited by public clauses: what is seen of classes of terms.
use Rattle.std.specs.Prelude.{◌≡◌, ℕ, ◌<◌, true, false, IsTrue, if◌then◌else◌, List, [], ◌∷◌, ◌++◌, length, map, slice_get, Some}
use Rattle.sm_term.specs.Terms.{Tree}
use Rattle.sm_term.specs.Assertions.{Assertion, Eq, Ne}
use Rattle.sm_term.specs.Sorted.{tree_sort}
use Rattle.sm_term.specs.Tables.{TableValue, trees_in, sorts_in, tree_at}
use Rattle.sm_term.specs.declared.term.TermId.{TermId}
pub use Rattle.sm_cc.specs.declared.classes.GivenFact.{GivenFact}
use Rattle.sm_cc.specs.Classes.{Setting}
use Rattle.sm_theory.specs.TermsOfFormulas.{is_among}

-- the trees of terms of a table
abbrev pub trees_of : List Tree → List TermId → List Tree
trees_of trees terms = map (λ (t : TermId). tree_at trees t.0) terms

-- classes: the table of their terms, the terms, and what is given of them
pub record ClassesValue : Type 0 where
  pub table : TableValue
  pub terms : List TermId
  pub given : List GivenFact

-- the formula of a given fact
abbrev pub assertion_given : TableValue → GivenFact → Assertion
assertion_given table g =
    let t = tree_at (trees_in table) g.left.0 in
    let u = tree_at (trees_in table) g.right.0 in
    let sort = tree_sort (sorts_in table) t in
    if g.are_equal then Eq sort t u else Ne sort t u

-- what the classes are made of
abbrev pub setting_of : ClassesValue → Setting
setting_of v = record {
  sorts = sorts_in v.table;
  terms = trees_of (trees_in v.table) v.terms;
  given = map (assertion_given v.table) v.given;
}

-- the numbers of the given facts
abbrev pub numbers_of : ClassesValue → List ℕ
numbers_of v = map (λ (g : GivenFact). g.number) v.given

-- a number is of one of the terms
abbrev pub IsTermOf : ClassesValue → TermId → Type 0
IsTermOf v t =
    (t.0 < length (trees_in v.table))
    × IsTrue (is_among (setting_of v).terms (tree_at (trees_in v.table) t.0))

-- two numbers are of terms of one sort
abbrev pub HaveOneSort : TableValue → TermId → TermId → Type 0
HaveOneSort table t u =
    tree_sort (sorts_in table) (tree_at (trees_in table) t.0)
    ≡ tree_sort (sorts_in table) (tree_at (trees_in table) u.0)

-- a fact is given of two terms of one sort
abbrev pub IsOfTwoTerms : ClassesValue → GivenFact → Type 0
IsOfTwoTerms v g = IsTermOf v g.left × IsTermOf v g.right × HaveOneSort v.table g.left g.right

-- each given fact is of two terms of one sort
pub record AreOfTwoTerms (v : ClassesValue) : Type 0 where
  pub each : (n : ℕ) (g : GivenFact) → slice_get v.given n ≡ Some g → IsOfTwoTerms v g

-- that two terms are equal
abbrev pub equation_of : TableValue → TermId → TermId → Assertion
equation_of table t u =
    let tree = tree_at (trees_in table) t.0 in
    Eq (tree_sort (sorts_in table) tree) tree (tree_at (trees_in table) u.0)

-- the fact with a number, which says that two terms are equal
abbrev pub equation_under : ℕ → TermId → TermId → GivenFact
equation_under n t u = record { number = n; are_equal = true; left = t; right = u }

-- the fact with a number, which says that they aren't
abbrev pub contrary_under : ℕ → TermId → TermId → GivenFact
contrary_under n t u = record { number = n; are_equal = false; left = t; right = u }

-- a fact is given last of all
abbrev pub with_given : ClassesValue → GivenFact → ClassesValue
with_given v g = record v { given = v.given ++ g ∷ [] }

-- no terms are left
abbrev pub no_terms : TableValue → ClassesValue
no_terms table = record { table = table; terms = []; given = [] }
