-- Private: how far the certificate of a refutation is written.
use Rattle.std.specs.Prelude.{Bool, true, false, get_or, suc, ◌≡◌, ℕ, ◌<◌, ◌+◌, ◌-◌, Some, slice_get, IsTrue, List, [], ◌∷◌, ◌++◌, map, length}
use Rattle.sm_num.specs.Forms.{Linear}
use Rattle.sm_term.specs.Terms.{Tree}
use Rattle.sm_term.specs.Tables.{trees_in, sorts_in, tree_at}
use Rattle.sm_term.specs.declared.term.TermId.{TermId}
use Rattle.sm_theory.specs.declared.line.CertLine.TheVariants as line
use Rattle.sm_theory.specs.Facts.{BranchFact, Sum, as_facts}
use Rattle.sm_theory.specs.Standing.{IsKeptFor}
use Rattle.sm_theory.specs.Views.{line_in}
use Rattle.sm_theory.specs.declared.line.CertLine.{CertLine}
use Rattle.sm_cc.specs.Explained.{added_by, Explain, AreLinesOf}
use Rattle.sm_cc.specs.Views.{ClassesValue, setting_of, equation_of, numbers_of}
use Rattle.sm_cert.specs.Views.{AreLinesWithin}
use Rattle.sm_judge.specs.declared.forms.Source.TheVariants as source
use Rattle.sm_judge.specs.declared.eliminating.ElimLine.{ElimLine}
use Rattle.sm_judge.specs.Holding.{Seen}
use Rattle.sm_judge.specs.Refutations.{AreSources, Contradict}
use Rattle.sm_judge.specs.declared.forms.Source.{Source}

-- the terms of a source are terms of the table, and of one class
abbrev pub IsUsable : Seen → Source → Type 0
IsUsable b (source.Class t u) =
    (t.0 < length b.terms) × (u.0 < length b.terms)
    × IsTrue (b.equal (tree_at b.terms u.0) (tree_at b.terms t.0))
IsUsable b (source.Fact n) = Unit {0}

-- whether a place is marked, where marks stand in a list
abbrev pub mark_at : List Bool → ℕ → Bool
mark_at marks n = get_or marks n false

-- something is so where there is a mark
abbrev pub IfMarked : Bool → Type 0 → Type 0
IfMarked true P = P
IfMarked false P = Unit {0}

-- the fact with a number is a form, for which this one is kept
abbrev pub IsFormAt : List Tree → List BranchFact → ℕ → Linear ℕ → Type 0
IsFormAt trees facts n f =
    (g : Linear Tree) × (slice_get facts n ≡ Some (Sum g)) × IsKeptFor trees f g

-- each marked form is kept for the form that is the fact with its number
abbrev pub StandAsForms :
    List Tree → List BranchFact → (ℕ → Bool) → List ℕ → List (Linear ℕ) → Type 0
StandAsForms trees facts mark [] [] = Unit {0}
StandAsForms trees facts mark (n ∷ ns) (f ∷ fs) =
    IfMarked (mark 0) (IsFormAt trees facts n f)
    × StandAsForms trees facts (λ (k : ℕ). mark (suc k)) ns fs
StandAsForms trees facts mark ns fs = ⊥

-- lines add facts to those of a branch, among which marked forms have their numbers
pub record AreWritten (b : Seen) (mark : ℕ → Bool) (lines : List CertLine) (numbers : List ℕ)
    (forms : List (Linear ℕ)) : Type 0 where
  pub within : AreLinesWithin (length b.terms) lines
  pub more : List BranchFact
  pub added : added_by b.sorts (as_facts b.facts) (map (line_in b.terms) lines) ≡ Some more
  pub stand : StandAsForms b.terms (as_facts b.facts ++ more) mark numbers forms

-- the form that can't hold is marked, and with a sum the forms of which it is made; the first sum
-- has this place
abbrev pub AreMarked : (ℕ → Bool) → ℕ → List ElimLine → ℕ → Type 0
AreMarked mark at [] bad = IsTrue (mark bad)
AreMarked mark at (e ∷ es) bad =
    (IsTrue (mark at) → IsTrue (mark e.f) × IsTrue (mark e.g)) × AreMarked mark (suc at) es bad

-- sums are of forms before them; the first sum has this place
abbrev pub ArePlaces : ℕ → List ElimLine → ℕ → Type 0
ArePlaces at [] bad = bad < at
ArePlaces at (e ∷ es) bad = (e.f < at) × (e.g < at) × ArePlaces (suc at) es bad

-- one place is marked
pub record Marks (before after : List Bool) (n : ℕ) : Type 0 where
  pub count : length after ≡ length before
  pub here : IsTrue (mark_at after n)
  pub others : (k : ℕ) → (k ≡ n → ⊥) → mark_at after k ≡ mark_at before k

-- a sum's forms are marked where it is marked
pub record MarksSum (before after : List Bool) (at : ℕ) (e : ElimLine) : Type 0 where
  pub count : length after ≡ length before
  pub kept : (k : ℕ) → IsTrue (mark_at before k) → IsTrue (mark_at after k)
  pub above : (k : ℕ) → e.f < k → e.g < k → mark_at after k ≡ mark_at before k
  pub both : IsTrue (mark_at before at) → IsTrue (mark_at after e.f) × IsTrue (mark_at after e.g)

-- lines are written, and with the sources and sums that are left they come to a contradiction
pub record Leads (b : Seen) (mark : ℕ → Bool) (lines : List CertLine) (numbers : List ℕ)
    (sources : List Source) (elims : List ElimLine) (bad : ℕ) : Type 0 where
  pub made : List (Linear ℕ)
  pub left : List (Linear ℕ)
  pub written : AreWritten b mark lines numbers made
  pub from : AreSources b sources left
  pub contradict : Contradict (made ++ left) elims bad
  pub marked : AreMarked mark (length (made ++ left)) elims bad

-- lines that explain an equation go behind others, and its number is told
pub record AddsEquation (v : ClassesValue) (count : ℕ) (t u : TermId) (before after : List CertLine)
    (n : ℕ) : Type 0 where
  pub lines : List CertLine
  pub added : after ≡ before ++ lines
  pub named : AreLinesOf v.terms lines
  pub explain :
      Explain (sorts_in v.table) (numbers_of v) (setting_of v).given (count + length before)
      (map (line_in (trees_in v.table)) lines) (equation_of v.table t u)
  pub number : n ≡ (count + length after) - 1

-- the lines of a source go behind others, the last of which is that of its form, and the number of
-- the form behind other numbers
abbrev pub AddsSource :
    ClassesValue → ℕ → Source → List CertLine → List CertLine → List ℕ → List ℕ → Type 0
AddsSource v count (source.Fact n) before after numbers more =
    (after ≡ before ++ line.Lin n ∷ []) × (more ≡ numbers ++ (count + length before) ∷ [])
AddsSource v count (source.Class t u) before after numbers more =
    (between : List CertLine) × (n : ℕ) × AddsEquation v count t u before between n
    × (after ≡ between ++ line.Lin n ∷ []) × (more ≡ numbers ++ (count + length between) ∷ [])
