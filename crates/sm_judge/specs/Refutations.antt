-- Cited by public clauses: how the forms of a branch come to a contradiction.
use Rattle.std.specs.Prelude.{◌≡◌, ℕ, ◌<◌, ◌≤◌, Result, Ok, Err, IsTrue, Option, Some, None, slice_get, List, [], ◌∷◌, ◌++◌, length}
use Rattle.sm_num.specs.declared.kind.Kind.TheVariants as kind
use Rattle.sm_num.specs.Forms.{Linear}
use Rattle.sm_num.specs.FormLaws.{same_atom}
use Rattle.sm_num.specs.Combining.{Outcome, Fits, then_with}
use Rattle.sm_num.specs.Eliminating.{can_cancel, eliminated}
use Rattle.sm_num.specs.Tightening.{is_contradictory}
use Rattle.sm_term.specs.Tables.{tree_at}
use Rattle.sm_term.specs.Assertions.{Assertion, Yes, No, Eq, Ne, Le, Lt, And, Or}
use Rattle.sm_theory.specs.Arithmetic.{is_numeric, one_more}
use Rattle.sm_num.specs.Errors.{Explains}
use Rattle.sm_num.specs.declared.error.NumError.{NumError}
pub use Rattle.sm_judge.specs.declared.forms.Source.{Source}
use Rattle.sm_judge.specs.declared.forms.SourcedForms.{SourcedForms}
use Rattle.sm_judge.specs.declared.forms.Source.TheVariants as source
use Rattle.sm_judge.specs.declared.eliminating.ElimLine.{ElimLine}
use Rattle.sm_judge.specs.declared.eliminating.Refutation.{Refutation}
use Rattle.sm_judge.specs.declared.eliminating.ByForms.{ByForms}
use Rattle.sm_judge.specs.declared.eliminating.ByForms.TheVariants as came
use Rattle.sm_judge.specs.Holding.{Seen}
use Rattle.sm_judge.specs.Forms.{Walked, Closes, TooFar, GoesOut, less_by}

-- the form of a comparison, where a formula is one
abbrev pub comparison_by : Seen → Assertion → Option (Outcome (Linear ℕ))
comparison_by b Yes = None
comparison_by b No = None
comparison_by b (Eq sort t u) = None
comparison_by b (Ne sort t u) = None
comparison_by b (Le t u) = Some (less_by b kind.Le t u)
comparison_by b (Lt t u) = Some (then_with (less_by b kind.Le t u) one_more)
comparison_by b (And p q) = None
comparison_by b (Or p q) = None

-- where a form comes from: a number is equal to another, the first of its class, or a fact compares
-- numbers
abbrev pub IsSource : Seen → Source → Linear ℕ → Type 0
IsSource b (source.Class t u) f =
    (t.0 < length b.terms) × (u.0 < length b.terms)
    × IsTrue (is_numeric b.sorts (tree_at b.terms t.0))
    × IsTrue (b.equal (tree_at b.terms u.0) (tree_at b.terms t.0))
    × (less_by b kind.Eq (tree_at b.terms t.0) (tree_at b.terms u.0) ≡ Fits f)
IsSource b (source.Fact n) f =
    (a : Assertion) × (slice_get b.facts n ≡ Some a) × (comparison_by b a ≡ Some (Fits f))

-- each form has its source
abbrev pub AreSources : Seen → List Source → List (Linear ℕ) → Type 0
AreSources b [] [] = Unit {0}
AreSources b (s ∷ ss) (f ∷ fs) = IsSource b s f × AreSources b ss fs
AreSources b ss fs = ⊥

-- a call gives the forms with their sources, or the first operation that leaves the range
abbrev pub GivesForms : Seen → Outcome (List (Linear ℕ)) → Result SourcedForms NumError → Type 0
GivesForms b outcome (Ok made) =
    (outcome ≡ Fits made.forms.list.items) × AreSources b made.sources.items made.forms.list.items
GivesForms b outcome (Err e) = Explains outcome e

-- sums of forms, each of which goes behind the forms before the next one is made; then the form at
-- a place can't hold
abbrev pub Contradict : List (Linear ℕ) → List ElimLine → ℕ → Type 0
Contradict forms [] bad =
    (f : Linear ℕ) × (slice_get forms bad ≡ Some f) × IsTrue (is_contradictory f)
Contradict forms (e ∷ es) bad =
    (f g h : Linear ℕ)
    × (slice_get forms e.f ≡ Some f) × (slice_get forms e.g ≡ Some g)
    × IsTrue (can_cancel same_atom f g e.atom.0)
    × (eliminated f g e.atom.0 ≡ Fits h)
    × Contradict (forms ++ h ∷ []) es bad

-- a refutation of a branch: forms with their sources, and sums of them that come to a contradiction
pub record IsRefutation (b : Seen) (r : Refutation) : Type 0 where
  pub forms : List (Linear ℕ)
  pub sources : AreSources b r.sources.items forms
  pub contradict : Contradict forms r.elims.items r.bad

-- what the forms of a branch come to, at a count of which they go on to the next
abbrev pub TellsForms : ByForms → Walked → (ℕ → Walked) → Type 0
TellsForms (came.Contradiction count refutation) walked next = walked ≡ Closes count
TellsForms (came.GoesOn count) walked next = walked ≡ next count
TellsForms came.Steps walked next = walked ≡ TooFar
TellsForms (came.Coefficient op a b) walked next = walked ≡ GoesOut op a b

-- a refutation that the forms came to refutes the branch
abbrev pub ShowsWhy : Seen → ByForms → Type 0
ShowsWhy b (came.Contradiction count refutation) = IsRefutation b refutation
ShowsWhy b (came.GoesOn count) = Unit {0}
ShowsWhy b came.Steps = Unit {0}
ShowsWhy b (came.Coefficient op y z) = Unit {0}

-- a count that goes on is within the steps
abbrev pub IsCountWithin : ℕ → ByForms → Type 0
IsCountWithin steps (came.Contradiction count refutation) = count ≤ steps
IsCountWithin steps (came.GoesOn count) = count ≤ steps
IsCountWithin steps came.Steps = Unit {0}
IsCountWithin steps (came.Coefficient op y z) = Unit {0}
