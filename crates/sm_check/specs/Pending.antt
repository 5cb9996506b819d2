-- Private: what is pending, by what is due and what waits.
use Rattle.std.specs.Prelude.{◌≡◌, ℕ, ◌≤◌, length, take, reverse, Option, Some, None, List, [], ◌∷◌, ◌++◌}
use Rattle.sm_syntax.specs.text.Sorts.{Sorts}
use Rattle.sm_term.specs.Terms.{Tree}
use Rattle.sm_theory.specs.Facts.{BranchFact, as_facts}
use Rattle.sm_theory.specs.SortedFacts.{IsFactSorted, AreFactsSorted}
use Rattle.sm_theory.specs.Views.{FactStands, AllStand}
use Rattle.sm_theory.specs.declared.fact.Fact.{Fact}
use Rattle.sm_plan.specs.Views.{forms_in, stores_in, state_in}
use Rattle.sm_plan.specs.ReadyStates.{AreFormsReady, AreStoresReady, IsStateReady}
use Rattle.sm_proof.specs.Passing as plain
use Rattle.sm_proof.specs.Passing.{Pending}
pub use Rattle.sm_check.specs.declared.pending.Due.{Due}
use Rattle.sm_check.specs.declared.pending.Due.TheVariants as due
pub use Rattle.sm_check.specs.declared.pending.Waiting.{Waiting}
use Rattle.sm_check.specs.declared.pending.Waiting.TheVariants as waits

-- what is due can be gone on from
abbrev pub IsDueReady : Sorts → List Tree → Due → Type 0
IsDueReady sorts trees (due.State state above) = IsStateReady sorts trees state
IsDueReady sorts trees (due.Branch stores splits) = AreStoresReady sorts trees stores.value

-- what is due, if anything is, can be gone on from
abbrev pub IsReadyIfDue : Sorts → List Tree → Option Due → Type 0
IsReadyIfDue sorts trees None = Unit {0}
IsReadyIfDue sorts trees (Some d) = IsDueReady sorts trees d

-- what waits can be gone on from
abbrev pub IsWaitingReady : Sorts → List Tree → Waiting → Type 0
IsWaitingReady sorts trees (waits.State shared kept more state above) = IsStateReady sorts trees state
IsWaitingReady sorts trees (waits.Branch shared fact stores splits) =
    AreStoresReady sorts trees stores.value

-- each of what waits can be gone on from
abbrev pub AreWaitingReady : Sorts → List Tree → List Waiting → Type 0
AreWaitingReady sorts trees [] = Unit {0}
AreWaitingReady sorts trees (w ∷ ws) = IsWaitingReady sorts trees w × AreWaitingReady sorts trees ws

-- what is due stands for what is pending first, where these are the facts
abbrev pub DueStands : Sorts → List Tree → List BranchFact → Due → Pending → Type 0
DueStands sorts trees facts (due.State state above) (plain.Due st over) =
    (as_facts st.facts ≡ facts) × (state_in sorts trees st.facts state ≡ st) × (above ≡ over)
DueStands sorts trees facts (due.State state above) (plain.Branch stores own over) = ⊥
DueStands sorts trees facts (due.Branch stores splits) (plain.Due st over) = ⊥
DueStands sorts trees facts (due.Branch stores splits) (plain.Branch held own over) =
    (own ≡ facts) × (stores_in trees stores.value ≡ held) × (splits ≡ over)

-- how many facts of the path something has that waits
abbrev pub shared_by : Waiting → ℕ
shared_by (waits.State shared kept more state above) = shared
shared_by (waits.Branch shared fact stores splits) = shared

-- what waits stands for something pending: its facts are the first of the path with its own behind
abbrev pub WaitingStands : Sorts → List Tree → List BranchFact → Waiting → Pending → Type 0
WaitingStands sorts trees path (waits.State shared kept more state above) (plain.Due st over) =
    AreFormsReady sorts trees kept.value.list.items
    × AreFormsReady sorts trees more.list.items
    × (as_facts st.facts
    ≡ take shared path
    ++ as_facts (forms_in sorts trees kept.value.list.items ++ forms_in sorts trees more.list.items))
    × (state_in sorts trees st.facts state ≡ st)
    × (above ≡ over)
WaitingStands sorts trees path (waits.State shared kept more state above) (plain.Branch stores own over) = ⊥
WaitingStands sorts trees path (waits.Branch shared fact stores splits) (plain.Due st over) = ⊥
WaitingStands sorts trees path (waits.Branch shared fact stores splits) (plain.Branch held own over) =
    ((k : BranchFact) × FactStands sorts trees fact k × IsFactSorted sorts k × (own ≡ take shared path ++ k ∷ []))
    × (stores_in trees stores.value ≡ held)
    × (splits ≡ over)

-- what waits, the first at the front, stands for what is pending behind the first; none has more of
-- the path than what stands before it
abbrev pub AllWait : Sorts → List Tree → List BranchFact → ℕ → List Waiting → List Pending → Type 0
AllWait sorts trees path most [] [] = Unit {0}
AllWait sorts trees path most [] (p ∷ ps) = ⊥
AllWait sorts trees path most (w ∷ ws) [] = ⊥
AllWait sorts trees path most (w ∷ ws) (p ∷ ps) =
    (shared_by w ≤ most) × WaitingStands sorts trees path w p
    × AllWait sorts trees path (shared_by w) ws ps

-- all of it; nothing waits where nothing is due
abbrev pub AllPending :
    Sorts → List Tree → List BranchFact → Option Due → List Waiting → List Pending → Type 0
AllPending sorts trees path None ws [] = ws ≡ []
AllPending sorts trees path None ws (p ∷ ps) = ⊥
AllPending sorts trees path (Some d) ws [] = ⊥
AllPending sorts trees path (Some d) ws (p ∷ ps) =
    DueStands sorts trees path d p × AllWait sorts trees path (length path) ws ps

-- the path stands for sorted facts, over which what is due and what waits, the last first, stand for
-- what is pending
pub record PendingStands (sorts : Sorts) (trees : List Tree) (path : List Fact) (due : Option Due)
    (waiting : List Waiting) (pending : List Pending) : Type 0 where
  pub facts : List BranchFact
  pub stand : AllStand sorts trees path facts
  pub sorted : AreFactsSorted sorts facts
  pub all : AllPending sorts trees facts due (reverse waiting) pending

-- nothing is due: over the sorted facts of the path what waits, the last first, stands for what is
-- pending
pub record OnlyWaiting (sorts : Sorts) (trees : List Tree) (path : List Fact)
    (waiting : List Waiting) (pending : List Pending) : Type 0 where
  pub facts : List BranchFact
  pub stand : AllStand sorts trees path facts
  pub sorted : AreFactsSorted sorts facts
  pub all : AllWait sorts trees facts (length facts) (reverse waiting) pending

-- what waited first is due: the path has its facts, and still those that it shares with what waits
pub record IsMadeReady (sorts : Sorts) (trees : List Tree) (facts : List BranchFact)
    (path : List Fact) (shared : ℕ) (d : Due) (p : Pending) : Type 0 where
  pub after : List BranchFact
  pub stand : AllStand sorts trees path after
  pub sorted : AreFactsSorted sorts after
  pub same : take shared after ≡ take shared facts
  pub long : shared ≤ length after
  pub first : DueStands sorts trees after d p
