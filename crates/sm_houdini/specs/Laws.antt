-- Cited by public clauses: laws of the rounds, for all tasks and choices.
use Rattle.std.specs.Prelude.{◌≡◌, ℕ, zero, suc, ◌<◌, ◌≤◌, Bool, true, false, Some, None, is_none, Ok, List, [], ◌∷◌, length, slice_get}
use Rattle.sm_syntax.specs.text.Conditions.{is_in, first_refusal}
use Rattle.sm_syntax.specs.text.Parts.{Parts, sort_of, task_of}
use Rattle.sm_term.specs.Assertions.{Assertion}
use Rattle.sm_term.specs.Slots.{at_stores}
use Rattle.sm_cert.specs.Certificates.{Certificate}
use Rattle.sm_plan.specs.Plans.{Due, obligations}
use Rattle.sm_plan.specs.SortedStates.{IsTaskSorted}
use Rattle.sm_plan.specs.Starts.{AreNumbered}
use Rattle.sm_sketch.specs.Choices.{Choice, chosen_at, picked}
use Rattle.sm_product.specs.Laws.{HaveNoHole}
use Rattle.sm_product.specs.ProductPlans.{templates, plan_of, full_choice}
use Rattle.sm_product.specs.Sizes.{is_small}
use Rattle.sm_replay.specs.Trials.{IsLeast}
use Rattle.sm_replay.specs.declared.verdict.Verdict.{Verdict}
use Rattle.sm_judge.specs.Forms.{Walked}
use Rattle.sm_solve.specs.declared.reach.Reach.{Reach}
use Rattle.sm_write.specs.Writable.{AreShort, IsWritable}
use Rattle.sm_houdini.specs.Certified.{asked, AreCertified, AllNameShort}
use Rattle.sm_houdini.specs.Obligations.{AsksChosen, Obligation, StandIn, HasTemplates, HasAll, IsAskedUnder, IsShownUnder}
use Rattle.sm_houdini.specs.Outcomes.{Outcome, Conflict, IsOutcome, is_closing}
use Rattle.sm_houdini.specs.Owners.{owner_of}
use Rattle.sm_houdini.specs.Rounds.{dues_of, next_round, kept}
use Rattle.sm_houdini.specs.Searchable.{IsSearchable}

-- goals are final exactly where no site owns them
abbrev pub AreFinalUnowned : Parts → List Due → Type 0
AreFinalUnowned t [] = Unit {0}
AreFinalUnowned t (d ∷ ds) = (d.is_final ≡ is_none (owner_of t d)) × AreFinalUnowned t ds

-- so it is of each goal that the plan of a choice asks
abbrev pub FinalHasNoOwner : Type 0
FinalHasNoOwner =
    (t : Parts) (choice : Choice) (ds : List Due) →
    obligations (task_of t) (plan_of t choice) ≡ Ok ds →
    AreFinalUnowned t ds

-- what a site asks are the templates that are chosen there, in order, at the stores of the node that
-- asks them
abbrev pub AllAskChosen : Parts → Choice → List Due → Type 0
AllAskChosen t choice [] = Unit {0}
AllAskChosen t choice (d ∷ ds) =
    ((s : ℕ) → owner_of t d ≡ Some s → AsksChosen t choice s d) × AllAskChosen t choice ds

-- so it is of each obligation of the plan of a choice
abbrev pub SitesAskChosen : Type 0
SitesAskChosen =
    (t : Parts) (choice : Choice) (ds : List Due) →
    obligations (task_of t) (plan_of t choice) ≡ Ok ds →
    AllAskChosen t choice ds

-- the plan of a choice can be written with certificates of all that it asks
abbrev pub SearchIsWritable : Type 0
SearchIsWritable =
    (t : Parts) (choice : Choice) (ds : List Due) (cs : List Certificate) →
    AreNumbered t.declared →
    IsTaskSorted (sort_of t.declared) (task_of t) →
    obligations (task_of t) (plan_of t choice) ≡ Ok ds →
    AreCertified (sort_of t.declared) (asked ds) cs →
    AreShort cs →
    IsWritable t (plan_of t choice) cs

-- a task that meets the conditions can be searched, and has no more than the 200 names that lines have
-- room for
abbrev pub ValidIsSearchable : Type 0
ValidIsSearchable =
    (t : Parts) → first_refusal t ≡ None → IsSearchable t × (length t.declared ≤ 200)

-- of certificates of all that the plan of a choice asks no line is too long where no number is and
-- there are at most 200 names: a summary has no more arguments than there are names
abbrev pub CertifiedAreShort : Type 0
CertifiedAreShort =
    (t : Parts) (choice : Choice) (ds : List Due) (cs : List Certificate) →
    length t.declared ≤ 200 →
    AreNumbered t.declared →
    IsTaskSorted (sort_of t.declared) (task_of t) →
    obligations (task_of t) (plan_of t choice) ≡ Ok ds →
    AreCertified (sort_of t.declared) (asked ds) cs →
    AllNameShort cs →
    AreShort cs

-- each of some goals closes
abbrev pub AllClose : (Assertion → Bool) → List Assertion → Type 0
AllClose closes [] = Unit {0}
AllClose closes (g ∷ gs) = (closes g ≡ true) × AllClose closes gs

-- each goal that a site asks closes over the facts of its obligation
abbrev pub AllOwnedClose : (List Assertion → Assertion → Bool) → Parts → List Due → Type 0
AllOwnedClose closes t [] = Unit {0}
AllOwnedClose closes t (d ∷ ds) =
    ((s : ℕ) → owner_of t d ≡ Some s → AllClose (closes d.facts) d.goals)
    × AllOwnedClose closes t ds

-- the kept choice is one that another round leaves as it is: each goal that a site asks under it
-- closes, whatever judges them
abbrev pub KeptIsInductive : Type 0
KeptIsInductive =
    (closes : List Assertion → Assertion → Bool) (t : Parts) →
    (next_round closes t (kept closes t) ≡ kept closes t)
    × AllOwnedClose closes t (dues_of t (kept closes t))

-- the choice of a round: at first that of all templates
abbrev pub round_at : (List Assertion → Assertion → Bool) → Parts → ℕ → Choice
round_at closes t zero = full_choice t
round_at closes t (suc r) = next_round closes t (round_at closes t r)

-- under a choice, a template is refuted: one of its obligations doesn't close. The goal of this one
-- is the template itself, at the stores of the node that asks it, and the next round is without it
pub record IsRefuted (closes : List Assertion → Assertion → Bool) (t : Parts) (choice : Choice)
    (s n : ℕ) : Type 0 where
  pub obligation : Obligation t choice s n
  pub asks : AsksChosen t choice s obligation.due
  pub template : Assertion
  pub is_template : slice_get (templates t s) n ≡ Some template
  pub is_picked :
      slice_get (picked (templates t s) (chosen_at choice s)) obligation.place ≡ Some template
  pub is_instance : obligation.goal ≡ at_stores asks.state.stores template
  pub fails : closes obligation.due.facts obligation.goal ≡ false
  pub goes : is_in (chosen_at (next_round closes t choice) s) n ≡ false

-- what is kept is the choice of a round, and each template that isn't kept was refuted in a round
abbrev pub DroppedAreRefuted : Type 0
DroppedAreRefuted =
    (closes : List Assertion → Assertion → Bool) (t : Parts) →
    ((r : ℕ) × (kept closes t ≡ round_at closes t r))
    × ((s n : ℕ) → n < length (templates t s) → is_in (chosen_at (kept closes t) s) n ≡ false →
    (r : ℕ) × IsRefuted closes t (round_at closes t r) s n)

-- of two choices, what the smaller has at each site stands in order among what the larger has there.
-- Then each obligation of the smaller's templates under the larger is one under the smaller as well
abbrev pub AskedUnderFewer : Type 0
AskedUnderFewer =
    (t : Parts) (choice larger : Choice) (ds : List Due) →
    obligations (task_of t) (plan_of t choice) ≡ Ok ds →
    HasTemplates t larger →
    ((s : ℕ) → StandIn (chosen_at choice s) (chosen_at larger s)) →
    (s n : ℕ) → is_in (chosen_at choice s) n ≡ true →
    (o : Obligation t larger s n) → IsAskedUnder t choice larger s n o

-- where each template of a choice is shown under it without exact lines, each is so in every round
-- that has them all as well, and is dropped there only where the walk of one of its obligations
-- doesn't close: it stays open, takes too many steps or leaves the range. An exact line decides all
-- forms of its branch, so it may fail where there are more facts
abbrev pub ShownInRounds : Type 0
ShownInRounds =
    (walk : List Assertion → Assertion → Walked) (t : Parts) (choice : Choice) (ds : List Due)
    (r : ℕ) →
    let closes = λ (facts : List Assertion) (goal : Assertion). is_closing (walk facts goal) in
    let round = round_at closes t r in
    obligations (task_of t) (plan_of t choice) ≡ Ok ds →
    ((s n : ℕ) → IsShownUnder t choice s n) →
    HasAll round choice →
    (s n : ℕ) → is_in (chosen_at choice s) n ≡ true →
    IsShownUnder t round s n
    × (is_in (chosen_at (next_round closes t round) s) n ≡ false →
    (o : Obligation t round s n) × (is_closing (walk o.due.facts o.goal) ≡ false))

-- where no filling has a hole and the plan of all templates is small, that of what is kept has
-- obligations
abbrev pub KeptExpands : Type 0
KeptExpands =
    (closes : List Assertion → Assertion → Bool) (t : Parts) → HaveNoHole t → is_small t ≡ true →
    (ds : List Due) × (obligations (task_of t) (plan_of t (kept closes t)) ≡ Ok ds)

-- a search comes to one outcome
abbrev pub OutcomeIsOne : Type 0
OutcomeIsOne =
    (t : Parts) (reach : Reach) (turns : ℕ) (o p : Outcome (ℕ × Verdict)) →
    IsOutcome t reach turns o → IsOutcome t reach turns p → o ≡ p

-- a conflict is that of the least trial that violates
abbrev pub ConflictIsLeast : Type 0
ConflictIsLeast =
    (t : Parts) (reach : Reach) (turns : ℕ) (found : ℕ × Verdict) →
    IsOutcome t reach turns (Conflict found) →
    IsLeast (task_of t) (sort_of t.declared) turns found.0 found.1
