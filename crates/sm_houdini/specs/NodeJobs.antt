-- Private: what nodes ask, where some of them are left out, and nodes that are dealt to jobs.
use Rattle.std.specs.Prelude.{◌≡◌, ℕ, zero, suc, ◌==◌, nat_lt, Bool, true, false, not, ◌&&◌, ◌||◌, Option, Some, None, List, [], ◌∷◌, slice_get, unwrap_or}
use Rattle.sm_term.specs.Assertions.{Assertion}
use Rattle.sm_term.specs.Tables.{TableValue, trees_in, sorts_in}
use Rattle.sm_plan.specs.Plans as plain
use Rattle.sm_expand.specs.Views.{dues_in}
use Rattle.sm_expand.specs.declared.due.Due.{Due}
use Rattle.sm_sketch.specs.Choices.{Choice}
use Rattle.sm_solve.specs.declared.reach.Reach.{Reach}
use Rattle.sm_houdini.specs.declared.marks.Marks.{Marks}
use Rattle.sm_houdini.specs.declared.node_jobs.Nodes.{Nodes}
use Rattle.sm_houdini.specs.declared.node_jobs.Nodes.TheVariants as nodes
use Rattle.sm_houdini.specs.Closing.{closing, owner_in}
use Rattle.sm_houdini.specs.Marks.{all_marked, rows}
use Rattle.sm_houdini.specs.Rounds.{is_site, closes_if}

-- whether each obligation of the i-th template that a site keeps closes, but for those of the nodes
-- that are left out, by their places, counted from n on
abbrev pub holds_but : (ℕ → Bool) → (List Assertion → Assertion → Bool) →
    (plain.Due → Option ℕ) → ℕ → List plain.Due → ℕ → ℕ → Bool
holds_but out closes owner n [] s i = true
holds_but out closes owner n (d ∷ ds) s i =
    (out n || (not (is_site (owner d) s) || closes_if (closes d.facts) (slice_get d.goals i)))
    && holds_but out closes owner (suc n) ds s i

-- the number of the job that a node is dealt to, where there are so many jobs; any other number where
-- the jobs share it
abbrev pub number_at : List ℕ → ℕ → ℕ → ℕ
number_at numbers jobs n = unwrap_or (slice_get numbers n) jobs

-- whether a node is left out: by a job all that aren't dealt to it, and where jobs share nodes, all
-- that are dealt
abbrev pub is_left_out : List ℕ → ℕ → Option ℕ → ℕ → Bool
is_left_out numbers jobs (Some job) n = not (number_at numbers jobs n == job)
is_left_out numbers jobs None n = nat_lt (number_at numbers jobs n) jobs

-- whether a node is none of those that are judged: of all nodes none is left out
abbrev pub leaves_out : Nodes → ℕ → Bool
leaves_out nodes.Every = λ n. false
leaves_out (nodes.Shared numbers jobs) = is_left_out numbers.now jobs None
leaves_out (nodes.OfJob numbers jobs job) = is_left_out numbers.now jobs (Some job)

-- whether all of the first numbers pass
abbrev pub all_below : (ℕ → Bool) → ℕ → Bool
all_below passes zero = true
all_below passes (suc n) = all_below passes n && passes n

-- a table, what nodes ask over it, flags of what is known to close, the numbers of the jobs that nodes
-- are dealt to, the nodes' owners, marks of templates, how far a walk goes, and how many jobs there
-- are
pub record NodeGoalsValue : Type 0 where
  pub table : TableValue
  pub dues : List Due
  pub known : List Bool
  pub numbers : List ℕ
  pub owners : List (Option ℕ)
  pub marks : Marks
  pub reach : Reach
  pub jobs : ℕ

-- whether each obligation of a template closes at the nodes of a job, or at those that jobs share
abbrev pub holds_in_job : NodeGoalsValue → Option ℕ → ℕ → ℕ → Bool
holds_in_job v job s i =
    let asked = dues_in (sorts_in v.table) (trees_in v.table) v.dues in
    holds_but (is_left_out v.numbers v.jobs job) (closing (sorts_in v.table) v.reach)
    (owner_in v.owners) 0 asked s i

-- marks that stay after what the nodes of a job ask
abbrev pub TellsNodes : NodeGoalsValue → ℕ → Marks → Type 0
TellsNodes v job marks =
    (passes : ℕ → ℕ → Bool) (choice : Choice) →
    rows v.marks.sites.items ≡ all_marked passes 0 choice →
    rows marks.sites.items
    ≡ all_marked (λ s i. passes s i && holds_in_job v (Some job) s i) 0 choice
