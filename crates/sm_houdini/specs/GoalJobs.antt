-- Private: a round's goals, as jobs take them.
use Rattle.std.specs.Prelude.{◌≡◌, ℕ, ◌&&◌, Bool, List, Option, None}
use Rattle.sm_term.specs.Tables.{TableValue, trees_in, sorts_in}
use Rattle.sm_expand.specs.Views.{dues_in}
use Rattle.sm_expand.specs.declared.due.Due.{Due}
use Rattle.sm_sketch.specs.declared.kept.TemplateChoice.{TemplateChoice}
use Rattle.sm_sketch.specs.ChoiceViews.{choice_in}
use Rattle.sm_solve.specs.declared.reach.Reach.{Reach}
use Rattle.sm_houdini.specs.declared.marks.Marks.{Marks}
use Rattle.sm_houdini.specs.Closing.{closing, owner_in}
use Rattle.sm_houdini.specs.Marks.{all_marked, in_share, rows}
use Rattle.sm_houdini.specs.NodeJobs.{holds_but, is_left_out}

-- a table, what nodes ask over it, flags of what is known to close, the numbers of the jobs that nodes
-- are dealt to, the nodes' owners, a choice of templates, how far a walk goes, and how many shares
-- there are of the templates
pub record RoundGoalsValue : Type 0 where
  pub table : TableValue
  pub dues : List Due
  pub known : List Bool
  pub numbers : List ℕ
  pub owners : List (Option ℕ)
  pub choice : TemplateChoice
  pub reach : Reach
  pub shares : ℕ

-- whether each obligation of a template closes at the nodes that jobs share
abbrev pub holds_at_shared : RoundGoalsValue → ℕ → ℕ → Bool
holds_at_shared v s i =
    let asked = dues_in (sorts_in v.table) (trees_in v.table) v.dues in
    holds_but (is_left_out v.numbers v.shares None) (closing (sorts_in v.table) v.reach)
    (owner_in v.owners) 0 asked s i

-- marks at the templates of a share all of whose goals close at the nodes that jobs share
abbrev pub TellsShare : RoundGoalsValue → ℕ → Marks → Type 0
TellsShare v share marks =
    rows marks.sites.items
    ≡ all_marked (λ s i. in_share v.shares share i && holds_at_shared v s i) 0 (choice_in v.choice)
