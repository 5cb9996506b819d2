use Rattle.sm_houdini.proofs.Imports.{ℕ, ◌≤◌, Bool, ◌&&◌, ap, ◌∙◌, trees_in, sorts_in, choice_in, closing, owner_in, in_share, holds_at}
use Rattle.sm_expand.specs.Views.{dues_in}
use Rattle.sm_houdini.proofs.MarkedLemmas.{all_same}
use Rattle.sm_houdini.proofs.NodeLemmas.{none_out}
use Rattle.sm_houdini.proofs.ShareLemmas.{one_of_one}
use Rattle.sm_houdini.proofs.goal_jobs.marks_after.Goals as goal

pub returns-then-parts-eq1-clause-marks : goal.returns-then-parts-eq1-clause-marks
returns-then-parts-eq1-clause-marks g c =
    let a = c.args in
    let r = a.round.now in
    let closes = closing (sorts_in a.table.now) r.reach in
    let owner = owner_in r.owners.now in
    let ds = dues_in (sorts_in a.table.now) (trees_in a.table.now) r.dues.now in
    let choice = choice_in a.choice.now in
    c.in_ok-judge_all.ensures.judged (λ s. in_share 1 0) choice c.in_ok-marks.ensures
    ∙ all_same _ (λ (s i : ℕ). in_share 1 0 i && holds_at closes owner ds s i) 0 choice
    (λ (s i : ℕ) (l : 0 ≤ s). ap (λ (b : Bool). in_share 1 0 i && b) (none_out closes owner 0 ds s i))
    ∙ one_of_one (holds_at closes owner ds) choice
