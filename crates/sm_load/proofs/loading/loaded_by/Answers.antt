-- The table is over the declared names.
use Rattle.std.proofs.Common.{◌∙◌}
use Rattle.sm_proof.specs.Verdicts.{subject_of}
use Rattle.sm_text.specs.Tasks.{parts_of}
use Rattle.sm_load.proofs.SortsKnown.{sorts_at_start}
use Rattle.sm_load.proofs.loading.loaded_by.Goals as goal

pub returns-in-Some : goal.returns-in-Some
returns-in-Some c =
    c.loaded_over.ensures ∙ c.into_table-table.ensures ∙ c.said_in-said.ensures
    ∙ sorts_at_start c.in_ok-checker.checker (subject_of (parts_of c.args.task.now)) c.in_ok-checker.ensures
