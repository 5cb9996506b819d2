-- What comes with an answer. Only private clauses cite it.
use Rattle.std.specs.Prelude.{◌≡◌, ◌≢◌, ℕ, List, Option, MatchOption}
use Rattle.sm_proof.specs.Verdicts.{Passes}
use Rattle.sm_replay.specs.declared.verdict.Verdict.{Verdict}
use Rattle.sm_replay.specs.declared.verdict.Verdict.TheVariants.{Violates}
use Rattle.sm_syntax.specs.text.Parts.{Parts}
use Rattle.sm_write.specs.Versions.{HasVersion}
use Rattle.sm_replies.specs.declared.decided.Place.{Place}
use Rattle.sm_answers.specs.declared.status.Status.{Status}
use Rattle.sm_answers.specs.declared.status.Status.TheVariants.{Accepted}

-- the verdict that an input violates at a place
abbrev pub verdict_at : Place → Verdict
verdict_at at = Violates at.name at.index at.clause

-- a proof comes with the answer exactly where the task is accepted. It passes for the task, and is
-- of version 3 exactly where it has a line `exact`, else of version 2 exactly where the task assumes
-- something
abbrev pub ComesWith : Parts → Status → Option (List ℕ) → Type 0
ComesWith t status proof =
    MatchOption proof (status ≢ Accepted)
    (λ text. (status ≡ Accepted) × Passes t text × HasVersion t text)
