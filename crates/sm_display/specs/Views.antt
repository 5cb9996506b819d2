-- What is shown of the ends by the status of a verdict. Only private clauses cite it.
use Rattle.std.specs.Prelude.{◌≡◌, ℕ, List, []}
use Rattle.sm_syntax.specs.claim.Stores.{Store}
use Rattle.sm_syntax.specs.text.Parts.{Parts}
use Rattle.sm_answers.specs.declared.status.Status.{Status}
use Rattle.sm_answers.specs.declared.status.Status.TheVariants.{Accepted, Conflict, Unknown, Refused, Usage, ReadFault, Memory, WriteFault, SinkFault}
use Rattle.sm_display.specs.Shown.{ShowsEnds}

-- the ends where the verdict is one on them, and else nothing
abbrev pub ShowsBy : Parts → Store → ℕ → Status → List ℕ → Type 0
ShowsBy t s turns Accepted text = ShowsEnds t s turns text
ShowsBy t s turns Conflict text = ShowsEnds t s turns text
ShowsBy t s turns Unknown text = text ≡ []
ShowsBy t s turns Refused text = text ≡ []
ShowsBy t s turns Usage text = text ≡ []
ShowsBy t s turns ReadFault text = text ≡ []
ShowsBy t s turns Memory text = text ≡ []
ShowsBy t s turns WriteFault text = text ≡ []
ShowsBy t s turns SinkFault text = text ≡ []
