-- Answers where a search decides nothing. Only private clauses cite it.
use Rattle.std.specs.Prelude.{◌≡◌, ℕ, List, None}
use Rattle.sm_syntax.specs.text.Parts.{Parts}
use Rattle.sm_why.specs.declared.stop.Stop.{Stop}
use Rattle.sm_answers.specs.declared.status.Status.TheVariants.{Unknown}
use Rattle.sm_replies.specs.Check.{SaysNoted}
use Rattle.sm_replies.specs.declared.decided.Decided.{Decided}
use Rattle.sm_replies.specs.declared.ground.Ground.TheVariants.{Stopped}

-- the answer says a line, no proof comes with it, and it rests on what the search stopped at
pub record IsUndecided (t : Parts) (line : List ℕ) (stop : Stop) (d : Decided) : Type 0 where
  pub says : SaysNoted t Unknown line d.reply.status d.reply.text.items
  pub none : d.proof ≡ None
  pub ground : d.ground ≡ Stopped stop
