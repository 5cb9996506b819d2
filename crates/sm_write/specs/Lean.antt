-- Private: a text in which each term and each formula that a line makes is named by a later one.
use Rattle.std.specs.Prelude.{◌≡◌, ℕ, Bool, List}
use Rattle.sm_proof.specs.Passing.{Progress}
use Rattle.sm_proof.specs.Verdicts.{Subject}
use Rattle.sm_prune.specs.Texts.{Leads}
use Rattle.sm_prune.specs.UsedLines.{AreNamed}

-- it leads to where the same is pending
pub record IsLean (s : Subject) (exact : Bool) (p : Progress) (text : List ℕ) : Type 0 where
  pub after : Progress
  pub leads : Leads s text exact after
  pub same : after.pending ≡ p.pending
  pub named : AreNamed 0 0 leads.lines
