-- What Accepted and Conflict say of the bytes that were read.
use Rattle.sm_replies.proofs.Imports.{inl, ℕ, List, Known, Read, GivesNoTask, ProposesRead, Effort, stops_by, without_task}
use Rattle.sm_answers.specs.Exit.{ExitsWith}
use Rattle.sm_answers.specs.declared.exit.Exit.{Exit}

pub none_proposed : (name : List ℕ) (effort : Effort) (before now : List Read) (file : Known) (b n : ℕ) (stop : Exit) →
    ExitsWith (GivesNoTask file b n) stop → ExitsWith (ProposesRead name effort before now) stop
none_proposed name effort before now file b n stop =
    stops_by (GivesNoTask file b n) (ProposesRead name effort before now)
    (λ status text none.
    let is = without_task file b n status text none in inl ((λ e. is.not_accepted e), (λ e. is.not_conflict e))) stop
