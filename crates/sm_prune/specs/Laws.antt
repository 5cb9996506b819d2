-- Cited by public clauses: what the lines that are left lead to.
use Rattle.std.specs.Prelude.{◌≡◌, Ok, List}
use Rattle.sm_syntax.specs.text.Sorts.{Sorts}
use Rattle.sm_plan.specs.States.{State}
use Rattle.sm_proof.specs.Lines.{ProofLine}
use Rattle.sm_proof.specs.Passing.{Progress, start_progress}
use Rattle.sm_prune.specs.Texts.{advanced}

-- where lines lead from a start, others lead to as many nodes, and the same is pending then
abbrev pub LeadAlike : List ProofLine → List ProofLine → Type 0
LeadAlike lines others =
    (sorts : Sorts) (st : State) (q : Progress) → advanced sorts (start_progress st) lines ≡ Ok q →
    (r : Progress)
    × (advanced sorts (start_progress st) others ≡ Ok r)
    × (r.nodes ≡ q.nodes)
    × (r.pending ≡ q.pending)
