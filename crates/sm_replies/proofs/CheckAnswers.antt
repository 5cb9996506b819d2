-- What `check` answers, by what its search comes to.
use Rattle.sm_replies.proofs.Imports.{◌≡◌, ◌∙◌, ℕ, List, sym, subst, Option, Some, None, Ok, Err, option_map, Vec, Global, codes, AllocError, IsOutcome, Verdict, ConflictFree, Parts, task_of, Effort, Stop, Status, Accepted, Conflict, Unknown, reach_of, AnswersCheck, SaysNoted, SaysOutcome, ShowsTrial, IsShownBy, RestsOn, stop_in, IsUndecided, ComesWith, Ground, Proved}
use Rattle.std.specs.Prelude.{Result, IfOk}
use Rattle.sm_houdini.specs.Outcomes as outcome
use Rattle.sm_houdini.specs.Outcomes.{Outcome}
use Rattle.sm_replies.specs.declared.decided.Decided.{Decided}
use Rattle.sm_replies.proofs.WhySaid as why

module _ (t : Parts) (effort : Effort) where
  -- a proof
  pub shown_answers : (r : Result Decided AllocError) → IsOutcome t (reach_of effort) effort.turns outcome.Accepted →
      IfOk r (λ d. ConflictFree (task_of t)) →
      IfOk r (λ d. SaysNoted t Accepted (codes "Accepted\n") d.reply.status d.reply.text.items) →
      IfOk r (λ d. AnswersCheck t effort d.reply.status d.reply.text.items)
  shown_answers (Err e) found free says = says
  shown_answers (Ok d) found free says = record { outcome = outcome.Accepted; found = found; says = (free, says) }

  pub shown_rests : (r : Result Decided AllocError) →
      IfOk r (λ d. SaysNoted t Accepted (codes "Accepted\n") d.reply.status d.reply.text.items) → IfOk r (λ d. d.ground ≡ Proved) →
      IfOk r (λ d. RestsOn t effort d.reply.status d.reply.text.items d.ground)
  shown_rests (Err e) says is = says
  shown_rests (Ok d) says is =
      subst (λ (g : Ground). RestsOn t effort d.reply.status d.reply.text.items g) (sym is) says.2.ended

  -- a conflict
  pub conflict_answers : (number : ℕ) (v : Verdict) (r : Result Decided AllocError) →
      IsOutcome t (reach_of effort) effort.turns (outcome.Conflict (number, v)) →
      IfOk r (λ d. ShowsTrial t number v d.reply.status d.reply.text.items) →
      IfOk r (λ d. AnswersCheck t effort d.reply.status d.reply.text.items)
  conflict_answers number v (Err e) found shows = shows
  conflict_answers number v (Ok d) found shows = record { outcome = outcome.Conflict (number, v); found = found; says = shows }

  pub conflict_rests : (r : Result Decided AllocError) → IfOk r (λ d. IsShownBy t d.reply.status d.reply.text.items d.ground) →
      IfOk r (λ d. RestsOn t effort d.reply.status d.reply.text.items d.ground)
  conflict_rests (Err e) shown = shown
  conflict_rests (Ok d) shown = why.shown_rests t effort d.reply.status d.reply.text.items d.ground shown

  -- a search that decides nothing
  pub undecided_answers : (o : Outcome (ℕ × Verdict)) (line : List ℕ) (stop : Stop) → IsOutcome t (reach_of effort) effort.turns o →
      ((status : Status) (text : List ℕ) → SaysNoted t Unknown line status text → SaysOutcome t o status text) →
      (r : Result Decided AllocError) → IfOk r (IsUndecided t line stop) →
      IfOk r (λ d. AnswersCheck t effort d.reply.status d.reply.text.items)
  undecided_answers o line stop found says (Err e) is = is
  undecided_answers o line stop found says (Ok d) is =
      record { outcome = o; found = found; says = says d.reply.status d.reply.text.items is.says }

  pub undecided_rests : (o : Outcome (ℕ × Verdict)) (line : List ℕ) (stop : Stop) → IsOutcome t (reach_of effort) effort.turns o →
      stop_in o ≡ Some stop → (r : Result Decided AllocError) → IfOk r (IsUndecided t line stop) →
      IfOk r (λ d. RestsOn t effort d.reply.status d.reply.text.items d.ground)
  undecided_rests o line stop found stopped (Err e) is = is
  undecided_rests o line stop found stopped (Ok d) is =
      why.stopped_rests t effort d.reply.status d.reply.text.items d.ground stop o is.ground is.says.2.ended found stopped

module _ (t : Parts) where
  pub conflict_comes : (r : Result Decided AllocError) → IfOk r (λ d. d.proof ≡ None) →
      IfOk r (λ d. IsShownBy t d.reply.status d.reply.text.items d.ground) →
      IfOk r (λ d. ComesWith t d.reply.status (option_map (λ v. v.items) d.proof))
  conflict_comes (Err e) none shown = shown
  conflict_comes (Ok d) none shown =
      why.shown_comes t d.reply.status d.proof none (why.shown_is t d.reply.status d.reply.text.items d.ground shown)

  pub undecided_comes : (line : List ℕ) (stop : Stop) (r : Result Decided AllocError) → IfOk r (IsUndecided t line stop) →
      IfOk r (λ d. ComesWith t d.reply.status (option_map (λ v. v.items) d.proof))
  undecided_comes line stop (Err e) is = is
  undecided_comes line stop (Ok d) is =
      why.unknown_comes t d.reply.status d.proof is.none is.says.2.ended
