-- What answers to a task and a proof file say, and which text refuses a task.
use Rattle.sm_answers.proofs.Imports.{◌≡◌, ◌≢◌, inr, ℕ, List, Result, Ok, Err, IfOk, IfErr, refl, ◌∙◌, ap, FileAnswer, Judged, OverLong, Known, Parts, Verifies, answer_status, AnswersProof, refusal_line, GivesTask, IsNoTask, ExitsWith, Exit, Reply, names_of, task_or_refusal}
use Rattle.sm_proof.specs.Verdicts as proof
use Rattle.sm_answers.specs.File.{Status, Accepted, Refused, ReadFault}
use Rattle.sm_answers.specs.declared.exit.Exit.TheVariants as stopped
use Rattle.sm_task.specs.Errors.{IsRefusedWith}
use Rattle.sm_task.specs.declared.error.TaskError.{TaskError}
use Rattle.sm_task.specs.declared.error.TaskError.TheVariants as no_task

-- only a file that passes is accepted
pub accepted_passes : (a : FileAnswer) → answer_status a ≡ Accepted → a ≡ Judged proof.Pass
accepted_passes (Judged proof.Pass) e = refl
accepted_passes (Judged (proof.Rejected line word)) e = cc
accepted_passes OverLong e = cc

-- a read that failed isn't accepted
pub fault_not_accepted : (status : Status) → status ≡ ReadFault → status ≡ Accepted → ⊥
fault_not_accepted status e f = cc

-- where all answers of one kind are of another, so are those at which a call stops
pub stops_by : (Gives Takes : Status → List ℕ → Type 0) → ((status : Status) (text : List ℕ) → Gives status text → Takes status text)
    → (stop : Exit) → ExitsWith Gives stop → ExitsWith Takes stop
stops_by Gives Takes f (stopped.Answer r) h = f r.status r.text.items h
stops_by Gives Takes f stopped.Memory h = tt

pub result_by : (Gives Takes : Status → List ℕ → Type 0) → ((status : Status) (text : List ℕ) → Gives status text → Takes status text)
    → (r : Result Reply Exit) → IfOk r (λ (p : Reply). Gives p.status p.text.items) → IfErr r (ExitsWith Gives)
    → IfOk r (λ (p : Reply). Takes p.status p.text.items) × IfErr r (ExitsWith Takes)
result_by Gives Takes f (Ok p) ok stop = (f p.status p.text.items ok, tt)
result_by Gives Takes f (Err e) ok stop = (tt, stops_by Gives Takes f e stop)

-- a task that the first file gives, with what is answered to it and a proof's file
verifies_task : (file proof other : Known) (before between now : ℕ) (t : Parts) → GivesTask file before between t → other ≡ proof
    → (status : Status) (text : List ℕ) → AnswersProof t other between now status text → Verifies file proof before now status text
verifies_task file proof other before between now t gives same status text a =
    inr (record { task = t; between = between; gives = gives; answers = rw (← same) a })

pub verified_by : (file proof other : Known) (before between now : ℕ) (t : Parts) → GivesTask file before between t
    → other ≡ proof → (r : Result Reply Exit) → IfOk r (λ (p : Reply). AnswersProof t other between now p.status p.text.items)
    → IfErr r (ExitsWith (AnswersProof t other between now)) →
    IfOk r (λ (p : Reply). Verifies file proof before now p.status p.text.items) × IfErr r
    (ExitsWith (Verifies file proof before now))
verified_by file proof other before between now t gives same r ok stop =
    result_by (AnswersProof t other between now) (Verifies file proof before now)
    (verifies_task file proof other before between now t gives same) r ok stop

-- bytes that are refused with an error are no task for it
pub is_no_task : (bytes : List ℕ) (e : TaskError) (names : List (List ℕ)) (text : List ℕ) → e ≢ no_task.Memory → IsRefusedWith bytes e
    → names ≡ names_of bytes → text ≡ refusal_line names e → IsNoTask bytes Refused text
is_no_task bytes e names text some first same line = record {
  error = e;
  cause = some;
  first = first;
  spells_none = λ t s. task_or_refusal bytes t e s first;
  says = record { ended = refl; printed = line ∙ ap (λ (ns : List (List ℕ)). refusal_line ns e) same };
}
