-- The first line of an answer tells its status, and whether the search accepts.
use Rattle.sm_replies.proofs.Imports.{◌≡◌, ◌∷◌, ◌++◌, ℕ, true, List, [], Option, Some, None, codes, option_map, refl, sym, ap, subst, ◌∙◌, Vec, Global, ◌↔◌, IsSome, signed_decimal, Task, IsOutcome, trial, Store, Parts, sort_of, goal_line, op_word, too_many_line, first_line, alone, told_status, IsTheReply, RepliesTo, IsAcceptedBy, IsAnswered, reach_of, AnswersCheck, SaysNoted, SaysOutcome, ShowsFrom, ComesWith, Effort, Status, Accepted, Unknown}
use Rattle.std.specs.Prelude.{IfSome}
use Rattle.sm_batch.specs.Answers.{IsAnswer}
use Rattle.sm_batch.specs.declared.worker.Answered.{Answered}
use Rattle.sm_text.specs.Tasks.{parts_of}
use Rattle.sm_houdini.specs.Outcomes as outcome
use Rattle.sm_houdini.specs.Outcomes.{Outcome}
use Rattle.sm_replay.specs.declared.verdict.Verdict as judged
use Rattle.sm_replay.specs.declared.verdict.Verdict.TheVariants.{Violates, Holds, Unmet}
use Rattle.sm_replies.specs.Taken.{is_pass, is_taken}
use Rattle.sm_replies.proofs.Answering.{outcome_accepted}
use Rattle.sm_replies.proofs.AnswerUnique.{check_same}
use Rattle.sm_replies.proofs.SpelledLemmas.{outcome_one}

-- ---- the status

noted_told : (t : Parts) (wanted : Status) (line : List ℕ) (s : Status) (text : List ℕ)
    → ((note : List ℕ) → told_status (first_line (line ++ note)) ≡ wanted) → SaysNoted t wanted line s text
    → told_status (first_line text) ≡ s
noted_told t wanted line s text by h =
    ap (λ (l : List ℕ). told_status (first_line l)) h.2.printed ∙ by h.0 ∙ sym h.2.ended

shown_told : (t : Parts) (j : ℕ) (store : Store) (v : judged.Verdict) (s : Status) (text : List ℕ) → ShowsFrom t j store v s text
    → told_status (first_line text) ≡ s
shown_told t j store Holds s text h = absurd h
shown_told t j store Unmet s text h = absurd h
shown_told t j store (Violates x i clause) s text h =
    ap (λ (l : List ℕ). told_status (first_line l)) h.2.printed ∙ sym h.2.ended

outcome_told : (t : Parts) (o : Outcome (ℕ × judged.Verdict)) (s : Status) (text : List ℕ) → SaysOutcome t o s text
    → told_status (first_line text) ≡ s
outcome_told t outcome.Accepted s text h = noted_told t Accepted (codes "Accepted\n") s text (λ note. refl) h.1
outcome_told t (outcome.Conflict f) s text h = shown_told t f.0 (trial (sort_of t.declared) f.0) f.1 s text h
outcome_told t (outcome.Open node goal) s text h =
    noted_told t Unknown (goal_line (codes "Open") node goal []) s text (λ note. refl) h
outcome_told t (outcome.Steps node goal) s text h =
    noted_told t Unknown (goal_line (codes "Steps") node goal []) s text (λ note. refl) h
outcome_told t (outcome.Coefficient node goal op y z) s text h =
    noted_told t Unknown (goal_line (codes "Coefficient") node goal (op_word op ∷ signed_decimal y ∷ signed_decimal z ∷ [])) s text
    (λ note. refl) h
outcome_told t outcome.TooMany s text h = noted_told t Unknown too_many_line s text (λ note. refl) h

-- the first line of what is answered to a task tells its status
pub check_told : (t : Parts) (effort : Effort) (s : Status) (text : List ℕ) → AnswersCheck t effort s text
    → told_status (first_line text) ≡ s
check_told t effort s text a = outcome_told t a.outcome s text a.says

-- a task has one reply
pub reply_one : (effort : Effort) (t : Parts) (xs ys : List ℕ) → RepliesTo effort t xs → RepliesTo effort t ys → xs ≡ ys
reply_one effort t xs ys (s, text, answers, first) (u, other, also, begins) =
    first ∙ ap first_line (check_same t effort s u text other answers also).1 ∙ sym begins

-- ---- what is accepted

-- only what the search accepts is accepted
pub accepted_by : (t : Parts) (effort : Effort) (s : Status) (text : List ℕ) → AnswersCheck t effort s text → s ≡ Accepted
    → IsAcceptedBy effort t
accepted_by t effort s text a e =
    subst (λ (o : Outcome (ℕ × judged.Verdict)). IsOutcome t (reach_of effort) effort.turns o)
    (outcome_accepted t a.outcome s text a.says e).0 a.found

-- all that the search accepts is accepted
accepted_all : (t : Parts) (effort : Effort) (s : Status) (text : List ℕ) → AnswersCheck t effort s text → IsAcceptedBy effort t
    → s ≡ Accepted
accepted_all t effort s text a accepted =
    let one : a.outcome ≡ outcome.Accepted =
    outcome_one t (reach_of effort) effort.turns a.outcome outcome.Accepted a.found accepted in
    (subst (λ (o : Outcome (ℕ × judged.Verdict)). SaysOutcome t o s text) one a.says).1.2.ended

-- the answer to a task, with its certificate
pub is_answered : (t : Parts) (effort : Effort) (s : Status) (text : List ℕ) (a : Answered) → AnswersCheck t effort s text
    → ComesWith t s (option_map (λ (v : Vec ℕ Global). v.items) a.cert) → a.reply.items ≡ first_line text → IsAnswered effort t a
is_answered t effort s text a answers comes first =
    let cert = certs a.cert comes in
    record { reply = (reply, λ other also. reply_one effort t other a.reply.items also reply); accepts = cert.0; taken = cert.1 }
  where
    reply : RepliesTo effort t a.reply.items
    reply = (s, text, answers, first)

    certs : (cert : Option (Vec ℕ Global)) → ComesWith t s (option_map (λ (v : Vec ℕ Global). v.items) cert)
        → (IsSome cert ↔ IsAcceptedBy effort t) × IfSome cert (λ c. is_taken t c.items ≡ true)
    certs None h = (((λ some. cc), (λ accepted. absurd (h (accepted_all t effort s text answers accepted)))), tt)
    certs (Some v) h = (((λ some. accepted_by t effort s text answers h.0), (λ accepted. refl)), ap is_pass h.1)

-- ---- workers

-- the number of workers changes nothing
pub alone_check : (t : Parts) (effort : Effort) (s : Status) (text : List ℕ) → AnswersCheck t (alone effort) s text
    → AnswersCheck t effort s text
alone_check t effort s text a = record { outcome = a.outcome; found = a.found; says = a.says }

-- what a closure answers is what the worker answers
pub worker_answer : (e effort : Effort) (t : Task) (a : Answered) → e ≡ effort → IsAnswered effort (parts_of t) a
    → IsAnswer (λ (u : Parts) (r : List ℕ). IsTheReply e u r) (λ (u : Parts). IsAcceptedBy e u) (λ (u : Parts) (c : List ℕ). is_taken u c) t a
worker_answer e effort t a same h = record {
  reply = subst (λ (x : Effort). IsTheReply x (parts_of t) a.reply.items) (sym same) h.reply;
  accepts = subst (λ (x : Effort). IsSome a.cert ↔ IsAcceptedBy x (parts_of t)) (sym same) h.accepts;
  taken = h.taken;
}
