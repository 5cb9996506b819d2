-- What a worker's answers to tasks are, and what a closure answers. Public clauses cite it.
-- A worker is three meanings here: its replies, which tasks it accepts, and which certificates it
-- takes for a task.
use Rattle.std.specs.Prelude.{◌≡◌, ◌↔◌, ℕ, Bool, true, List, Result, Ok, IfSome, IsSome}
use Rattle.std.specs.Borrow.{Bor}
use Rattle.std.specs.Fn.{Shared, FnReturnsAt}
use Rattle.std.specs.declared.alloc.AllocError.{AllocError}
use Rattle.sm_syntax.specs.text.Parts.{Parts}
use Rattle.sm_text.specs.Tasks.{parts_of}
use Rattle.sm_text.specs.declared.task.Task.{Task}
use Rattle.sm_text.specs.printing.Named.{HasText}
use Rattle.sm_batch.specs.declared.worker.Answered.{Answered}

-- a closure may give this answer to a task
abbrev pub MayAnswer : {F : Type 0} → Shared F (Bor Task × Unit {0}) (Result Answered AllocError) →
    F → Task → Answered → Type 0
MayAnswer calls answer t a = FnReturnsAt calls answer t (Ok a)

module _ (Replies : Parts → List ℕ → Type 0) (Accepts : Parts → Type 0)
    (takes : Parts → List ℕ → Bool) where
  -- a worker's answer to a task: its reply and, exactly where this is the accepting one, a
  -- certificate, which it takes
  pub record IsAnswer (t : Task) (a : Answered) : Type 0 where
    pub reply : Replies (parts_of t) a.reply.items
    pub accepts : IsSome a.cert ↔ Accepts (parts_of t)
    pub taken : IfSome a.cert (λ c. takes (parts_of t) c.items ≡ true)

  -- what may be answered to a task that some text spells is the worker's answer
  abbrev pub AnswersForWorker : (Task → Answered → Type 0) → Type 0
  AnswersForWorker May = (t : Task) (a : Answered) → HasText (parts_of t) → May t a → IsAnswer t a
