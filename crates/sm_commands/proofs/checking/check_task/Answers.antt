-- What is decided is the answer, or its proof couldn't be written.
use Rattle.sm_commands.proofs.Imports.{◌≡◌, ◌⊎◌, inl, ℕ, Option, Some, option_map, subst, Ok, Err, Vec, emptied, longer, Parts, parts_of, Says, Reply, Status, Accepted, WriteFault, AnswersInTime, AnswersTask, Effort}
use Rattle.std.specs.Prelude.{Result, IfOk, codes}
use Rattle.std.specs.declared.alloc.AllocError.{AllocError}
use Rattle.std.specs.declared.alloc.Global.{Global}
use Rattle.sm_answers.specs.ProofFile.{IsBegun}
use Rattle.sm_commands.proofs.FilesLemmas.{written_answers}
use Rattle.sm_replies.specs.Views.{ComesWith}
use Rattle.sm_commands.proofs.checking.check_task.Goals as goal

-- with a proof comes a task that is accepted
proved_accepted : (t : Parts) (s : Status) (o : Option (Vec ℕ Global)) (text : Vec ℕ Global) → o ≡ Some text
    → ComesWith t s (option_map (λ (v : Vec ℕ Global). v.items) o) → s ≡ Accepted
proved_accepted t s o text is comes =
    (subst (λ (x : Option (Vec ℕ Global)). ComesWith t s (option_map (λ (v : Vec ℕ Global). v.items) x)) is comes).0

-- the answer to an accepted task, once its proof was to be written
written : (t : Parts) (effort : Effort) (reply : Reply) (P Q : Type 0) (r : Result Reply AllocError)
    → AnswersInTime t effort reply.status reply.text.items → reply.status ≡ Accepted
    → IfOk r (λ (u : Reply). (Says reply.status reply.text.items u.status u.text.items × P)
    ⊎ (Says WriteFault (codes "WriteFault\n") u.status u.text.items × Q))
    → IfOk r (λ (u : Reply). AnswersTask t effort u.status u.text.items)
written t effort reply P Q (Ok u) a e h =
    written_answers t effort reply.status u.status reply.text.items u.text.items P Q a e h
written t effort reply P Q (Err error) a e h = tt

pub returns-in-None-clause-answers : goal.returns-in-None-clause-answers
returns-in-None-clause-answers g c = inl c.in_ok-decided.ensures.answers

pub returns-in-Some-clause-answers : goal.returns-in-Some-clause-answers
returns-in-Some-clause-answers g c =
    let t = parts_of c.args.read.now.task in
    let d = c.in_ok-decided.decided in
    written t c.args.effort d.reply
    (g.H.Shelf.file c.write_proof.new.shelf c.args.proof.now
    ≡ longer (emptied (g.H.Shelf.file c.args.shelf.now c.args.proof.now)) c.deref.result.now)
    (IsBegun c.deref.result.now (g.H.Shelf.file c.args.shelf.now c.args.proof.now)
    (g.H.Shelf.file c.write_proof.new.shelf c.args.proof.now))
    c.write_proof.result c.in_ok-decided.ensures.answers
    (proved_accepted t d.reply.status d.proof c.in-Some.text c.in-Some.is c.in_ok-decided.ensures.proof) c.write_proof.ensures.answers
