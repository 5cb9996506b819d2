-- The proof passes, so the task is free of conflicts.
use Rattle.sm_commands.proofs.Imports.{Option, IfSome, inr, subst, parts_of, is_spelled}
use Rattle.sm_goals.specs.Whole.{IsWhole}
use Rattle.sm_goals.specs.declared.proof.Proof.{Proof}
use Rattle.sm_proof.proofs.PassSound.{pass_free}
use Rattle.sm_commands.proofs.deeper.proved_beyond.Goals as goal

pub search_deeper-requires-clause-sorted : goal.search_deeper-requires-clause-sorted
search_deeper-requires-clause-sorted g c κs within = (is_spelled (parts_of c.args.task.now) c.requires.spelled).sorted

pub search_deeper-requires-clause-numbered : goal.search_deeper-requires-clause-numbered
search_deeper-requires-clause-numbered g c κs within = (is_spelled (parts_of c.args.task.now) c.requires.spelled).numbered

pub proof_text-requires-clause-sorted : goal.proof_text-requires-clause-sorted
proof_text-requires-clause-sorted g c = (is_spelled (parts_of c.args.task.now) c.requires.spelled).sorted

pub proof_text-requires-clause-numbered : goal.proof_text-requires-clause-numbered
proof_text-requires-clause-numbered g c = (is_spelled (parts_of c.args.task.now) c.requires.spelled).numbered

pub proof_text-requires-clause-proof : goal.proof_text-requires-clause-proof
proof_text-requires-clause-proof g c =
    subst (λ (o : Option Proof). IfSome o (IsWhole (parts_of c.args.task.now))) c.in-Some.is c.in_ok-proof.ensures

pub accepted-requires : goal.accepted-requires
accepted-requires g c = (is_spelled (parts_of c.args.task.now) c.requires.spelled).runs

pub returns-in_ok-reply-in-Some-clause-answers : goal.returns-in_ok-reply-in-Some-clause-answers
returns-in_ok-reply-in-Some-clause-answers g c =
    let t = parts_of c.args.task.now in
    inr (record {
      asked = c.requires.asked;
      line = c.args.undecided.now.text.items;
      undecided = c.requires.undecided;
      free = pass_free t c.in_ok-text-in-Some.text.items (is_spelled t c.requires.spelled).sorted c.in_ok-text-in-Some.ensures.passes;
      says = c.in_ok-reply-in-Some.ensures;
    })
