-- The worker of the tests. The reply to a task is its canonical text, and where it is eager it
-- accepts the tasks of an empty program, with any certificate. No public clause cites it.
use Rattle.std.specs.Prelude.{◌≡◌, Bool, true, false, ◌&&◌, Some}
use Rattle.std.proofs.Common.{refl, sym, ap, subst, inl}
use Rattle.sm_syntax.specs.claim.ConflictFree.{Copy, O, A, B, M, ConflictFree}
use Rattle.sm_syntax.specs.claim.Fill.{fill}
use Rattle.sm_syntax.specs.claim.Keeps.{content}
use Rattle.sm_syntax.specs.claim.Meaning.{run}
use Rattle.sm_syntax.specs.claim.Syntax.{Code, End, Skip, Assign, Write, If, While, Hole}
use Rattle.sm_syntax.specs.text.Parts.{Parts, task_of}
use Rattle.sm_text.specs.declared.task.Task.{Task}
use Rattle.sm_batch.specs.Answers.{IsAnswer}
use Rattle.sm_batch.specs.Keys.{key_of}
use Rattle.sm_batch.specs.declared.worker.Answered.{Answered}

-- whether code is empty
abbrev pub is_end : Code → Bool
is_end End = true
is_end (Skip k) = false
is_end (Assign x e k) = false
is_end (Write a i e k) = false
is_end (If b c d k) = false
is_end (While b c k) = false
is_end (Hole h k) = false

-- code that is empty is the end
pub end_is : (c : Code) → is_end c ≡ true → c ≡ End
end_is End empty = refl
end_is (Skip k) empty = cc
end_is (Assign x e k) empty = cc
end_is (Write a i e k) empty = cc
end_is (If b c d k) empty = cc
end_is (While b c k) empty = cc
end_is (Hole h k) empty = cc

-- whether an eager worker, or one that isn't, accepts a task
abbrev pub echoes : Bool → Parts → Bool
echoes eager t = eager && is_end t.shared

-- an answer to a task is that of an echo
abbrev pub IsEcho : Bool → Task → Answered → Type 0
IsEcho eager =
    IsAnswer (λ t reply. reply ≡ key_of t) (λ t. echoes eager t ≡ true) (λ t cert. echoes eager t)

-- a task of an empty program is free of conflicts: all four copies end where they start
empty_is_free : (t : Parts) → is_end t.shared ≡ true → ConflictFree (task_of t)
empty_is_free t empty n s end meets runs cell at = record {
  change_of_a = inl (ap (λ e. content e cell) (sym (same A)));
  change_of_b = inl (ap (λ e. content e cell) (sym (same B)));
  no_other = λ p q. ap (λ e. content e cell) (same M);
}
  where
    at_end : (c : Copy) → run n End s ≡ Some (end c)
    at_end c =
        subst (λ (code : Code). run n (fill (t.fillings c) code) s ≡ Some (end c)) (end_is t.shared empty)
        (runs c)

    same : (c : Copy) → end c ≡ end O
    same c = let one = at_end c in let other = at_end O in cc

-- each task that the worker of the tests accepts is free of conflicts
pub echoed_is_free : (eager : Bool) (t : Parts) → echoes eager t ≡ true → ConflictFree (task_of t)
echoed_is_free true t empty = empty_is_free t empty
echoed_is_free false t never = cc
