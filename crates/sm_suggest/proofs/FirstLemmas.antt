-- What a call of a decision says, and how many combinations there are.
use Rattle.sm_suggest.proofs.Imports.{◌≡◌, ℕ, ◌^◌, Bool, Result, Ok, Err, IfOk, refl, ap, subst, ◌∙◌, Parts, parts_of, Task, MayAnswer}
use Rattle.std.proofs.lemmas.Fn.{says_at}
use Rattle.std.specs.Borrow.{Bor}
use Rattle.std.specs.Fn.{Shared}
use Rattle.std.specs.declared.alloc.AllocError.{AllocError}

-- what a call gave is what the decision may answer
pub answered : {F : Type 0} (calls : Shared F (Bor Task × Unit {0}) (Result Bool AllocError)) (decide : F) (task : Bor Task)
    (r : Result Bool AllocError) → calls.post decide (task, tt) r → IfOk r (MayAnswer calls decide (parts_of task.now))
answered calls decide task (Ok b) given = record { task = task.now; is = refl; says = says_at calls given refl }
answered calls decide task (Err e) given = tt

-- the answer of a call of which only the parts of the task are known
pub answered_at : {F : Type 0} (calls : Shared F (Bor Task × Unit {0}) (Result Bool AllocError)) (decide : F) (parts : Parts)
    (task : Task) (r : Result Bool AllocError) → parts_of task ≡ parts → IfOk r (MayAnswer calls decide (parts_of task))
    → IfOk r (MayAnswer calls decide parts)
answered_at calls decide parts task r same given = subst (λ (p : Parts). IfOk r (MayAnswer calls decide p)) same given

-- a power of 3, as it was counted
pub counted : (count len holes : ℕ) → count ≡ 3 ^ len → len ≡ holes → count ≡ 3 ^ holes
counted count len holes is same = is ∙ ap (λ (n : ℕ). 3 ^ n) same
