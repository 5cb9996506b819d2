-- What a closure answers to tasks by their numbers is answered to them in their order.
use Rattle.sm_batch.proofs.Imports.{◌≡◌, ◌<◌, ℕ, zero-add, Option, Some, None, Result, Ok, Err, IfOk, List, [], ◌∷◌, map, length, All, Bor, slice_get, slice_index_or, get_or, refl, sym, subst, ◌∙◌, Vec, Global, arith, AllZip, option_map, length-map, All-head, All-tail, All-cons, All-nil, Task, Answered, MayAnswer}
use Rattle.std.specs.Fn.{Shared}
use Rattle.std.specs.declared.alloc.AllocError.{AllocError}
use Rattle.std.proofs.lemmas.Fn.{says_at}
use Rattle.std.proofs.lemmas.Option.{slice_get-map, slice_get_within, get_or_from_slice_get}
use Rattle.sm_par.specs.Results.{StandInOrder}
use Rattle.sm_batch.proofs.TellLemmas.{zip_of_places}

-- what holds of each image holds of what it's the image of
pub all_unmap : {A B : Type 0} (f : A → B) (P : B → Type 0) (xs : List A) → All P (map f xs) → All (λ a. P (f a)) xs
all_unmap f P [] all = All-nil (λ a. P (f a))
all_unmap f P (x ∷ xs) all =
    All-cons (λ a. P (f a)) x xs (All-head P (f x) (map f xs) all) (all_unmap f P xs (All-tail P (f x) (map f xs) all))

module _ {F : Type 0} (calls : Shared F (Bor Task × Unit {0}) (Result Answered AllocError)) (answer : F) where
  -- what a call gave is what the closure may answer
  pub answered : (task : Bor Task) (r : Result Answered AllocError) → calls.post answer (task, tt) r → IfOk r (MayAnswer calls answer task.now)
  answered task (Ok a) given = says_at calls given refl
  answered task (Err e) given = tt

  -- to the task at a place
  pub answered_there : (tasks : List (Bor Task)) (i : ℕ) (x : Bor Task) (r : Result Answered AllocError)
      → IfOk r (MayAnswer calls answer (get_or tasks i x).now)
      → IfOk r (λ a. (t : Bor Task) → slice_get tasks i ≡ Some t → MayAnswer calls answer t.now a)
  answered_there tasks i x (Ok a) given = λ t found.
      subst (λ (b : Bor Task). MayAnswer calls answer b.now a) (get_or_from_slice_get tasks i t x found) given
  answered_there tasks i x (Err e) given = tt

-- the task behind a reference
abbrev pub task_at : Bor Task → Task
task_at b = b.now

-- results that stand for the places of tasks are answers to these
pub all_answered : (P : ℕ → Answered → Type 0) (May : Task → Answered → Type 0) (tasks : List (Bor Task)) (count : ℕ)
    (r : Result (Vec Answered Global) AllocError) → count ≡ length tasks
    → ((i : ℕ) (a : Answered) → i < count → P i a → (t : Bor Task) → slice_get tasks i ≡ Some t → May t.now a)
    → IfOk r (λ (v : Vec Answered Global). StandInOrder P 0 count v.items)
    → IfOk r (λ (v : Vec Answered Global). AllZip May (map task_at tasks) v.items)
all_answered P May tasks count (Err e) long moves stand = tt
all_answered P May tasks count (Ok v) long moves stand =
    zip_of_places May (map task_at tasks) v.items (stand.all ∙ long ∙ sym (length-map tasks task_at)) each
  where
    at : (k : ℕ) (t : Task) (d : Answered) (o : Option (Bor Task)) → slice_get tasks k ≡ o
        → option_map task_at o ≡ Some t → May t (slice_index_or v.items k d)
    at k t d None found is = cc
    at k t d (Some b) found is =
        let same : b.now ≡ t = cc in
        let within : k < length tasks = slice_get_within tasks k b found in
        let below : k < count = omega arith in
        subst (λ (u : Task). May u (slice_index_or v.items k d)) same
        (moves k (slice_index_or v.items k d) below
        (subst (λ (j : ℕ). P j (slice_index_or v.items k d)) (zero-add k) (stand.each k d below)) b found)

    each : (k : ℕ) (t : Task) (d : Answered) → slice_get (map task_at tasks) k ≡ Some t → May t (slice_index_or v.items k d)
    each k t d found = at k t d (slice_get tasks k) refl (sym (slice_get-map task_at tasks k) ∙ found)
