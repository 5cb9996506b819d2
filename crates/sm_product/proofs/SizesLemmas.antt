-- Goals and facts of obligations, counted one by one.
use Rattle.sm_product.proofs.Imports.{Bool, false, ◌&&◌, nat_le, ◌≡◌, ℕ, zero, suc, ◌+◌, ◌<◌, ◌≤◌, List, [], ◌∷◌, ◌++◌, length, take, get_or, refl, sym, ap, ◌∙◌, arith, lt-leb, take_more, map-append, Sorts, Tree, forms_in, due_in, dues_in, Parts, task_of, Plan, size, Fault, obligations, kept_by, sketch_size, plan_of, full_choice, sketch_of, goals_in, facts_in, is_small}
use Rattle.std.proofs.Common.{Result, Ok, Err, IfOk}
use Rattle.std.specs.declared.alloc.AllocError.{AllocError}
use Rattle.sm_plan.specs.Plans as plain
use Rattle.sm_expand.specs.declared.due.Due.{Due}
use Rattle.sm_sketch.proofs.AllChosen.{forms_length}
use Rattle.sm_product.specs.Sizes.{is_within}
use Rattle.sm_product.proofs.LargeTasks.{plan_size}

module _ (sorts : Sorts) (trees : List Tree) where
  goals_append : (ds : List plain.Due) (d : plain.Due) → goals_in (ds ++ d ∷ []) ≡ goals_in ds + length d.goals
  goals_append [] d = omega arith
  goals_append (e ∷ ds) d = let rest = goals_append ds d in omega (arith, rest)

  facts_append : (ds : List plain.Due) (d : plain.Due) → facts_in (ds ++ d ∷ []) ≡ facts_in ds + length d.facts
  facts_append [] d = omega arith
  facts_append (e ∷ ds) d = let rest = facts_append ds d in omega (arith, rest)

  front : (ds : List Due) (i : ℕ) (d : Due) → i < length ds → d ≡ get_or ds i d →
      dues_in sorts trees (take (i + 1) ds) ≡ dues_in sorts trees (take i ds) ++ due_in sorts trees d ∷ []
  front ds i d h e =
      ap (dues_in sorts trees) (take_more ds i d h ∙ ap (λ (x : Due). take i ds ++ x ∷ []) (sym e))
      ∙ map-append (due_in sorts trees) (take i ds) (d ∷ [])

  pub goals_more : (ds : List Due) (i : ℕ) (d : Due) → i < length ds → d ≡ get_or ds i d →
      goals_in (dues_in sorts trees (take (i + 1) ds)) ≡ goals_in (dues_in sorts trees (take i ds)) + length d.targets.list.items
  goals_more ds i d h e =
      ap goals_in (front ds i d h e) ∙ goals_append (dues_in sorts trees (take i ds)) (due_in sorts trees d)
      ∙ ap (λ (n : ℕ). goals_in (dues_in sorts trees (take i ds)) + n) (forms_length sorts trees d.targets.list.items)

  pub facts_more : (ds : List Due) (i : ℕ) (d : Due) → i < length ds → d ≡ get_or ds i d →
      facts_in (dues_in sorts trees (take (i + 1) ds)) ≡ facts_in (dues_in sorts trees (take i ds)) + length d.facts.list.items
  facts_more ds i d h e =
      ap facts_in (front ds i d h e) ∙ facts_append (dues_in sorts trees (take i ds)) (due_in sorts trees d)
      ∙ ap (λ (n : ℕ). facts_in (dues_in sorts trees (take i ds)) + n) (forms_length sorts trees d.facts.list.items)

  -- those of a front are no more than all
  pub goals_front : (ds : List Due) (i : ℕ) → goals_in (dues_in sorts trees (take i ds)) ≤ goals_in (dues_in sorts trees ds)
  goals_front ds zero = omega arith
  goals_front [] (suc i) = omega arith
  goals_front (d ∷ ds) (suc i) = let rest = goals_front ds i in omega (arith, rest)

  pub facts_front : (ds : List Due) (i : ℕ) → facts_in (dues_in sorts trees (take i ds)) ≤ facts_in (dues_in sorts trees ds)
  facts_front ds zero = omega arith
  facts_front [] (suc i) = omega arith
  facts_front (d ∷ ds) (suc i) = let rest = facts_front ds i in omega (arith, rest)

-- what is over a limit
pub over_limit : (n limit : ℕ) → limit < n → false ≡ nat_le n limit
over_limit n limit h = sym (lt-leb n limit h)

pub within_is : (n : ℕ) (ds : List plain.Due) (b : Bool) → b ≡ (nat_le (n + goals_in ds) 200000 && nat_le (facts_in ds) 10000000) →
    b ≡ is_within n (Ok ds)
unfolding is_within
within_is n ds b e = e

-- a plan without obligations is not within the limits
pub fault_within : (n : ℕ) (r : Result (List plain.Due) Fault) (w : Fault) → r ≡ Err w → false ≡ is_within n r
unfolding is_within
fault_within n r w e = ap (is_within n) (sym e)

-- whether a task is small, by the obligations of its plan
small_is : (t : Parts) (n : ℕ) (p : Plan) (b : Bool) → p ≡ plan_of t (full_choice t) → n ≡ sketch_size (sketch_of t) →
    b ≡ is_within n (obligations (task_of t) p) → b ≡ is_small t
small_is t n p b same nodes h =
    h ∙ (λ k. is_within ((nodes ∙ sym (plan_size (kept_by (full_choice t)) 0 (sketch_of t))) k) (obligations (task_of t) (same k)))

pub small_ok : (t : Parts) (n : ℕ) (p : Plan) → p ≡ plan_of t (full_choice t) → n ≡ sketch_size (sketch_of t) →
    (r : Result Bool AllocError) → IfOk r (λ b. b ≡ is_within n (obligations (task_of t) p)) → IfOk r (λ b. b ≡ is_small t)
small_ok t n p same nodes (Err e) h = h
small_ok t n p same nodes (Ok b) h = small_is t n p b same nodes h
