-- The cases worked by hand.
use Rattle.sm_plan.proofs.Imports.{◌≡◌, ℕ, false, pos, Option, Some, None, option_map, Ok, [], ◌∷◌, ◌++◌, length, refl, ⊎_elim, arith, Contains, ints, Number, Store, put, run, Sort, Num, Scalar, Copy, O, A, B, M, ConflictFree, program_of, Structure, start_state, Step, IsFresh, obligations}
use Rattle.sm_term.specs.Assertions.{No}
use Rattle.sm_plan.specs.Limits.{is_kept, is_shallow}
use Rattle.sm_plan.specs.Cases.{never_ends, never_plan, unequal_turns, unequal_steps, pending_after, first_nodes, NeverEndsIsFree, CasesComeOut}
use Rattle.sm_plan.proofs.PlanSound.{plan_conflict_free}

-- the one obligation
never_due : obligations never_ends never_plan ≡ Ok (record { node = 6; facts = No ∷ []; goals = No ∷ []; is_final = false } ∷ [])
unfolding is_kept is_shallow
never_due = refl

-- the plan is fresh
never_fresh : IsFresh 0 never_plan
never_fresh = (tt, ((tt, ((tt, ((tt, ((tt, ((tt, tt), tt)), ((tt, tt), tt))), tt)), tt)), tt))

-- so the task is free of conflicts
never_is_free : NeverEndsIsFree
never_is_free = (
  never_due,
  plan_conflict_free never_ends never_plan
      (record { node = 6; facts = No ∷ []; goals = No ∷ []; is_final = false } ∷ []) never_fresh never_due
      (((λ (m : Structure) h. h.0), tt), tt),
)

-- the six nodes fit
six_fit : option_map length (pending_after 0 (start_state unequal_turns ∷ []) first_nodes) ≡ Some 16
unfolding is_kept
six_fit = refl

-- the seventh doesn't
seventh_fails : pending_after 0 (start_state unequal_turns ∷ []) (first_nodes ++ Step A ∷ []) ≡ None
unfolding is_kept
seventh_fails = refl

-- all zeros
abbrev zeros : Store
zeros x = Number (pos 0)

-- y is 1
abbrev one_more : Store
one_more = put zeros 1 (Number (pos 1))

-- an end, where there is one
abbrev end_of : Option Store → Store
end_of None = zeros
end_of (Some s) = s

-- the output is there
counts : Contains {X = ℕ × Sort} ((0, Num) ∷ []) (0, Num)
counts = (0, omega arith, refl)

-- two literals
zero_one : pos 0 ≡ pos 1 → ⊥
zero_one e = omega (arith, ints)

two_one : pos 2 ≡ pos 1 → ⊥
two_one e = omega (arith, ints)

-- loops with unequal turns, from n = 0
turns_end : (c : Copy) → run 1 (program_of unequal_turns c) zeros ≡ Some (end_of (run 1 (program_of unequal_turns c) zeros))
turns_end O = refl
turns_end A = refl
turns_end B = refl
turns_end M = refl

turns_differ : ConflictFree unequal_turns → ⊥
turns_differ free =
    let k = free 1 zeros (λ (c : Copy). end_of (run 1 (program_of unequal_turns c) zeros)) tt turns_end (Scalar 0) counts in
    ⊎_elim zero_one zero_one k.change_of_a

-- loops with unequal steps, from y = 1
steps_end : (c : Copy) → run 1 (program_of unequal_steps c) one_more ≡ Some (end_of (run 1 (program_of unequal_steps c) one_more))
steps_end O = refl
steps_end A = refl
steps_end B = refl
steps_end M = refl

steps_differ : ConflictFree unequal_steps → ⊥
steps_differ free =
    let k = free 1 one_more (λ (c : Copy). end_of (run 1 (program_of unequal_steps c) one_more)) tt steps_end (Scalar 0) counts in
    ⊎_elim two_one two_one k.change_of_a

-- all three
pub come_out : CasesComeOut
come_out = (
  never_is_free,
  (six_fit, seventh_fails, λ p ds fresh e all. turns_differ (plan_conflict_free unequal_turns p ds fresh e all)),
  λ p ds fresh e all. steps_differ (plan_conflict_free unequal_steps p ds fresh e all),
)
