-- Where a contradiction is met, more atoms that could be taken out change nothing.
use Rattle.sm_solve.proofs.Imports.{◌≡◌, ℕ, zero, suc, ◌+◌, Bool, true, false, nat_lt, if◌then◌else◌, List, [], ◌∷◌, ◌++◌, length, refl, ap, ◌∙◌, subst, arith, list_any, Linear, Outcome, Fits, Leaves, is_contradictory, Walked, Closes, TooFar, eliminated_by, by_forms}
use Rattle.sm_num.specs.Eliminating.{eliminated}
use Rattle.sm_fm.specs.Elimination.{Placed, Event, Cancels, GoesBeyond, Next, is_new, with_sum, sums, pairs, forms_without, taken_out, placed_from, events}

-- a list begins with another
abbrev Begins : List Event → List Event → Type 0
Begins es fs = (rest : List Event) × (fs ≡ es ++ rest)

-- one more event before both
begins_one : (e : Event) (es fs : List Event) → Begins es fs → Begins (e ∷ es) (e ∷ fs)
begins_one e es fs begins = (begins.0, ap (λ (rest : List Event). e ∷ rest) begins.1)

-- what goes on further begins with what goes on
abbrev GoFurther : Next → Next → Type 0
GoFurther next after = (forms : List Placed) (count : ℕ) → Begins (next forms count) (after forms count)

-- after a sum
sum_begins : (t : ℕ) (f g : Placed) (o : Outcome (Linear ℕ)) (next after : Next) → GoFurther next after →
    GoFurther (with_sum t f g o next) (with_sum t f g o after)
sum_begins t f g (Leaves op y z) next after further forms count = ([], refl)
sum_begins t f g (Fits h) next after further forms count = of (is_contradictory h) (is_new h forms)
  where
    of : (b c : Bool) →
        Begins
        (if b then Cancels f.place g.place t false true ∷ []
        else if c then Cancels f.place g.place t true false ∷ next (forms ++ record { place = count; form = h } ∷ []) (suc count)
        else Cancels f.place g.place t false false ∷ next forms count)
        (if b then Cancels f.place g.place t false true ∷ []
        else if c then Cancels f.place g.place t true false ∷ after (forms ++ record { place = count; form = h } ∷ []) (suc count)
        else Cancels f.place g.place t false false ∷ after forms count)
    of true c = ([], refl)
    of false true =
        let all = forms ++ record { place = count; form = h } ∷ [] in
        begins_one (Cancels f.place g.place t true false) (next all (suc count)) (after all (suc count)) (further all (suc count))
    of false false = begins_one (Cancels f.place g.place t false false) (next forms count) (after forms count) (further forms count)

-- after sums
sums_begin : (t : ℕ) (ps : List (Placed × Placed)) (next after : Next) → GoFurther next after → GoFurther (sums t ps next) (sums t ps after)
sums_begin t [] next after further = further
sums_begin t (p ∷ ps) next after further =
    sum_begins t p.0 p.1 (eliminated p.0.form p.1.form t) (sums t ps next) (sums t ps after) (sums_begin t ps next after further)

-- what happens with more atoms begins with what happens
taken_begins : (atoms more t : ℕ) → GoFurther (taken_out atoms t) (taken_out (atoms + more) t)
taken_begins zero more t forms count = (taken_out (zero + more) t forms count, refl)
taken_begins (suc atoms) more t forms count =
    subst (λ (n : ℕ). Begins (taken_out (suc atoms) t forms count) (taken_out n t forms count))
    (let same : suc (atoms + more) ≡ suc atoms + more = omega arith in same)
    (sums_begin t (pairs t forms) (λ (left : List Placed) (n : ℕ). taken_out atoms (suc t) (forms_without t left) n)
    (λ (left : List Placed) (n : ℕ). taken_out (atoms + more) (suc t) (forms_without t left) n)
    (λ (left : List Placed) (n : ℕ). taken_begins atoms more (suc t) (forms_without t left) n) forms count)

-- whatever goes on, a walk closes
abbrev ClosesAt : ℕ → ((ℕ → Walked) → Walked) → Type 0
ClosesAt n walk = (next : ℕ → Walked) → walk next ≡ Closes n

-- it closes where more would happen behind
closed_before : (steps count n : ℕ) (es rest : List Event) → ClosesAt n (eliminated_by steps count es) →
    ClosesAt n (eliminated_by steps count (es ++ rest))
closed_before steps count n [] rest closes next = absurd (let wrong : TooFar ≡ Closes n = closes (λ (m : ℕ). TooFar) in cc)
closed_before steps count n (Cancels f g t kept contradiction ∷ es) rest closes next =
    of (nat_lt count steps) contradiction (λ all. closed_before steps (suc count) n es rest all next) closes
  where
    of : (b d : Bool) →
        (ClosesAt n (eliminated_by steps (suc count) es) → eliminated_by steps (suc count) (es ++ rest) next ≡ Closes n) →
        ((next : ℕ → Walked) →
        (if b then (if d then Closes (suc count) else eliminated_by steps (suc count) es next) else TooFar) ≡ Closes n) →
        (if b then (if d then Closes (suc count) else eliminated_by steps (suc count) (es ++ rest) next) else TooFar) ≡ Closes n
    of false d behind all = absurd (let wrong : TooFar ≡ Closes n = all next in cc)
    of true true behind all = all next
    of true false behind all = behind all
closed_before steps count n (GoesBeyond op y z ∷ es) rest closes next = closes next

-- where a contradiction is met whatever would go on, it is met with more atoms
pub more_atoms : (steps count atoms more n : ℕ) (forms : Outcome (List (Linear ℕ))) →
    ((next : ℕ → Walked) → by_forms steps count atoms forms next ≡ Closes n) →
    (next : ℕ → Walked) → by_forms steps count (atoms + more) forms next ≡ Closes n
more_atoms steps count atoms more n (Leaves op y z) closes next = closes next
more_atoms steps count atoms more n (Fits forms) closes next = of (list_any is_contradictory forms) closes
  where
    of : (b : Bool) →
        ((next : ℕ → Walked) → (if b then Closes count else eliminated_by steps count (events forms atoms) next) ≡ Closes n) →
        (if b then Closes count else eliminated_by steps count (events forms (atoms + more)) next) ≡ Closes n
    of true all = all next
    of false all =
        let begins = taken_begins atoms more 0 (placed_from 0 forms) (length forms) in
        ap (λ (es : List Event). eliminated_by steps count es next) begins.1
        ∙ closed_before steps count n (events forms atoms) begins.0 all next
