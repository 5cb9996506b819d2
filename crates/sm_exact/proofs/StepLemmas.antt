-- Each rule as an equation: what it makes of a list is what a frame makes of the answer of another.
use Rattle.sm_exact.proofs.Imports.{◌≡◌, ◌≢◌, ◌==◌, ℕ, suc, ℤ, pos, negsuc, neg_ℤ, nat_abs, Bool, true, false, if◌then◌else◌, Option, Some, None, List, [], ◌∷◌, map, refl, sym, ap, ◌∙◌, Vec, Global, remove, Decides-eqb, Linear, Decision, Done, Passed, Outside, Shallow, Item, Entered, entered, go_on, Values, least_variable, Answer, Solver, or_refuted, or_else, or_next, giving, with_value, first_equation, least_part, by_equation, eliminated_item, modular, modular_item, solved_within, by_first, by_least, by_rule, Entry, Below, Above, Step, shown, HasNoSplinter, told, answer_of, all_zero, Steps, side_bound, Equation, Bounds, Dark, Splinters}
use Rattle.std.specs.List.{filter}
use Rattle.sm_omega.specs.Equalities.{value_by}
use Rattle.sm_exact.specs.declared.entry.Entry.TheVariants as entry

-- by a number that is a test's
tested : (n : ℕ) → (n ≡ 1 → ⊥) → (n == 1) ≡ false
tested n other = by_false (n == 1) (λ is. other ((Decides-eqb n 1).0 is))
  where
    by_false : (b : Bool) → (b ≡ true → ⊥) → b ≡ false
    by_false true never = absurd (never refl)
    by_false false never = refl

-- by an equation with a coefficient 1 or -1
pub unit_step : (limit depth s : ℕ) (fs gs : List (Linear ℕ)) (c : ℕ) (e : Linear ℕ) (part : ℕ × ℤ) (r : Entry) →
    first_equation fs ≡ Some (e, gs) → least_part e.parts ≡ part → nat_abs part.1 ≡ 1 →
    entered limit (map (eliminated_item e part.0) gs) c ≡ shown r →
    by_rule limit (solved_within limit depth) s fs c ≡ told limit depth (Equation part.0 e) (answer_of limit depth s r)
unit_step limit depth s fs gs c e part r found least unit enters =
    ap (by_first limit (solved_within limit depth) s fs c) found
    ∙ ap (by_equation limit (solved_within limit depth) s fs c e gs) least
    ∙ ap (λ (b : Bool). if b then giving part.0 (value_by part.0 e) (go_on (entered limit (map (eliminated_item e part.0) gs) c)
    (or_refuted (solved_within limit depth s)))
    else giving part.0 (value_by part.0 (modular part.0 part.1 s e))
    (go_on (entered limit (map (modular_item (modular part.0 part.1 s e) part.0) fs) c) (or_refuted (solved_within limit depth (suc s)))))
    ((Decides-eqb (nat_abs part.1) 1).1 unit)
    ∙ ap (λ (x : Entered). giving part.0 (value_by part.0 e) (go_on x (or_refuted (solved_within limit depth s)))) enters

-- by one that brings a new variable
pub modular_step : (limit depth s : ℕ) (fs gs : List (Linear ℕ)) (c : ℕ) (e d : Linear ℕ) (part : ℕ × ℤ) (r : Entry) →
    first_equation fs ≡ Some (e, gs) → least_part e.parts ≡ part → nat_abs part.1 ≢ 1 → d ≡ modular part.0 part.1 s e →
    entered limit (map (modular_item d part.0) fs) c ≡ shown r →
    by_rule limit (solved_within limit depth) s fs c ≡ told limit depth (Equation part.0 d) (answer_of limit depth (suc s) r)
modular_step limit depth s fs gs c e d part r found least many is enters =
    ap (by_first limit (solved_within limit depth) s fs c) found
    ∙ ap (by_equation limit (solved_within limit depth) s fs c e gs) least
    ∙ ap (λ (b : Bool). if b then giving part.0 (value_by part.0 e) (go_on (entered limit (map (eliminated_item e part.0) gs) c)
    (or_refuted (solved_within limit depth s)))
    else giving part.0 (value_by part.0 (modular part.0 part.1 s e))
    (go_on (entered limit (map (modular_item (modular part.0 part.1 s e) part.0) fs) c) (or_refuted (solved_within limit depth (suc s)))))
    (tested (nat_abs part.1) many)
    ∙ ap (λ (x : Linear ℕ). giving part.0 (value_by part.0 x)
    (go_on (entered limit (map (modular_item x part.0) fs) c) (or_refuted (solved_within limit depth (suc s))))) (sym is)
    ∙ ap (λ (x : Entered). giving part.0 (value_by part.0 d) (go_on x (or_refuted (solved_within limit depth (suc s))))) enters

-- by no rule, where there is no variable
pub nothing_left : (limit depth s : ℕ) (fs : List (Linear ℕ)) (c : ℕ) → first_equation fs ≡ None → least_variable fs ≡ None →
    by_rule limit (solved_within limit depth) s fs c ≡ Done c (Some all_zero)
nothing_left limit depth s fs c none no_variable =
    ap (by_first limit (solved_within limit depth) s fs c) none
    ∙ ap (by_least limit (solved_within limit depth s) fs c) no_variable

-- a list that is filtered twice is filtered once
twice : {A : Type 0} (p : A → Bool) (x : A) (ys : List A) (b : Bool) → p x ≡ b → filter p ys ≡ ys →
    filter p (if b then x ∷ ys else ys) ≡ (if b then x ∷ ys else ys)
twice p x ys true is same = ap (λ (c : Bool). if c then x ∷ filter p ys else filter p ys) is ∙ ap (λ l. x ∷ l) same
twice p x ys false is same = same

pub filter_twice : {A : Type 0} (p : A → Bool) (xs : List A) → filter p (filter p xs) ≡ filter p xs
filter_twice p [] = refl
filter_twice p (x ∷ xs) = twice p x (filter p xs) (p x) refl (filter_twice p xs)

-- without splinters nothing is left to try
pub no_more : (a : Answer) (next : ℕ → Answer) → ((c : ℕ) → next c ≡ Done c None) → or_else a next ≡ a
no_more (Done c None) next none = none c
no_more (Done c (Some v)) next none = refl
no_more Passed next none = refl
no_more (Outside op y z) next none = refl
no_more Shallow next none = refl
