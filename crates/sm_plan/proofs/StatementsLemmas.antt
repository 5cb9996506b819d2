-- Runs that are cut into parts.
use Rattle.sm_plan.proofs.Imports.{◌≡◌, ◌⊎◌, ℕ, zero, suc, Bool, true, false, if◌then◌else◌, Option, Some, None, inl, inr, refl, ap, sym, ◌∙◌, subst, ⊎_elim, same_Some, Condition, Code, End, append, Store, put, value_of, truth_of, and_then, turns, written, run, run-append, is_over, front, rest_after, is_loop, loop_guard, loop_body, last_guard}
use Rattle.sm_syntax.specs.claim.Syntax.{Skip, Assign, Write, If, While, Hole}

-- an end of two parts is an end of the second after one of the first
pub ends_then : (o : Option Store) (f : Store → Option Store) (t : Store) → and_then o f ≡ Some t
    → (s : Store) × (o ≡ Some s) × (f s ≡ Some t)
ends_then None f t e = absurd cc
ends_then (Some s) f t e = (s, refl, e)

-- the first statements and those after them are the whole
pub append_front : (n : ℕ) (c : Code) → append (front n c) (rest_after n c) ≡ c
append_front zero c = refl
append_front (suc n) End = refl
append_front (suc n) (Skip k) = ap (λ (r : Code). Skip r) (append_front n k)
append_front (suc n) (Assign x e k) = ap (λ (r : Code). Assign x e r) (append_front n k)
append_front (suc n) (Write a i e k) = ap (λ (r : Code). Write a i e r) (append_front n k)
append_front (suc n) (If b c d k) = ap (λ (r : Code). If b c d r) (append_front n k)
append_front (suc n) (While b c k) = ap (λ (r : Code). While b c r) (append_front n k)
append_front (suc n) (Hole h k) = ap (λ (r : Code). Hole h r) (append_front n k)

-- a run ends where its first statements and then those after them end
pub run_cut : (m n : ℕ) (c : Code) (s t : Store) → run m c s ≡ Some t
    → (u : Store) × (run m (front n c) s ≡ Some u) × (run m (rest_after n c) u ≡ Some t)
run_cut m n c s t e =
    ends_then (run m (front n c) s) (run m (rest_after n c)) t
    (sym (run-append m (front n c) (rest_after n c) s) ∙ ap (λ (r : Code). run m r s) (append_front n c) ∙ e)

-- one turn of a loop, or its end
pub one_turn : (b : Bool) (o : Option Store) (f : Store → Option Store) (s t : Store) → (if b then and_then o f else Some s) ≡ Some t →
    ((b ≡ true) × (u : Store) × (o ≡ Some u) × (f u ≡ Some t)) ⊎ ((b ≡ false) × (t ≡ s))
one_turn true o f s t e = let p = ends_then o f t e in inl (refl, p.0, p.1, p.2)
one_turn false o f s t e = inr (refl, sym (same_Some s t e))

-- a loop with no turn left has ended
pub no_turn : (b : Bool) (s t : Store) → (if b then None else Some s) ≡ Some t → (b ≡ false) × (t ≡ s)
no_turn true s t e = absurd cc
no_turn false s t e = (refl, sym (same_Some s t e))

-- a loop whose guard is false is at its end
pub still : (guard : Store → Bool) (body : Store → Option Store) (n : ℕ) (s : Store) → guard s ≡ false → turns guard body n s ≡ Some s
still guard body zero s false_here = rw false_here refl
still guard body (suc n) s false_here = rw false_here refl

-- the guard is false where a loop ends
pub guard_ends : (guard : Store → Bool) (body : Store → Option Store) (n : ℕ) (s t : Store) → turns guard body n s ≡ Some t
    → guard t ≡ false
guard_ends guard body zero s t e = let p = no_turn (guard s) s t e in ap guard p.1 ∙ p.0
guard_ends guard body (suc n) s t e =
    ⊎_elim
    (λ (p : (guard s ≡ true) × (u : Store) × (body s ≡ Some u) × (turns guard body n u ≡ Some t)). guard_ends guard body n p.1 t p.3)
    (λ (p : (guard s ≡ false) × (t ≡ s)). ap guard p.1 ∙ p.0)
    (one_turn (guard s) (body s) (turns guard body n) s t e)

-- code that begins with a loop
pub loop_is : (c : Code) → is_loop c ≡ true → c ≡ While (loop_guard c) (loop_body c) (rest_after 1 c)
loop_is End e = absurd cc
loop_is (Skip k) e = absurd cc
loop_is (Assign x v k) e = absurd cc
loop_is (Write a i v k) e = absurd cc
loop_is (If b c d k) e = absurd cc
loop_is (While b c k) e = refl
loop_is (Hole h k) e = absurd cc

-- code of which nothing is left
pub over_is : (c : Code) → is_over c ≡ true → c ≡ End
over_is End e = refl
over_is (Skip k) e = absurd cc
over_is (Assign x v k) e = absurd cc
over_is (Write a i v k) e = absurd cc
over_is (If b c d k) e = absurd cc
over_is (While b c k) e = absurd cc
over_is (Hole h k) e = absurd cc

-- the last guard of a loop and what follows it
last_of_loop : (n : ℕ) (g : Condition) (k : Code) (u t : Store) (b : Condition) (over : Bool) → is_over k ≡ over →
    truth_of g u ≡ false → run n k u ≡ Some t → (last_guard k ≡ Some b → truth_of b t ≡ false) →
    (if over then Some g else last_guard k) ≡ Some b → truth_of b t ≡ false
last_of_loop n g k u t b true over false_there end later e =
    let here : run n End u ≡ Some t = subst (λ (r : Code). run n r u ≡ Some t) (over_is k over) end in
    ap (λ (c : Condition). truth_of c t) (sym (same_Some g b e)) ∙ ap (truth_of g) (sym (same_Some u t here)) ∙ false_there
last_of_loop n g k u t b false over false_there end later e = later e

-- where code ends, the guard of its last statement is false, where that is a loop
pub last_guard_false : (n : ℕ) (c : Code) (s t : Store) (b : Condition) → last_guard c ≡ Some b → run n c s ≡ Some t → truth_of b t ≡ false
last_guard_false n End s t b e end = absurd cc
last_guard_false n (Skip k) s t b e end = last_guard_false n k s t b e end
last_guard_false n (Assign x v k) s t b e end = last_guard_false n k (put s x (value_of v s)) t b e end
last_guard_false n (Write a i v k) s t b e end = last_guard_false n k (written s a i v) t b e end
last_guard_false n (If g c d k) s t b e end =
    let p = ends_then (if truth_of g s then run n c s else run n d s) (run n k) t end in
    last_guard_false n k p.0 t b e p.2
last_guard_false n (While g c k) s t b e end =
    let p = ends_then (turns (truth_of g) (run n c) n s) (run n k) t end in
    last_of_loop n g k p.0 t b (is_over k) refl (guard_ends (truth_of g) (run n c) n s p.0 p.1) p.2
    (λ (h : last_guard k ≡ Some b). last_guard_false n k p.0 t b h p.2) e
last_guard_false n (Hole h k) s t b e end = last_guard_false n k s t b e end
