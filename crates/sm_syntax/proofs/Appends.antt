-- One code after another: how it runs, and how its holes are filled.
use Rattle.sm_syntax.proofs.Imports.{◌≡◌, ℕ, Option, Some, None, if◌then◌else◌, refl, sym, ap, ◌∙◌, Code, End, Skip, Assign, Write, If, While, Hole, append, Store, put, value_of, truth_of, and_then, turns, written, run}
use Rattle.sm_syntax.specs.claim.Fill.{Fillings, filling, fill}

-- three codes one after the other, in either grouping
pub append_assoc : (a b c : Code) → append (append a b) c ≡ append a (append b c)
append_assoc End b c = refl
append_assoc (Skip k) b c = ap (λ (r : Code). Skip r) (append_assoc k b c)
append_assoc (Assign x e k) b c = ap (λ (r : Code). Assign x e r) (append_assoc k b c)
append_assoc (Write a i e k) b c = ap (λ (r : Code). Write a i e r) (append_assoc k b c)
append_assoc (If q y n k) b c = ap (λ (r : Code). If q y n r) (append_assoc k b c)
append_assoc (While q y k) b c = ap (λ (r : Code). While q y r) (append_assoc k b c)
append_assoc (Hole h k) b c = ap (λ (r : Code). Hole h r) (append_assoc k b c)

-- no code after code
pub append-End : (c : Code) → append c End ≡ c
append-End End = refl
append-End (Skip k) = ap (λ (r : Code). Skip r) (append-End k)
append-End (Assign x e k) = ap (λ (r : Code). Assign x e r) (append-End k)
append-End (Write a i e k) = ap (λ (r : Code). Write a i e r) (append-End k)
append-End (If q y n k) = ap (λ (r : Code). If q y n r) (append-End k)
append-End (While q y k) = ap (λ (r : Code). While q y r) (append-End k)
append-End (Hole h k) = ap (λ (r : Code). Hole h r) (append-End k)

-- what goes on by f and then by g
pub and_then_later : (x : Option Store) (f g h : Store → Option Store) → ((s : Store) → h s ≡ and_then (f s) g) → and_then x h ≡ and_then (and_then x f) g
and_then_later None f g h later = refl
and_then_later (Some s) f g h later = later s

-- one code after another runs from the end of the first
pub run-append : (n : ℕ) (c r : Code) (s : Store) → run n (append c r) s ≡ and_then (run n c s) (run n r)
run-append n End r s = refl
run-append n (Skip k) r s = run-append n k r s
run-append n (Assign x e k) r s = run-append n k r (put s x (value_of e s))
run-append n (Write a i e k) r s = run-append n k r (written s a i e)
run-append n (If b c d k) r s =
    and_then_later (if truth_of b s then run n c s else run n d s) (run n k) (run n r) (run n (append k r)) (run-append n k r)
run-append n (While b c k) r s =
    and_then_later (turns (truth_of b) (run n c) n s) (run n k) (run n r) (run n (append k r)) (run-append n k r)
run-append n (Hole h k) r s = run-append n k r s

-- the holes of one code after another
pub fill-append : (fs : Fillings) (c r : Code) → fill fs (append c r) ≡ append (fill fs c) (fill fs r)
fill-append fs End r = refl
fill-append fs (Skip k) r = ap (λ (m : Code). Skip m) (fill-append fs k r)
fill-append fs (Assign x e k) r = ap (λ (m : Code). Assign x e m) (fill-append fs k r)
fill-append fs (Write a i e k) r = ap (λ (m : Code). Write a i e m) (fill-append fs k r)
fill-append fs (If b c d k) r = ap (λ (m : Code). If b (fill fs c) (fill fs d) m) (fill-append fs k r)
fill-append fs (While b c k) r = ap (λ (m : Code). While b (fill fs c) m) (fill-append fs k r)
fill-append fs (Hole h k) r =
    ap (λ (m : Code). append (filling fs h) m) (fill-append fs k r) ∙ sym (append_assoc (filling fs h) (fill fs k) (fill fs r))

-- how one code after another runs
pub ruleset appended_runs = (run-append)
