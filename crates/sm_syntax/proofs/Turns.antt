-- A greater bound on turns changes no end.
use Rattle.sm_syntax.proofs.Imports.{◌≡◌, ◌≤◌, ℕ, zero, suc, Bool, true, false, Option, Some, None, if◌then◌else◌, refl, ap, ◌∙◌, arith, Code, End, Skip, Assign, Write, If, While, Hole, Store, put, value_of, truth_of, and_then, turns, written, run}

-- each end of x is one of y
pub record Grows (x y : Option Store) : Type 0 where
  pub kept : (t : Store) → x ≡ Some t → y ≡ Some t

-- what goes on from the same end, with the same ends after it
pub and_then-Grows : (x y : Option Store) (f g : Store → Option Store) → Grows x y → ((s : Store) → Grows (f s) (g s)) → Grows (and_then x f) (and_then y g)
and_then-Grows None y f g now later = record { kept = λ (t : Store) (e : None ≡ Some t). cc }
and_then-Grows (Some s) y f g now later = record {
  kept = λ (t : Store) (e : f s ≡ Some t). ap (λ (o : Option Store). and_then o g) (now.kept s refl) ∙ (later s).kept t e;
}

-- a choice between the same ends
pub if-Grows : (b : Bool) (x y z w : Option Store) → Grows x y → Grows z w → Grows (if b then x else z) (if b then y else w)
if-Grows true x y z w first second = first
if-Grows false x y z w first second = second

-- no end grows into any
pub none_grows : (y : Option Store) → Grows None y
none_grows y = record { kept = λ (t : Store) (e : None ≡ Some t). cc }

-- what is there stays
pub same_grows : (x : Option Store) → Grows x x
same_grows x = record { kept = λ (t : Store) (e : x ≡ Some t). e }

-- a loop whose body has the same ends
pub turns-Grows : (guard : Store → Bool) (body wider : Store → Option Store) → ((s : Store) → Grows (body s) (wider s)) →
    (m n : ℕ) → m ≤ n → (s : Store) → Grows (turns guard body m s) (turns guard wider n s)
turns-Grows guard body wider inner zero zero bound s =
    if-Grows (guard s) None None (Some s) (Some s) (none_grows None) (same_grows (Some s))
turns-Grows guard body wider inner zero (suc n) bound s =
    if-Grows (guard s) None (and_then (wider s) (turns guard wider n)) (Some s) (Some s) (none_grows _) (same_grows (Some s))
turns-Grows guard body wider inner (suc m) zero bound s = absurd (omega arith)
turns-Grows guard body wider inner (suc m) (suc n) bound s =
    if-Grows (guard s) (and_then (body s) (turns guard body m)) (and_then (wider s) (turns guard wider n)) (Some s) (Some s)
    (and_then-Grows (body s) (wider s) (turns guard body m) (turns guard wider n) (inner s) (turns-Grows guard body wider inner m n (omega arith)))
    (same_grows (Some s))

-- code under a greater bound
pub run-Grows : (m n : ℕ) → m ≤ n → (c : Code) (s : Store) → Grows (run m c s) (run n c s)
run-Grows m n bound End s = same_grows (Some s)
run-Grows m n bound (Skip k) s = run-Grows m n bound k s
run-Grows m n bound (Assign x e k) s = run-Grows m n bound k (put s x (value_of e s))
run-Grows m n bound (Write a i e k) s = run-Grows m n bound k (written s a i e)
run-Grows m n bound (If b c d k) s =
    and_then-Grows (if truth_of b s then run m c s else run m d s) (if truth_of b s then run n c s else run n d s) (run m k) (run n k)
    (if-Grows (truth_of b s) (run m c s) (run n c s) (run m d s) (run n d s) (run-Grows m n bound c s) (run-Grows m n bound d s))
    (run-Grows m n bound k)
run-Grows m n bound (While b c k) s =
    and_then-Grows (turns (truth_of b) (run m c) m s) (turns (truth_of b) (run n c) n s) (run m k) (run n k)
    (turns-Grows (truth_of b) (run m c) (run n c) (run-Grows m n bound c) m n bound s)
    (run-Grows m n bound k)
run-Grows m n bound (Hole h k) s = run-Grows m n bound k s

-- a run that ends within m turns of each loop ends in the same store within more
pub more_turns : (m n : ℕ) (c : Code) (s t : Store) → m ≤ n → run m c s ≡ Some t → run n c s ≡ Some t
more_turns m n c s t bound end = (run-Grows m n bound c s).kept t end
