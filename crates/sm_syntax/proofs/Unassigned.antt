-- What code doesn't assign stays.
use Rattle.sm_syntax.proofs.Imports.{◌≡◌, ℕ, zero, suc, Bool, true, false, ◌||◌, Option, Some, None, ◌==◌, if◌then◌else◌, refl, ap, ◌∙◌, Code, End, Skip, Assign, Write, If, While, Hole, Value, Array, number, array, Store, put, with_element, value_of, truth_of, and_then, turns, written, run}
use Rattle.sm_syntax.specs.Assigns.{assigns}

-- each end has this value of x
record Has (x : ℕ) (v : Value) (o : Option Store) : Type 0 where
  kept : (t : Store) → o ≡ Some t → t x ≡ v

-- neither of two is true
first_false : (b c : Bool) → (b || c) ≡ false → b ≡ false
first_false false c neither = refl
first_false true c neither = cc

-- the second one
second_false : (b c : Bool) → (b || c) ≡ false → c ≡ false
second_false false c neither = neither
second_false true c neither = cc

-- a store has its own value
there : (x : ℕ) (v : Value) (s : Store) → s x ≡ v → Has x v (Some s)
there x v s h = record { kept = λ (t : Store) (e : Some s ≡ Some t). let same : t ≡ s = cc in ap (λ (r : Store). r x) same ∙ h }

-- there is no end
nowhere : (x : ℕ) (v : Value) → Has x v None
nowhere x v = record { kept = λ (t : Store) (e : None ≡ Some t). cc }

-- an end, and what goes on from it
and_then-Has : (x : ℕ) (v : Value) (o : Option Store) (f : Store → Option Store) → Has x v o → ((s : Store) → s x ≡ v → Has x v (f s)) → Has x v (and_then o f)
and_then-Has x v None f now later = nowhere x v
and_then-Has x v (Some s) f now later = later s (now.kept s refl)

-- a choice
if-Has : (x : ℕ) (v : Value) (b : Bool) (o p : Option Store) → Has x v o → Has x v p → Has x v (if b then o else p)
if-Has x v true o p first second = first
if-Has x v false o p first second = second

-- a new value of another name
put-other : (s : Store) (y : ℕ) (w : Value) (x : ℕ) → x == y ≡ false → put s y w x ≡ s x
put-other s y w x other = ap (λ (b : Bool). if b then w else s x) other

-- a loop whose body keeps the value
turns-Has : (x : ℕ) (v : Value) (guard : Store → Bool) (body : Store → Option Store) → ((s : Store) → s x ≡ v → Has x v (body s)) →
    (n : ℕ) (s : Store) → s x ≡ v → Has x v (turns guard body n s)
turns-Has x v guard body inner zero s h = if-Has x v (guard s) None (Some s) (nowhere x v) (there x v s h)
turns-Has x v guard body inner (suc n) s h =
    if-Has x v (guard s) (and_then (body s) (turns guard body n)) (Some s)
    (and_then-Has x v (body s) (turns guard body n) (inner s h) (turns-Has x v guard body inner n))
    (there x v s h)

-- code that doesn't assign x
run-Has : (n : ℕ) (c : Code) (x : ℕ) (v : Value) (s : Store) → assigns c x ≡ false → s x ≡ v → Has x v (run n c s)
run-Has n End x v s not h = there x v s h
run-Has n (Skip k) x v s not h = run-Has n k x v s not h
run-Has n (Assign y e k) x v s not h =
    run-Has n k x v (put s y (value_of e s)) (second_false (x == y) (assigns k x) not)
    (put-other s y (value_of e s) x (first_false (x == y) (assigns k x) not) ∙ h)
run-Has n (Write a i e k) x v s not h =
    let w = Array (with_element (array (s a)) (number (value_of i s)) (number (value_of e s))) in
    run-Has n k x v (written s a i e) (second_false (x == a) (assigns k x) not)
    (put-other s a w x (first_false (x == a) (assigns k x) not) ∙ h)
run-Has n (If b c d k) x v s not h =
    let branches : (assigns c x || assigns d x) ≡ false = first_false (assigns c x || assigns d x) (assigns k x) not in
    and_then-Has x v (if truth_of b s then run n c s else run n d s) (run n k)
    (if-Has x v (truth_of b s) (run n c s) (run n d s)
    (run-Has n c x v s (first_false (assigns c x) (assigns d x) branches) h)
    (run-Has n d x v s (second_false (assigns c x) (assigns d x) branches) h))
    (λ (t : Store) (g : t x ≡ v). run-Has n k x v t (second_false (assigns c x || assigns d x) (assigns k x) not) g)
run-Has n (While b c k) x v s not h =
    and_then-Has x v (turns (truth_of b) (run n c) n s) (run n k)
    (turns-Has x v (truth_of b) (run n c)
    (λ (t : Store) (g : t x ≡ v). run-Has n c x v t (first_false (assigns c x) (assigns k x) not) g) n s h)
    (λ (t : Store) (g : t x ≡ v). run-Has n k x v t (second_false (assigns c x) (assigns k x) not) g)
run-Has n (Hole h' k) x v s not h = run-Has n k x v s not h

-- a run leaves the value of each name that the code doesn't assign
pub unassigned : (n : ℕ) (c : Code) (x : ℕ) (s t : Store) → assigns c x ≡ false → run n c s ≡ Some t → t x ≡ s x
unassigned n c x s t not end = (run-Has n c x (s x) s not refl).kept t end
