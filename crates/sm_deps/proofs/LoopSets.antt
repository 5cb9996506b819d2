-- The sets that the loops of code need, by the numbers of the loops.
use Rattle.sm_deps.proofs.Imports.{◌≡◌, ◌+◌, ◌<◌, ◌≤◌, ℕ, Bool, true, false, if◌then◌else◌, nat_lt, sym, ap, ◌∙◌, arith, nat_tests, Code, End, Skip, Write, If, While, Hole, needed, loops_in, HasNeeds}
use Rattle.sm_syntax.specs.claim.Syntax.{Assign}

-- a set of names
abbrev pub Test : Type 0
Test = ℕ → Bool

-- the sets that the loops of code need, by their numbers
abbrev pub sets_of : ℕ → Code → Test → ℕ → Test
sets_of n End wanted m = λ (x : ℕ). false
sets_of n (Skip k) wanted m = sets_of n k wanted m
sets_of n (Assign x e k) wanted m = sets_of n k wanted m
sets_of n (Write a i e k) wanted m = sets_of n k wanted m
sets_of n (If b c d k) wanted m =
    if nat_lt m (n + loops_in k) then sets_of n k wanted m else
    (if nat_lt m (n + (loops_in k + loops_in c)) then sets_of (n + loops_in k) c (needed k wanted) m
    else sets_of (n + (loops_in k + loops_in c)) d (needed k wanted) m)
sets_of n (While b c k) wanted m =
    if nat_lt m (n + loops_in k) then sets_of n k wanted m else
    (if nat_lt m (n + (loops_in k + 1)) then needed (While b c k) wanted
    else sets_of (n + (loops_in k + 1)) c (needed (While b c k) wanted) m)
sets_of n (Hole h k) wanted m = sets_of n k wanted m

-- the first, the second or the third by a number
is_first : (m a b : ℕ) (p q r : Test) → m < a → (if nat_lt m a then p else (if nat_lt m b then q else r)) ≡ p
is_first m a b p q r low = let e : nat_lt m a ≡ true = grind (arith, nat_tests) in
    ap (λ (t : Bool). if t then p else (if nat_lt m b then q else r)) e

is_second : (m a b : ℕ) (p q r : Test) → a ≤ m → m < b → (if nat_lt m a then p else (if nat_lt m b then q else r)) ≡ q
is_second m a b p q r high low =
    let e : nat_lt m a ≡ false = grind (arith, nat_tests) in
    let f : nat_lt m b ≡ true = grind (arith, nat_tests) in
    ap (λ (t : Bool). if t then p else (if nat_lt m b then q else r)) e ∙ ap (λ (t : Bool). if t then q else r) f

is_third : (m a b : ℕ) (p q r : Test) → a ≤ m → b ≤ m → (if nat_lt m a then p else (if nat_lt m b then q else r)) ≡ r
is_third m a b p q r high higher =
    let e : nat_lt m a ≡ false = grind (arith, nat_tests) in
    let f : nat_lt m b ≡ false = grind (arith, nat_tests) in
    ap (λ (t : Bool). if t then p else (if nat_lt m b then q else r)) e ∙ ap (λ (t : Bool). if t then q else r) f

-- sets that are the same at the numbers of the loops of code
abbrev AreSame : ℕ → Code → (ℕ → Test) → (ℕ → Test) → Type 0
AreSame n c sets others = (m : ℕ) → n ≤ m → m < n + loops_in c → sets m ≡ others m

-- what loops need is said of their own numbers alone
needs_same : (c : Code) (n : ℕ) (wanted : Test) (sets others : ℕ → Test) → AreSame n c sets others → HasNeeds n c wanted sets
    → HasNeeds n c wanted others
needs_same End n wanted sets others same h = tt
needs_same (Skip k) n wanted sets others same h = needs_same k n wanted sets others same h
needs_same (Assign x e k) n wanted sets others same h = needs_same k n wanted sets others same h
needs_same (Write a i e k) n wanted sets others same h = needs_same k n wanted sets others same h
needs_same (If b c d k) n wanted sets others same h = (
  needs_same k n wanted sets others (λ m low high. same m low (omega (arith, high))) h.0,
  needs_same c (n + loops_in k) (needed k wanted) sets others (λ m low high. same m (omega (arith, low)) (omega (arith, high))) h.1,
  needs_same d (n + (loops_in k + loops_in c)) (needed k wanted) sets others
      (λ m low high. same m (omega (arith, low)) (omega (arith, high))) h.2,
)
needs_same (While b c k) n wanted sets others same h = (
  needs_same k n wanted sets others (λ m low high. same m low (omega (arith, high))) h.0,
  sym (same (n + loops_in k) (omega arith) (omega arith)) ∙ h.1,
  needs_same c (n + (loops_in k + 1)) (needed (While b c k) wanted) sets others
      (λ m low high. same m (omega (arith, low)) (omega (arith, high))) h.2,
)
needs_same (Hole q k) n wanted sets others same h = needs_same k n wanted sets others same h

-- each loop has the set that it needs
pub sets_need : (c : Code) (n : ℕ) (wanted : Test) → HasNeeds n c wanted (sets_of n c wanted)
sets_need End n wanted = tt
sets_need (Skip k) n wanted = sets_need k n wanted
sets_need (Assign x e k) n wanted = sets_need k n wanted
sets_need (Write a i e k) n wanted = sets_need k n wanted
sets_need (If b c d k) n wanted =
    let first : ℕ → Test = sets_of n k wanted in
    let second : ℕ → Test = sets_of (n + loops_in k) c (needed k wanted) in
    let third : ℕ → Test = sets_of (n + (loops_in k + loops_in c)) d (needed k wanted) in
    let all : ℕ → Test = sets_of n (If b c d k) wanted in (
      needs_same k n wanted first all
          (λ m low high. sym (is_first m (n + loops_in k) (n + (loops_in k + loops_in c)) (first m) (second m) (third m) high))
          (sets_need k n wanted),
      needs_same c (n + loops_in k) (needed k wanted) second all
          (λ m low high. sym (is_second m (n + loops_in k) (n + (loops_in k + loops_in c)) (first m) (second m) (third m) low
          (omega (arith, high)))) (sets_need c (n + loops_in k) (needed k wanted)),
      needs_same d (n + (loops_in k + loops_in c)) (needed k wanted) third all
          (λ m low high. sym (is_third m (n + loops_in k) (n + (loops_in k + loops_in c)) (first m) (second m) (third m)
          (omega (arith, low)) low)) (sets_need d (n + (loops_in k + loops_in c)) (needed k wanted)),
    )
sets_need (While b c k) n wanted =
    let whole = needed (While b c k) wanted in
    let first : ℕ → Test = sets_of n k wanted in
    let third : ℕ → Test = sets_of (n + (loops_in k + 1)) c whole in
    let all : ℕ → Test = sets_of n (While b c k) wanted in (
      needs_same k n wanted first all
          (λ m low high. sym (is_first m (n + loops_in k) (n + (loops_in k + 1)) (first m) whole (third m) high)) (sets_need k n wanted),
      is_second (n + loops_in k) (n + loops_in k) (n + (loops_in k + 1)) (first (n + loops_in k)) whole (third (n + loops_in k))
          (omega arith) (omega arith),
      needs_same c (n + (loops_in k + 1)) whole third all
          (λ m low high. sym (is_third m (n + loops_in k) (n + (loops_in k + 1)) (first m) whole (third m) (omega (arith, low)) low))
          (sets_need c (n + (loops_in k + 1)) whole),
    )
sets_need (Hole h k) n wanted = sets_need k n wanted
