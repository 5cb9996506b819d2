-- A round drops templates, and drops none exactly where as many are left.
use Rattle.sm_houdini.proofs.Imports.{◌≡◌, ℕ, suc, ◌+◌, ◌-◌, ◌<◌, ◌≤◌, ◌==◌, Bool, true, false, ◌&&◌, if◌then◌else◌, List, [], ◌∷◌, ◌++◌, length, take, refl, sym, ap, ◌∙◌, arith, Vec, Global, eq-eqb, eqb-true, map-append, Choice, rows, Parts, Assertion, owner_of, numbers_kept, sites_kept, total, same_numbers, same_choice, holds_at, dues_of, next_round, settled}
use Rattle.sm_houdini.proofs.RoundSteps.{settles_now, settles_later}
use Rattle.sm_houdini.proofs.RoundsLemmas.{same_choices}

-- one site more
total_more : (choice : Choice) (ns : List ℕ) → total (choice ++ ns ∷ []) ≡ total choice + length ns
total_more [] ns = omega arith
total_more (ms ∷ choice) ns = let more = total_more choice ns in omega (arith, more)

pub total_put : (n m k : ℕ) (xs : List (Vec ℕ Global)) (i : ℕ) (x : Vec ℕ Global) → i + 0 ≡ i → m ≡ n + k → k ≡ length x.items →
    n ≡ total (rows (take i xs)) → take (i + 1) xs ≡ take i xs ++ x ∷ [] → m ≡ total (rows (take (i + 1) xs))
total_put n m k xs i x none sum len before next =
    let more = total_more (rows (take i xs)) x.items in
    let whole : total (rows (take (i + 1) xs)) ≡ total (rows (take i xs)) + length x.items =
    ap (λ (l : List (Vec ℕ Global)). total (rows l)) next
    ∙ ap total (map-append (λ (v : Vec ℕ Global). v.items) (take i xs) (x ∷ [])) ∙ more in
    omega (arith, whole, sum, len, before)

both_left : (a b : Bool) → (a && b) ≡ true → a ≡ true
both_left true b e = refl
both_left false b e = absurd cc

both_right : (a b : Bool) → (a && b) ≡ true → b ≡ true
both_right true b e = e
both_right false b e = absurd cc

same_length : (ms ns : List ℕ) → same_numbers ms ns ≡ true → length ms ≡ length ns
same_length [] [] e = refl
same_length [] (n ∷ ns) e = absurd cc
same_length (m ∷ ms) [] e = absurd cc
same_length (m ∷ ms) (n ∷ ns) e = ap suc (same_length ms ns (both_right (m == n) (same_numbers ms ns) e))

same_total : (xs ys : Choice) → same_choice xs ys ≡ true → total xs ≡ total ys
same_total [] [] e = refl
same_total [] (y ∷ ys) e = absurd cc
same_total (x ∷ xs) [] e = absurd cc
same_total (x ∷ xs) (y ∷ ys) e =
    let first = same_length x y (both_left (same_numbers x y) (same_choice xs ys) e) in
    let rest = same_total xs ys (both_right (same_numbers x y) (same_choice xs ys) e) in
    omega (arith, first, rest)

-- numbers that are kept are no more, and the same where as many
one_less : (b : Bool) (n : ℕ) (ks ns : List ℕ) → length ks ≤ length ns → length (if b then n ∷ ks else ks) ≤ length (n ∷ ns)
one_less true n ks ns h = omega (arith, h)
one_less false n ks ns h = omega (arith, h)

kept_less : (passes : ℕ → Bool) (i : ℕ) (ns : List ℕ) → length (numbers_kept passes i ns) ≤ length ns
kept_less passes i [] = omega arith
kept_less passes i (n ∷ ns) = one_less (passes i) n (numbers_kept passes (suc i) ns) ns (kept_less passes (suc i) ns)

one_same : (b : Bool) (n : ℕ) (ks ns : List ℕ) → length ks ≤ length ns → (length ks ≡ length ns → same_numbers ks ns ≡ true) →
    length (if b then n ∷ ks else ks) ≡ length (n ∷ ns) → same_numbers (if b then n ∷ ks else ks) (n ∷ ns) ≡ true
one_same true n ks ns h go e =
    let fewer : length ks ≡ length ns = omega (arith, e) in
    ap (λ (b : Bool). b && same_numbers ks ns) (eq-eqb n n refl) ∙ go fewer
one_same false n ks ns h go e = absurd (let no : suc (length ns) ≤ length ns = omega (arith, h, e) in omega (arith, no))

kept_same : (passes : ℕ → Bool) (i : ℕ) (ns : List ℕ) → length (numbers_kept passes i ns) ≡ length ns →
    same_numbers (numbers_kept passes i ns) ns ≡ true
kept_same passes i [] e = refl
kept_same passes i (n ∷ ns) e =
    one_same (passes i) n (numbers_kept passes (suc i) ns) ns (kept_less passes (suc i) ns) (kept_same passes (suc i) ns) e

sites_less : (passes : ℕ → ℕ → Bool) (s : ℕ) (choice : Choice) → total (sites_kept passes s choice) ≤ total choice
sites_less passes s [] = omega arith
sites_less passes s (ns ∷ choice) =
    let first = kept_less (passes s) 0 ns in let rest = sites_less passes (suc s) choice in omega (arith, first, rest)

sites_same : (passes : ℕ → ℕ → Bool) (s : ℕ) (choice : Choice) → total (sites_kept passes s choice) ≡ total choice →
    same_choice (sites_kept passes s choice) choice ≡ true
sites_same passes s [] e = refl
sites_same passes s (ns ∷ choice) e =
    let less = kept_less (passes s) 0 ns in
    let fewer = sites_less passes (suc s) choice in
    let first : length (numbers_kept (passes s) 0 ns) ≡ length ns = omega (arith, less, fewer, e) in
    let rest : total (sites_kept passes (suc s) choice) ≡ total choice = omega (arith, less, fewer, e) in
    ap (λ (b : Bool). b && same_choice (sites_kept passes (suc s) choice) choice) (kept_same (passes s) 0 ns first)
    ∙ sites_same passes (suc s) choice rest

-- as many are left exactly where the choice is the same
pub as_many : (passes : ℕ → ℕ → Bool) (s : ℕ) (choice : Choice) →
    total (sites_kept passes s choice) ≡ total choice → same_choice (sites_kept passes s choice) choice ≡ true
as_many = sites_same

pub fewer_are_others : (passes : ℕ → ℕ → Bool) (s : ℕ) (choice : Choice) → (total (sites_kept passes s choice) ≡ total choice → ⊥) →
    same_choice (sites_kept passes s choice) choice ≡ false
fewer_are_others passes s choice h = by (same_choice (sites_kept passes s choice) choice) refl
  where
    by : (b : Bool) → same_choice (sites_kept passes s choice) choice ≡ b → same_choice (sites_kept passes s choice) choice ≡ false
    by true e = absurd (h (same_total (sites_kept passes s choice) choice e))
    by false e = e

pub different : {A : Type 0} → true ≡ false → A
different e = absurd cc

-- rounds that are left
module _ (closes : List Assertion → Assertion → Bool) (t : Parts) where
  pub now_settled : (rounds counter : ℕ) (choice later : Choice) → counter < rounds → later ≡ next_round closes t choice →
      (total later == total choice) ≡ true → later ≡ settled (next_round closes t) (rounds - counter) choice
  now_settled rounds counter choice later h is stay =
      let count : total later ≡ total choice = eqb-true (total later) (total choice) stay in
      let some : 0 < rounds - counter = omega (arith, h) in
      let same = as_many (holds_at closes (owner_of t) (dues_of t choice)) 0 choice (ap total (sym is) ∙ count) in
      is ∙ same_choices (next_round closes t choice) choice same
      ∙ sym (settles_now (next_round closes t) (rounds - counter) choice some same)

  pub later_settled : (rounds counter : ℕ) (choice later : Choice) → counter < rounds → later ≡ next_round closes t choice →
      (total later == total choice) ≡ false →
      settled (next_round closes t) (rounds - counter) choice ≡ settled (next_round closes t) (rounds - (counter + 1)) later
  later_settled rounds counter choice later h is fewer =
      let step : rounds - counter ≡ suc (rounds - (counter + 1)) = omega (arith, h) in
      settles_later (next_round closes t) (rounds - counter) (rounds - (counter + 1)) choice step
      (fewer_are_others (holds_at closes (owner_of t) (dues_of t choice)) 0 choice
      (λ (e : total (next_round closes t choice) ≡ total choice).
      different (sym (eq-eqb (total later) (total choice) (ap total is ∙ e)) ∙ fewer)))
      ∙ ap (settled (next_round closes t) (rounds - (counter + 1))) (sym is)

  pub all_settled : (rounds counter : ℕ) (choice : Choice) → rounds ≤ counter →
      settled (next_round closes t) (rounds - counter) choice ≡ choice
  all_settled rounds counter choice past =
      let none : rounds - counter ≡ 0 = omega (arith, past) in
      ap (λ (n : ℕ). settled (next_round closes t) n choice) none
