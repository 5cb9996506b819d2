-- What nodes ask where some are left out, and marks after all jobs.
use Rattle.sm_houdini.proofs.Imports.{◌≡◌, ℕ, zero, suc, ◌+◌, ◌==◌, ◌<◌, ◌≤◌, Bool, true, false, not, ◌&&◌, ◌||◌, nat_lt, List, [], ◌∷◌, length, refl, sym, ap, ◌∙◌, arith, nat_tests, Assertion, holds_but, number_at, is_left_out, all_below, is_site, closes_if, holds_at}
use Rattle.std.proofs.Common.{Option, Some, None, slice_get}
use Rattle.sm_plan.specs.Plans as plain

abbrev Closes : Type 0
Closes = List Assertion → Assertion → Bool

abbrev Owner : Type 0
Owner = plain.Due → Option ℕ

pub and_grouped : (a b c : Bool) → ((a && b) && c) ≡ (a && (b && c))
and_grouped true b c = refl
and_grouped false b c = refl

pub with_true : (a : Bool) → a ≡ (a && true)
with_true true = refl
with_true false = refl

-- where nothing is left out, each obligation is meant
pub none_out : (closes : Closes) (owner : Owner) (n : ℕ) (ds : List plain.Due) (s i : ℕ) →
    holds_but (λ (k : ℕ). false) closes owner n ds s i ≡ holds_at closes owner ds s i
none_out closes owner n [] s i = refl
none_out closes owner n (d ∷ ds) s i =
    λ j. (not (is_site (owner d) s) || closes_if (closes d.facts) (slice_get d.goals i)) && none_out closes owner (suc n) ds s i j

-- where all is left out, nothing is meant
all_out : (closes : Closes) (owner : Owner) (n : ℕ) (ds : List plain.Due) (s i : ℕ) →
    holds_but (λ (k : ℕ). true) closes owner n ds s i ≡ true
all_out closes owner n [] s i = refl
all_out closes owner n (d ∷ ds) s i = all_out closes owner (suc n) ds s i

-- only the places of nodes count
pub out_same : (f g : ℕ → Bool) (closes : Closes) (owner : Owner) (n : ℕ) (ds : List plain.Due) (s i : ℕ) →
    ((k : ℕ) → k < n + length ds → f k ≡ g k) → holds_but f closes owner n ds s i ≡ holds_but g closes owner n ds s i
out_same f g closes owner n [] s i h = refl
out_same f g closes owner n (d ∷ ds) s i h =
    let here : n < n + length (d ∷ ds) = omega arith in
    let rest = out_same f g closes owner (suc n) ds s i
    (λ (k : ℕ) (l : k < suc n + length ds). let m : k < n + length (d ∷ ds) = omega (arith, l) in h k m) in
    λ j. (h n here j || (not (is_site (owner d) s) || closes_if (closes d.facts) (slice_get d.goals i))) && rest j

two_at : (a b x r q : Bool) → (((a || x) && r) && ((b || x) && q)) ≡ (((a && b) || x) && (r && q))
two_at true true x r q = refl
two_at true false x true q = refl
two_at true false true false q = refl
two_at true false false false q = refl
two_at false true true r q = refl
two_at false true false r q = refl
two_at false false true r q = refl
two_at false false false r q = refl

-- what is meant by one or another
pub both_out : (f g : ℕ → Bool) (closes : Closes) (owner : Owner) (n : ℕ) (ds : List plain.Due) (s i : ℕ) →
    (holds_but f closes owner n ds s i && holds_but g closes owner n ds s i)
    ≡ holds_but (λ (k : ℕ). f k && g k) closes owner n ds s i
both_out f g closes owner n [] s i = refl
both_out f g closes owner n (d ∷ ds) s i =
    two_at (f n) (g n) (not (is_site (owner d) s) || closes_if (closes d.facts) (slice_get d.goals i))
    (holds_but f closes owner (suc n) ds s i) (holds_but g closes owner (suc n) ds s i)
    ∙ (λ j. ((f n && g n) || (not (is_site (owner d) s) || closes_if (closes d.facts) (slice_get d.goals i)))
    && both_out f g closes owner (suc n) ds s i j)

-- what is meant by one of several
several_out : (out : ℕ → ℕ → Bool) (closes : Closes) (owner : Owner) (ds : List plain.Due) (s i m : ℕ) →
    all_below (λ (job : ℕ). holds_but (out job) closes owner 0 ds s i) m
    ≡ holds_but (λ (k : ℕ). all_below (λ (job : ℕ). out job k) m) closes owner 0 ds s i
several_out out closes owner ds s i zero = sym (all_out closes owner 0 ds s i)
several_out out closes owner ds s i (suc m) =
    (λ j. several_out out closes owner ds s i m j && holds_but (out m) closes owner 0 ds s i)
    ∙ both_out (λ (k : ℕ). all_below (λ (job : ℕ). out job k) m) (out m) closes owner 0 ds s i

one_fails_by : (g m : ℕ) → (g < m → all_below (λ (job : ℕ). not (g == job)) m ≡ false) → (b : Bool) → (g == m) ≡ b → g < suc m →
    (all_below (λ (job : ℕ). not (g == job)) m && not (g == m)) ≡ false
one_fails_by g m before true e h =
    ap (λ (b : Bool). all_below (λ (job : ℕ). not (g == job)) m && not b) e
    ∙ with_false (all_below (λ (job : ℕ). not (g == job)) m)
  where
    with_false : (b : Bool) → (b && false) ≡ false
    with_false true = refl
    with_false false = refl
one_fails_by g m before false e h =
    let less : g < m = grind (arith, nat_tests, h, e) in ap (λ (b : Bool). b && not (g == m)) (before less)

one_fails : (g m : ℕ) → g < m → all_below (λ (job : ℕ). not (g == job)) m ≡ false
one_fails g zero h = absurd (let no : g < 0 = h in omega arith)
one_fails g (suc m) h = one_fails_by g m (one_fails g m) (g == m) refl h

others_pass : (g m : ℕ) → m ≤ g → all_below (λ (job : ℕ). not (g == job)) m ≡ true
others_pass g zero h = refl
others_pass g (suc m) h =
    let less : m ≤ g = omega (arith, h) in
    let other : (g == m) ≡ false = grind (arith, nat_tests, h) in
    λ j. others_pass g m less j && not (other j)

left_by_all : (g jobs : ℕ) (b : Bool) → nat_lt g jobs ≡ b → all_below (λ (job : ℕ). not (g == job)) jobs ≡ not b
left_by_all g jobs true e = let inside : g < jobs = grind (arith, nat_tests, e) in one_fails g jobs inside
left_by_all g jobs false e = let outside : jobs ≤ g = grind (arith, nat_tests, e) in others_pass g jobs outside

-- what all jobs mean together: the nodes that are dealt
pub jobs_mean : (numbers : List ℕ) (jobs : ℕ) (closes : Closes) (owner : Owner) (ds : List plain.Due) (s i : ℕ) →
    all_below (λ (job : ℕ). holds_but (is_left_out numbers jobs (Some job)) closes owner 0 ds s i) jobs
    ≡ holds_but (λ (n : ℕ). not (is_left_out numbers jobs None n)) closes owner 0 ds s i
jobs_mean numbers jobs closes owner ds s i =
    several_out (λ (job : ℕ). is_left_out numbers jobs (Some job)) closes owner ds s i jobs
    ∙ out_same (λ (k : ℕ). all_below (λ (job : ℕ). is_left_out numbers jobs (Some job) k) jobs)
    (λ (n : ℕ). not (is_left_out numbers jobs None n)) closes owner 0 ds s i
    (λ (k : ℕ) (l : k < 0 + length ds). left_by_all (number_at numbers jobs k) jobs (nat_lt (number_at numbers jobs k) jobs) refl)

not_both : (b : Bool) → (b && not b) ≡ false
not_both true = refl
not_both false = refl

-- the nodes that are shared, and those that are dealt
pub shared_and_dealt : (dealt : ℕ → Bool) (closes : Closes) (owner : Owner) (ds : List plain.Due) (s i : ℕ) →
    (holds_but dealt closes owner 0 ds s i && holds_but (λ (n : ℕ). not (dealt n)) closes owner 0 ds s i)
    ≡ holds_at closes owner ds s i
shared_and_dealt dealt closes owner ds s i =
    both_out dealt (λ (n : ℕ). not (dealt n)) closes owner 0 ds s i
    ∙ out_same (λ (n : ℕ). dealt n && not (dealt n)) (λ (n : ℕ). false) closes owner 0 ds s i
    (λ (k : ℕ) (l : k < 0 + length ds). not_both (dealt k))
    ∙ none_out closes owner 0 ds s i

below_same : (f : ℕ → Bool) (n : ℕ) → all_below (λ (k : ℕ). true && f k) n ≡ all_below f n
below_same f zero = refl
below_same f (suc n) = λ j. below_same f n j && f n

-- where each job begins with what passes, that passes once
pub below_again : (p : Bool) (f : ℕ → Bool) (n : ℕ) → (p && all_below (λ (k : ℕ). p && f k) n) ≡ (p && all_below f n)
below_again true f n = below_same f n
below_again false f n = refl
