-- What lines name, here and with other numbers of facts.
use Rattle.sm_trim.proofs.Imports.{◌≡◌, ◌⊎◌, ◌<◌, ◌+◌, ℕ, zero, suc, Bool, true, false, ◌&&◌, ◌||◌, nat_eq, nat_lt, List, [], ◌∷◌, map, inl, inr, refl, ap, sym, ◌∙◌, subst, arith, list_any, AllByRecursion, and_parts, eq-eqb, eqb-true, lt-ltb, or_right, or_left, and_from, CertificateLine, Both, Either, Cases, Order, Refl, Sym, Trans, Subst, Cong, Same, Apart, Hit, Miss, Lin, Elim, Tight, Exact, Close, Clash, facts_named, reads_all, facts_added, terms_named, moved_line, names_fact, some_pass}

pub either_passes : (a b : Bool) → (a || b) ≡ true → (a ≡ true) ⊎ (b ≡ true)
either_passes true b e = inl refl
either_passes false b e = inr e

-- a number among k from n on that passes
pub pass_at : (k n j : ℕ) (test : ℕ → Bool) → j < k → test (n + j) ≡ true → some_pass k n test ≡ true
pass_at zero n j test less e = absurd (let none = less in omega arith)
pass_at (suc k) n zero test less e =
    or_left (test n) (some_pass k (suc n) test) (ap test (let same : n ≡ n + 0 = omega arith in same) ∙ e)
pass_at (suc k) n (suc j) test less e =
    or_right (test n) (some_pass k (suc n) test)
    (pass_at k (suc n) j test (let there : j < k = omega arith in there)
    (ap test (let same : suc n + j ≡ n + suc j = omega arith in same) ∙ e))

pub passed_at : (k n : ℕ) (test : ℕ → Bool) → some_pass k n test ≡ true → (j : ℕ) × (j < k) × (test (n + j) ≡ true)
passed_at zero n test e = absurd cc
passed_at (suc k) n test e = of (either_passes (test n) (some_pass k (suc n) test) e) (λ h. passed_at k (suc n) test h)
  where
    of : (test n ≡ true) ⊎ (some_pass k (suc n) test ≡ true) →
        (some_pass k (suc n) test ≡ true → (j : ℕ) × (j < k) × (test (suc n + j) ≡ true)) →
        (j : ℕ) × (j < suc k) × (test (n + j) ≡ true)
    of (inl h) later = (0, (let first : 0 < suc k = omega arith in first), ap test (let same : n + 0 ≡ n = omega arith in same) ∙ h)
    of (inr h) later =
        let l = later h in
        (suc l.0, (let less = l.1 in omega arith), ap test (let same : n + suc l.0 ≡ suc n + l.0 = omega arith in same) ∙ l.2)

-- where all that pass one test pass another, some do
pub some_more : (k n : ℕ) (test other : ℕ → Bool) → ((m : ℕ) → test m ≡ true → other m ≡ true) → some_pass k n test ≡ true →
    some_pass k n other ≡ true
some_more k n test other more e =
    let p = passed_at k n test e in pass_at k n p.0 other p.1 (more (n + p.0) p.2)

-- a number is equal to itself
itself : (n : ℕ) → nat_eq n n ≡ true
itself n = eq-eqb n n refl

-- what is so of each number that is named
all_named : (P : ℕ → Type 0) (ns : List ℕ) → ((n : ℕ) → list_any (nat_eq n) ns ≡ true → P n) → AllByRecursion P ns
all_named P [] all = tt
all_named P (m ∷ ns) all = (
  all m (or_left (nat_eq m m) (list_any (nat_eq m) ns) (itself m)),
  all_named P ns (λ n h. all n (or_right (nat_eq n m) (list_any (nat_eq n) ns) h)),
)

-- a number that is named is named with its other number
moved_named : (move : ℕ → ℕ) (ns : List ℕ) (n : ℕ) → list_any (nat_eq n) ns ≡ true → list_any (nat_eq (move n)) (map move ns) ≡ true
moved_named move [] n e = absurd cc
moved_named move (m ∷ ns) n e = of (either_passes (nat_eq n m) (list_any (nat_eq n) ns) e) (moved_named move ns n)
  where
    of : (nat_eq n m ≡ true) ⊎ (list_any (nat_eq n) ns ≡ true) →
        (list_any (nat_eq n) ns ≡ true → list_any (nat_eq (move n)) (map move ns) ≡ true) →
        list_any (nat_eq (move n)) (map move (m ∷ ns)) ≡ true
    of (inl h) later =
        or_left (nat_eq (move n) (move m)) (list_any (nat_eq (move n)) (map move ns)) (eq-eqb (move n) (move m) (ap move (eqb-true n m h)))
    of (inr h) later = or_right (nat_eq (move n) (move m)) (list_any (nat_eq (move n)) (map move ns)) (later h)

-- what a line with other numbers has of the line
pub record IsAlike (move : ℕ → ℕ) (line other : CertificateLine) : Type 0 where
  pub named : facts_named other ≡ map move (facts_named line)
  pub reads : reads_all other ≡ reads_all line
  pub added : facts_added other ≡ facts_added line
  pub terms : terms_named other ≡ terms_named line

alike : (move : ℕ → ℕ) (line other : CertificateLine) → facts_named other ≡ map move (facts_named line) → reads_all other ≡ reads_all line →
    facts_added other ≡ facts_added line → terms_named other ≡ terms_named line → IsAlike move line other
alike move line other a b c d = record { named = a; reads = b; added = c; terms = d }

pub moved_alike : (move : ℕ → ℕ) (line : CertificateLine) → IsAlike move line (moved_line move line)
moved_alike move (Both n) = alike move (Both n) (Both (move n)) refl refl refl refl
moved_alike move (Either n) = alike move (Either n) (Either (move n)) refl refl refl refl
moved_alike move (Cases t u) = alike move (Cases t u) (Cases t u) refl refl refl refl
moved_alike move (Order n) = alike move (Order n) (Order (move n)) refl refl refl refl
moved_alike move (Refl t) = alike move (Refl t) (Refl t) refl refl refl refl
moved_alike move (Sym n) = alike move (Sym n) (Sym (move n)) refl refl refl refl
moved_alike move (Trans m n) = alike move (Trans m n) (Trans (move m) (move n)) refl refl refl refl
moved_alike move (Subst m n) = alike move (Subst m n) (Subst (move m) (move n)) refl refl refl refl
moved_alike move (Cong t u ns) = alike move (Cong t u ns) (Cong t u (map move ns)) refl refl refl refl
moved_alike move (Same t u) = alike move (Same t u) (Same t u) refl refl refl refl
moved_alike move (Apart t u) = alike move (Apart t u) (Apart t u) refl refl refl refl
moved_alike move (Hit t n) = alike move (Hit t n) (Hit t (move n)) refl refl refl refl
moved_alike move (Miss t u n) = alike move (Miss t u n) (Miss t u (move n)) refl refl refl refl
moved_alike move (Lin n) = alike move (Lin n) (Lin (move n)) refl refl refl refl
moved_alike move (Elim m n t) = alike move (Elim m n t) (Elim (move m) (move n) t) refl refl refl refl
moved_alike move (Tight n) = alike move (Tight n) (Tight (move n)) refl refl refl refl
moved_alike move (Exact n) = alike move (Exact n) (Exact n) refl refl refl refl
moved_alike move (Close n) = alike move (Close n) (Close (move n)) refl refl refl refl
moved_alike move (Clash m n) = alike move (Clash m n) (Clash (move m) (move n)) refl refl refl refl

-- what is so of each fact that a line names is so of those in its list
pub each_named : (P : ℕ → Type 0) (at : ℕ) (line : CertificateLine) → ((n : ℕ) → names_fact at line n ≡ true → P n) →
    AllByRecursion P (facts_named line)
each_named P at line all =
    all_named P (facts_named line)
    (λ n h. all n (or_left (list_any (nat_eq n) (facts_named line)) (reads_all line && nat_lt n at) h))

-- a line that reads all facts names each of them
pub names_all : (at : ℕ) (line : CertificateLine) (n : ℕ) → reads_all line ≡ true → n < at → names_fact at line n ≡ true
names_all at line n all less =
    or_right (list_any (nat_eq n) (facts_named line)) (reads_all line && nat_lt n at)
    (and_from (reads_all line) (nat_lt n at) all (lt-ltb n at less))

-- a fact that a line names is named with its new number by the line with new numbers, where that is a fact before it
pub names_moved : (move : ℕ → ℕ) (at to : ℕ) (line : CertificateLine) (n : ℕ) → move n < to → names_fact at line n ≡ true →
    names_fact to (moved_line move line) (move n) ≡ true
names_moved move at to line n less e =
    of (either_passes (list_any (nat_eq n) (facts_named line)) (reads_all line && nat_lt n at) e)
  where
    like : IsAlike move line (moved_line move line)
    like = moved_alike move line

    of : (list_any (nat_eq n) (facts_named line) ≡ true) ⊎ ((reads_all line && nat_lt n at) ≡ true) →
        names_fact to (moved_line move line) (move n) ≡ true
    of (inl h) =
        or_left (list_any (nat_eq (move n)) (facts_named (moved_line move line))) (reads_all (moved_line move line) && nat_lt (move n) to)
        (subst (λ (ns : List ℕ). list_any (nat_eq (move n)) ns ≡ true) (sym like.named) (moved_named move (facts_named line) n h))
    of (inr h) =
        names_all to (moved_line move line) (move n) (like.reads ∙ (and_parts (reads_all line) (nat_lt n at) h).0) less
