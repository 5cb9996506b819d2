-- Marks that two become, and those of all shares together.
use Rattle.sm_houdini.proofs.Imports.{◌≡◌, ℕ, zero, suc, ◌+◌, ◌%◌, ◌==◌, ◌<◌, ◌≤◌, Bool, true, false, ◌&&◌, ◌||◌, List, [], ◌∷◌, ◌++◌, length, take, get_or, mod-lt, refl, sym, ap, ◌∙◌, arith, length-take-le, map-append, take_more, nat_tests, Vec, Global, Choice, marked, all_marked, in_share, is_there, rows, Marked, or_left, or_true}
use Rattle.std.proofs.Common.{slice_get}
use Rattle.sm_houdini.proofs.ClosingLemmas.{marked_length, rows_length}
use Rattle.sm_houdini.proofs.MarkedLemmas.{all_marked_more, mark_put, all_same}

-- the marks at places
get_marked : (p : ℕ → Bool) (i : ℕ) (ns : List ℕ) (k : ℕ) (d : Marked) (e : ℕ) → k < length ns →
    get_or (marked p i ns) k d ≡ record { number = get_or ns k e; holds = p (i + k) }
get_marked p i [] k d e h = absurd (let no : k < 0 = h in omega arith)
get_marked p i (n ∷ ns) zero d e h =
    let same : i ≡ i + 0 = omega arith in ap (λ (j : ℕ). record { number = n; holds = p j }) same
get_marked p i (n ∷ ns) (suc k) d e h =
    let less : k < length ns = omega (arith, h) in
    let same : suc i + k ≡ i + suc k = omega arith in
    get_marked p (suc i) ns k d e less ∙ ap (λ (j : ℕ). record { number = get_or ns k e; holds = p j }) same

there_marked : (p : ℕ → Bool) (i : ℕ) (ns : List ℕ) (k : ℕ) → k < length ns →
    is_there (slice_get (marked p i ns) k) ≡ p (i + k)
there_marked p i [] k h = absurd (let no : k < 0 = h in omega arith)
there_marked p i (n ∷ ns) zero h = let same : i ≡ i + 0 = omega arith in ap p same
there_marked p i (n ∷ ns) (suc k) h =
    let less : k < length ns = omega (arith, h) in
    let same : suc i + k ≡ i + suc k = omega arith in there_marked p (suc i) ns k less ∙ ap p same

pub length_marked : (p : ℕ → Bool) (i : ℕ) (ns : List ℕ) → length (marked p i ns) ≡ length ns
length_marked p i [] = refl
length_marked p i (n ∷ ns) = ap suc (length_marked p (suc i) ns)

-- one more mark that two become
pub joined_put : (f : Bool → Bool → Bool) (p q : ℕ → Bool) (ns : List ℕ) (marks others : List Marked) → marks ≡ marked p 0 ns →
    others ≡ marked q 0 ns → (new old : List Marked) (i : ℕ) (d : Marked) (b : Bool) →
    new ≡ old ++ record { number = (get_or marks i d).number; holds = b } ∷ [] →
    b ≡ f (get_or marks i d).holds (is_there (slice_get others i)) → i < length marks →
    old ≡ marked (λ (j : ℕ). f (p j) (q j)) 0 (take i ns) → new ≡ marked (λ (j : ℕ). f (p j) (q j)) 0 (take (i + 1) ns)
joined_put f p q ns marks others mine theirs new old i d b is told h before =
    let count : length marks ≡ length ns = ap (λ (ms : List Marked). length ms) mine ∙ length_marked p 0 ns in
    let inside : i < length ns = omega (arith, h, count) in
    let zero_is : 0 + i ≡ i = omega arith in
    let mark = ap (λ (ms : List Marked). get_or ms i d) mine ∙ get_marked p 0 ns i d 0 inside in
    let other = ap (λ (ms : List Marked). is_there (slice_get ms i)) theirs ∙ there_marked q 0 ns i inside ∙ ap q zero_is in
    mark_put (λ (j : ℕ). f (p j) (q j)) new old ns i 0 b
    (is ∙ ap (λ (m : Marked). old ++ record { number = m.number; holds = b } ∷ []) mark)
    (told ∙ (λ k. f (mark k).holds (other k)) ∙ ap (λ (j : ℕ). f (p j) (q i)) zero_is) inside before

-- the marks of a site
site_of : (p : ℕ → ℕ → Bool) (s : ℕ) (c : Choice) (k : ℕ) → k < length c →
    get_or (all_marked p s c) k [] ≡ marked (p (s + k)) 0 (get_or c k [])
site_of p s [] k h = absurd (let no : k < 0 = h in omega arith)
site_of p s (ns ∷ c) zero h = let same : s ≡ s + 0 = omega arith in ap (λ (r : ℕ). marked (p r) 0 ns) same
site_of p s (ns ∷ c) (suc k) h =
    let less : k < length c = omega (arith, h) in
    let same : suc s + k ≡ s + suc k = omega arith in
    site_of p (suc s) c k less ∙ ap (λ (r : ℕ). marked (p r) 0 (get_or c k [])) same

pub sites_count : (p : ℕ → ℕ → Bool) (c : Choice) (vs : List (Vec Marked Global)) → rows vs ≡ all_marked p 0 c → length vs ≡ length c
sites_count p c vs e = sym (rows_length vs) ∙ ap (λ (l : List (List Marked)). length l) e ∙ marked_length p 0 c

-- the marks of a site among those of all, by its place
pub site_is : (p : ℕ → ℕ → Bool) (c : Choice) (vs : List (Vec Marked Global)) (k : ℕ) → k < length c → rows vs ≡ all_marked p 0 c →
    get_or (rows vs) k [] ≡ marked (p k) 0 (get_or c k [])
site_is p c vs k h e =
    let zero_is : 0 + k ≡ k = omega arith in
    ap (λ (l : List (List Marked)). get_or l k []) e ∙ site_of p 0 c k h ∙ ap (λ (r : ℕ). marked (p r) 0 (get_or c k [])) zero_is

-- one more site
pub joined_site : (both : ℕ → ℕ → Bool) (c : Choice) (new old : List (Vec Marked Global)) (v : Vec Marked Global) (k : ℕ) →
    new ≡ old ++ v ∷ [] → v.items ≡ marked (both k) 0 (get_or c k []) → k < length c → rows old ≡ all_marked both 0 (take k c) →
    rows new ≡ all_marked both 0 (take (k + 1) c)
joined_site both c new old v k is made h before =
    let least : k ≤ length c = omega (arith, h) in
    let long = length-take-le k c least in
    let place : k ≡ 0 + length (take k c) = omega (arith, long) in
    ap rows is ∙ map-append (λ (w : Vec Marked Global). w.items) old (v ∷ [])
    ∙ (λ j. before j ++ (made ∙ ap (λ (r : ℕ). marked (both r) 0 (get_or c k [])) place) j ∷ [])
    ∙ sym (all_marked_more both 0 (take k c) (get_or c k []))
    ∙ ap (all_marked both 0) (sym (take_more c k [] h))

-- whether a place is in one of the first shares
abbrev pub among : ℕ → ℕ → ℕ → Bool
among shares zero i = false
among shares (suc k) i = among shares k i || in_share shares k i

among_more : (shares k i : ℕ) → i % shares < suc k → (i % shares < k → among shares k i ≡ true) → (b : Bool) →
    (i % shares == k) ≡ b → (among shares k i || (i % shares == k)) ≡ true
among_more shares k i h before true e = ap (λ (b : Bool). among shares k i || b) e ∙ or_true (among shares k i)
among_more shares k i h before false e =
    let less : i % shares < k = grind (arith, nat_tests, h, e) in or_left (among shares k i) (i % shares == k) (before less)

among_all : (shares k i : ℕ) → i % shares < k → among shares k i ≡ true
among_all shares zero i h = absurd (let no : i % shares < 0 = h in omega arith)
among_all shares (suc k) i h = among_more shares k i h (among_all shares k i) (i % shares == k) refl

-- no place is in the share behind the last
none_behind : (shares i : ℕ) → 0 < shares → (i % shares == shares) ≡ false
none_behind shares i some = let less = mod-lt i some in grind (arith, nat_tests, less)

either_and : (a c b : Bool) → ((a && b) || (c && b)) ≡ ((a || c) && b)
either_and true true true = refl
either_and true true false = refl
either_and true false true = refl
either_and true false false = refl
either_and false true true = refl
either_and false true false = refl
either_and false false true = refl
either_and false false false = refl

-- the marks of the first shares: of none, of one more, and of all
pub no_share : (shares : ℕ) (passes : ℕ → ℕ → Bool) (c : Choice) → 0 < shares →
    all_marked (λ (s : ℕ). in_share shares shares) 0 c ≡ all_marked (λ (s i : ℕ). among shares 0 i && passes s i) 0 c
no_share shares passes c some =
    all_same (λ (s : ℕ). in_share shares shares) (λ (s i : ℕ). among shares 0 i && passes s i) 0 c
    (λ (s i : ℕ) (l : 0 ≤ s). none_behind shares i some)

pub one_share : (shares k : ℕ) (passes : ℕ → ℕ → Bool) (c : Choice) →
    all_marked (λ (s i : ℕ). (among shares k i && passes s i) || (in_share shares k i && passes s i)) 0 c
    ≡ all_marked (λ (s i : ℕ). among shares (suc k) i && passes s i) 0 c
one_share shares k passes c =
    all_same _ _ 0 c (λ (s i : ℕ) (l : 0 ≤ s). either_and (among shares k i) (in_share shares k i) (passes s i))

pub every_share : (shares : ℕ) (passes : ℕ → ℕ → Bool) (c : Choice) → 0 < shares →
    all_marked (λ (s i : ℕ). among shares shares i && passes s i) 0 c ≡ all_marked passes 0 c
every_share shares passes c some =
    all_same (λ (s i : ℕ). among shares shares i && passes s i) passes 0 c
    (λ (s i : ℕ) (l : 0 ≤ s). ap (λ (b : Bool). b && passes s i) (among_all shares shares i (mod-lt i some)))

pub one_of_one : (passes : ℕ → ℕ → Bool) (c : Choice) →
    all_marked (λ (s i : ℕ). in_share 1 0 i && passes s i) 0 c ≡ all_marked passes 0 c
one_of_one passes c =
    all_same (λ (s i : ℕ). in_share 1 0 i && passes s i) passes 0 c
    (λ (s i : ℕ) (l : 0 ≤ s). ap (λ (b : Bool). b && passes s i) (among_all 1 1 i (mod-lt i (let some : 0 < 1 = omega arith in some))))
