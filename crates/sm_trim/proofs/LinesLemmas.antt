-- Lines one after another, the facts after them, and new numbers.
use Rattle.sm_trim.proofs.Imports.{◌≡◌, ◌<◌, ◌≤◌, ◌+◌, ◌-◌, ℕ, zero, suc, List, [], ◌∷◌, ◌++◌, length, get_or, take, drop, refl, ap, sym, ◌∙◌, arith, append_assoc, range_with_len, length-take, take-append-le, Tree, CertificateLine, facts_added, moved_line, line_in, CertLine, new_number, numbered_on, facts_past}
use Rattle.sm_trim.proofs.UsedStays.{same_line}

-- one number more
range_more : (a k : ℕ) → range_with_len a (suc k) ≡ range_with_len a k ++ ((a + k) ∷ [])
range_more a zero = ap (λ (n : ℕ). n ∷ []) (let none : a ≡ a + 0 = omega arith in none)
range_more a (suc k) =
    ap (λ (ns : List ℕ). a ∷ ns)
    (range_more (a + 1) k ∙ ap (λ (n : ℕ). range_with_len (a + 1) k ++ (n ∷ [])) (let same : (a + 1) + k ≡ a + suc k = omega arith in same))

-- a number is put behind those so far
pub pushed : (old now : List ℕ) (from n : ℕ) → from ≤ n → now ≡ old ++ range_with_len from (n - from) →
    now ++ (n ∷ []) ≡ old ++ range_with_len from ((n + 1) - from)
pushed old now from n less e =
    let more : (n + 1) - from ≡ suc (n - from) = omega arith in
    let here : from + (n - from) ≡ n = omega arith in
    ap (λ (ns : List ℕ). ns ++ (n ∷ [])) e ∙ append_assoc old (range_with_len from (n - from)) (n ∷ [])
    ∙ ap (λ (ns : List ℕ). old ++ ns)
    (ap (λ (m : ℕ). range_with_len from (n - from) ++ (m ∷ [])) (sym here) ∙ sym (range_more from (n - from))
    ∙ ap (range_with_len from) (sym more))

-- the elements from one on are the element and those after it
pub here_on : {X : Type 0} (xs : List X) (i : ℕ) (x : X) → i < length xs → x ≡ get_or xs i x → drop i xs ≡ x ∷ drop (i + 1) xs
here_on [] i x less e = absurd (let none = less in omega arith)
here_on (y ∷ xs) zero x less e =
    ap (λ (z : _). z ∷ xs) (sym e) ∙ ap (λ (k : ℕ). x ∷ drop k (y ∷ xs)) (let one : 1 ≡ 0 + 1 = omega arith in one)
here_on (y ∷ xs) (suc i) x less e =
    here_on xs i x (let there : i < length xs = omega arith in there) e
    ∙ ap (λ (k : ℕ). x ∷ drop k (y ∷ xs)) (let one : suc (i + 1) ≡ suc i + 1 = omega arith in one)

-- the elements up to one, and the element
pub up_to : {X : Type 0} (xs : List X) (i : ℕ) (x : X) → i < length xs → x ≡ get_or xs i x → take (i + 1) xs ≡ take i xs ++ (x ∷ [])
up_to [] i x less e = absurd (let none = less in omega arith)
up_to (y ∷ xs) zero x less e =
    ap (λ (k : ℕ). take k (y ∷ xs)) (let one : 0 + 1 ≡ 1 = omega arith in one) ∙ ap (λ (z : _). z ∷ []) (sym e)
up_to (y ∷ xs) (suc i) x less e =
    ap (λ (k : ℕ). take k (y ∷ xs)) (let one : suc i + 1 ≡ suc (i + 1) = omega arith in one)
    ∙ ap (λ (zs : _). y ∷ zs) (up_to xs i x (let there : i < length xs = omega arith in there) e)

-- the facts after lines and one more
pub past_pushed : (trees : List Tree) (at : ℕ) (ls : List CertLine) (l : CertLine) →
    facts_past trees at (ls ++ (l ∷ [])) ≡ facts_past trees at ls + facts_added (line_in trees l)
past_pushed trees at [] l = refl
past_pushed trees at (k ∷ ls) l = past_pushed trees (at + facts_added (line_in trees k)) ls l

-- a line moved by no numbers
pub copied : (line : CertificateLine) → moved_line (new_number []) line ≡ line
copied line = same_line (new_number []) (λ (n : ℕ). refl) line

-- what a list begins with stays where more is put behind
pub begins_more : (old now more : List ℕ) → take (length old) now ≡ old → take (length old) (now ++ more) ≡ old
begins_more old now more e =
    let l = length-take (length old) now in
    let m : length (take (length old) now) ≡ length old = ap length e in
    let within : length old ≤ length now = omega arith in
    take-append-le (length old) now more within ∙ e

-- also where numbers go on
pub begins_on : (old now : List ℕ) (at to k : ℕ) → take (length old) now ≡ old → take (length old) (numbered_on now at to k) ≡ old
begins_on old now at to k e =
    begins_more old (now ++ range_with_len (length now) (at - length now)) (range_with_len to k)
    (begins_more old now (range_with_len (length now) (at - length now)) e)
