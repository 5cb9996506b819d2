-- Certificates as lists of lines, one behind the other.
use Rattle.sm_check.proofs.Imports.{◌≡◌, ◌<◌, ◌≤◌, ◌+◌, ℕ, zero, suc, List, [], ◌∷◌, ◌++◌, length, take, drop, get_or, refl, sym, ap, ◌∙◌, subst, arith, append_assoc, length-append, drop_more, Subject, Reached, RawLines, TakenLines, ComesTo, certificates_of, ended_in}
use Rattle.sm_check.specs.Aside.{joined}
use Rattle.sm_check.proofs.AsideLemmas.{Skips, drop_whole}

-- the certificate at a place is the next
pub next_of : (cs : List RawLines) (i : ℕ) (c : RawLines) → i < length cs → c ≡ get_or cs i c →
    certificates_of (drop i cs) ≡ ended_in c.bytes.items ∷ certificates_of (drop (i + 1) cs)
next_of cs i c h is =
    ap certificates_of (drop_more cs i c h)
    ∙ ap (λ (x : RawLines). ended_in x.bytes.items ∷ certificates_of (drop (i + 1) cs)) (sym is)

pub next_number : (cs : List RawLines) (i : ℕ) (c : RawLines) (n all : ℕ) → i < length cs → c ≡ get_or cs i c →
    n + length (joined (certificates_of (drop i cs))) ≡ all →
    (n + length (ended_in c.bytes.items)) + length (joined (certificates_of (drop (i + 1) cs))) ≡ all
next_number cs i c n all h is so_far =
    let e = ap (λ (x : List (List (List ℕ))). length (joined x)) (next_of cs i c h is) in
    let f = length-append (ended_in c.bytes.items) (joined (certificates_of (drop (i + 1) cs))) in
    omega (arith, e, f, so_far)

pub all_counted : (cs : List RawLines) (i n all : ℕ) → length cs ≤ i →
    n + length (joined (certificates_of (drop i cs))) ≡ all → n ≡ all
all_counted cs i n all h so_far =
    let e = ap (λ (x : List RawLines). length (joined (certificates_of x))) (drop_whole cs i h) in omega (arith, e, so_far)

pub next_skips : (lines : TakenLines) (s : Subject) (r : Reached) (more : List (List ℕ)) (cs : List RawLines) (i : ℕ)
    (c : RawLines) → i < length cs → c ≡ get_or cs i c → Skips lines s r more (certificates_of (drop i cs)) →
    Skips lines s r more (ended_in c.bytes.items ∷ certificates_of (drop (i + 1) cs))
next_skips lines s r more cs i c h is skips = subst (Skips lines s r more) (next_of cs i c h is) skips

pub all_skipped : (lines : TakenLines) (s : Subject) (r : Reached) (more : List (List ℕ)) (cs : List RawLines) (i : ℕ) →
    length cs ≤ i → Skips lines s r more (certificates_of (drop i cs)) → ComesTo lines more s r
all_skipped lines s r more cs i h skips =
    let none : Skips lines s r more [] =
    subst (λ (x : List RawLines). Skips lines s r more (certificates_of x)) (drop_whole cs i h) skips in
    none.comes

-- the next certificate before the others
pub next_comes : (lines : TakenLines) (s : Subject) (r : Reached) (more : List (List ℕ)) (cs : List RawLines) (i : ℕ)
    (c : RawLines) → i < length cs → c ≡ get_or cs i c → ComesTo lines (joined (certificates_of (drop i cs)) ++ more) s r →
    ComesTo lines (ended_in c.bytes.items ++ (joined (certificates_of (drop (i + 1) cs)) ++ more)) s r
next_comes lines s r more cs i c h is t =
    subst (λ (x : List (List ℕ)). ComesTo lines x s r)
    (ap (λ (x : List (List (List ℕ))). joined x ++ more) (next_of cs i c h is)
    ∙ append_assoc (ended_in c.bytes.items) (joined (certificates_of (drop (i + 1) cs))) more)
    t

-- certificates cut in two
pub joined_cut : (n : ℕ) (cs : List RawLines) →
    joined (certificates_of cs) ≡ joined (certificates_of (take n cs)) ++ joined (certificates_of (drop n cs))
joined_cut zero cs = refl
joined_cut (suc n) [] = refl
joined_cut (suc n) (c ∷ cs) =
    ap (λ (x : List (List ℕ)). ended_in c.bytes.items ++ x) (joined_cut n cs)
    ∙ sym (append_assoc (ended_in c.bytes.items) (joined (certificates_of (take n cs))) (joined (certificates_of (drop n cs))))

pub take_certificates : (n : ℕ) (cs : List RawLines) → take n (certificates_of cs) ≡ certificates_of (take n cs)
take_certificates zero cs = refl
take_certificates (suc n) [] = refl
take_certificates (suc n) (c ∷ cs) =
    ap (λ (x : List (List (List ℕ))). ended_in c.bytes.items ∷ x) (take_certificates n cs)
