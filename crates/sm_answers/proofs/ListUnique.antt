-- A told file is one list, or is refused as one in one way, without a fault.
use Rattle.sm_answers.proofs.Imports.{◌≡◌, ◌≢◌, ◌≤◌, ◌+◌, inl, inr, ℕ, suc, Bool, true, false, if◌then◌else◌, Some, None, List, [], ◌∷◌, length, codes, refl, sym, ap, ◌∙◌, arith, ◌&&◌, leb-true, is_utf8, Rose, Known, untold, lines_in, bad_line, bad_line_after, bad_list_line, is_name, is_short, names_in, GivesList, GivesNoList, IsList}
use Rattle.std.proofs.Common.{nat_le}
use Rattle.sm_answers.specs.declared.status.Status.{Status}
use Rattle.sm_answers.proofs.AnswerUnique.{Same, says_same, read_same, no_bytes_same, bytes_or_none}
use Rattle.sm_lemmas.proofs.Tests.{both_pass}
use Rattle.sm_lemmas.proofs.Options.{same_number, none_some}

-- ---- how many names

-- a name is one of the first 1,000
name_before : (n : ℕ) (line : List ℕ) → is_name n line ≡ true → n ≤ 999
name_before n line e =
    let short = both_pass (is_short n line) (is_utf8 line) e in
    let few = both_pass (nat_le n 999) (nat_le 1 (length line) && nat_le (length line) 255) short.0 in
    leb-true n 999 few.0

-- a list has at most 1,000 names
few_after : (n : ℕ) (lines : List (List ℕ)) (rest : List ℕ) → n ≤ 1000 → bad_line_after n lines rest ≡ None → n + length lines ≤ 1000
few_after n [] [] few e = omega (arith, few)
few_after n [] (b ∷ rest) few e = absurd cc
few_after n (line ∷ lines) rest few e = go (few_after (suc n) lines rest) (is_name n line) refl e
  where
    go : (suc n ≤ 1000 → bad_line_after (suc n) lines rest ≡ None → suc n + length lines ≤ 1000) → (good : Bool) → is_name n line ≡ good → (if good then bad_line_after (suc n) lines rest else Some (suc n)) ≡ None
        → n + length (line ∷ lines) ≤ 1000
    go next true is h =
        let before = name_before n line is in
        let more = next (omega (arith, before)) h in omega (arith, more)
    go next false is h = absurd cc

pub few_names : (bytes : List ℕ) (names : List (List ℕ)) → IsList bytes names → length names ≤ 1000
few_names bytes names is =
    let few = few_after 0 (lines_in bytes).ended (lines_in bytes).rest (omega arith) is.good in
    let same = ap (λ (ns : List (List ℕ)). length ns) is.named in omega (arith, few, same)

-- a bad line of a list has a number from 1 to 1,001
bad_after : (n : ℕ) (lines : List (List ℕ)) (rest : List ℕ) (m : ℕ) → n ≤ 1000 → bad_line_after n lines rest ≡ Some m
    → (1 ≤ m) × (m ≤ 1001)
bad_after n [] [] m few e = absurd cc
bad_after n [] (b ∷ rest) m few e = let is : suc n ≡ m = cc in (omega (arith, is), omega (arith, is, few))
bad_after n (line ∷ lines) rest m few e = go (bad_after (suc n) lines rest m) (is_name n line) refl e
  where
    go : (suc n ≤ 1000 → bad_line_after (suc n) lines rest ≡ Some m → (1 ≤ m) × (m ≤ 1001)) → (good : Bool) → is_name n line ≡ good → (if good then bad_line_after (suc n) lines rest else Some (suc n)) ≡ Some m
        → (1 ≤ m) × (m ≤ 1001)
    go next true is h =
        let before = name_before n line is in
        next (omega (arith, before)) h
    go next false is h = let is : suc n ≡ m = cc in (omega (arith, is), omega (arith, is, few))

pub bad_number : (bytes : List ℕ) (m : ℕ) → bad_line bytes ≡ Some m → (1 ≤ m) × (m ≤ 1001)
bad_number bytes m e = bad_after 0 (lines_in bytes).ended (lines_in bytes).rest m (omega arith) e

-- ---- one list

pub list_same : (file : Known) (b n c m : ℕ) (xs ys : List (List ℕ)) → file ≢ untold → GivesList file b n xs → GivesList file c m ys
    → xs ≡ ys
list_same file b n c m xs ys told f g =
    f.is.named ∙ ap names_in (read_same file b n c m f.bytes g.bytes told f.read g.read) ∙ sym g.is.named

pub list_or_none : (file : Known) (b n c m : ℕ) (xs : List (List ℕ)) (s : Status) (t : List ℕ) → file ≢ untold → (¬ Rose c m)
    → GivesList file b n xs → GivesNoList file c m s t → ⊥
list_or_none file b n c m xs s t told no_fault f (inl g) = bytes_or_none (codes "list") file b n c m f.bytes s t told no_fault f.read g
list_or_none file b n c m xs s t told no_fault f (inr g) =
    none_some g.refuses.number
    (sym f.is.good ∙ ap bad_line (read_same file b n c m f.bytes g.bytes told f.read g.read) ∙ g.refuses.bad)

pub no_list_same : (file : Known) (b n c m : ℕ) (s u : Status) (t v : List ℕ) → file ≢ untold → (¬ Rose b n) → (¬ Rose c m)
    → GivesNoList file b n s t → GivesNoList file c m u v → Same s t u v
no_list_same file b n c m s u t v told no_fault nor_later (inl f) (inl g) =
    no_bytes_same (codes "list") file b n c m s u t v no_fault nor_later f g
no_list_same file b n c m s u t v told no_fault nor_later (inl f) (inr g) =
    absurd (bytes_or_none (codes "list") file c m b n g.bytes s t told no_fault g.read f)
no_list_same file b n c m s u t v told no_fault nor_later (inr f) (inl g) =
    absurd (bytes_or_none (codes "list") file b n c m f.bytes u v told nor_later f.read g)
no_list_same file b n c m s u t v told no_fault nor_later (inr f) (inr g) =
    says_same refl
    (ap bad_list_line
    (same_number f.refuses.number g.refuses.number
    (sym f.refuses.bad ∙ ap bad_line (read_same file b n c m f.bytes g.bytes told f.read g.read) ∙ g.refuses.bad))) f.refuses.says
    g.refuses.says
