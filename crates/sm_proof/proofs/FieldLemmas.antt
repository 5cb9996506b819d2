-- The numbers of a line, field by field.
use Rattle.sm_proof.proofs.Imports.{◌≡◌, ℕ, suc, ◌<◌, ◌≤◌, ◌^◌, Bool, true, false, ◌==◌, Option, Some, None, Ok, Err, List, [], ◌∷◌, length, map, refl, sym, ap, subst, ◌∙◌, arith, Decides-eqb, decimal, Takes, filled, ProofLine, found_or, tested_or, BadLine, BadNumber, number_in}
use Rattle.std.specs.Prelude.{Result}
use Rattle.sm_proof.specs.Fields.{taking}
use Rattle.sm_proof.specs.Named.{Word}
use Rattle.sm_proof.proofs.NumberLemmas.{number_back, number_spelled}

-- a fact of each line that numbers within the fields make, and of their texts
abbrev pub OfEach : (fields : List ℕ) → Takes fields → (List (List ℕ) → ProofLine → Type 0) → Type 0
OfEach [] made P = P [] made
OfEach (most ∷ fields) made P = (n : ℕ) → n ≤ most → OfEach fields (made n) (λ words line. P (decimal n ∷ words) line)

one_back : (most : ℕ) (fields : List ℕ) (made : Takes (most ∷ fields)) (word : List ℕ) (words : List (List ℕ)) (line : ProofLine)
    (P : List (List ℕ) → ProofLine → Type 0) (o : Option ℕ) → number_in most word ≡ o
    → found_or o BadNumber (λ (n : ℕ). filled fields (made n) words) ≡ Ok line
    → OfEach (most ∷ fields) made P
    → ((n : ℕ) → filled fields (made n) words ≡ Ok line → OfEach fields (made n) (λ ws l. P (decimal n ∷ ws) l)
    → P (decimal n ∷ words) line)
    → P (word ∷ words) line
one_back most fields made word words line P None e is each more = cc
one_back most fields made word words line P (Some n) e is each more =
    let b = number_back most n word e in
    subst (λ (w : List ℕ). P (w ∷ words) line) (sym b.1) (more n is (each n b.0))

filled_back : (fields : List ℕ) (made : Takes fields) (words : List (List ℕ)) (line : ProofLine) (P : List (List ℕ) → ProofLine → Type 0)
    → length words ≡ length fields → filled fields made words ≡ Ok line → OfEach fields made P → P words line
filled_back [] made [] line P same is each = let e : made ≡ line = cc in subst (P []) e each
filled_back [] made (word ∷ words) line P same is each = absurd (omega arith)
filled_back (most ∷ fields) made [] line P same is each = cc
filled_back (most ∷ fields) made (word ∷ words) line P same is each =
    one_back most fields made word words line P (number_in most word) refl is each
    (λ n f g. filled_back fields (made n) words line (λ ws l. P (decimal n ∷ ws) l) (omega arith) f g)

-- what was read is a line of numbers within the fields, and the words are their texts
pub taking_back : (fields : List ℕ) (made : Takes fields) (words : List (List ℕ)) (line : ProofLine) (P : List (List ℕ) → ProofLine
    → Type 0)
    → taking fields made words ≡ Ok line → OfEach fields made P → P words line
unfolding taking
taking_back fields made words line P is each = by (length words == length fields) refl is
  where
    use_count : (a b : ℕ) → (a == b) ≡ true → a ≡ b
    use_count a b h = omega (arith, (Decides-eqb a b).0 h)

    by : (b : Bool) → (length words == length fields) ≡ b → tested_or b BadLine (filled fields made words) ≡ Ok line → P words line
    by true e h = filled_back fields made words line P (use_count (length words) (length fields) e) h each
    by false e h = cc

-- numbers within fields, and the line that they make
abbrev pub Fills : (fields : List ℕ) → Takes fields → List ℕ → ProofLine → Type 0
Fills [] made [] line = made ≡ line
Fills [] made (n ∷ ns) line = ⊥
Fills (most ∷ fields) made [] line = ⊥
Fills (most ∷ fields) made (n ∷ ns) line = (n ≤ most) × (n < 2 ^ 64) × Fills fields (made n) ns line

filled_spelled : (fields : List ℕ) (made : Takes fields) (ns : List ℕ) (line : ProofLine) → Fills fields made ns line
    → (length (map decimal ns) ≡ length fields) × (filled fields made (map decimal ns) ≡ Ok line)
filled_spelled [] made [] line h = (refl, ap Ok h)
filled_spelled [] made (n ∷ ns) line h = absurd h
filled_spelled (most ∷ fields) made [] line h = absurd h
filled_spelled (most ∷ fields) made (n ∷ ns) line h =
    let more = filled_spelled fields (made n) ns line h.2 in (
      ap suc more.0,
      ap (λ (o : Option ℕ). found_or o BadNumber (λ (m : ℕ). filled fields (made m) (map decimal ns))) (number_spelled most n h.0 (omega
          (arith, h.1)))
          ∙ more.1,
    )

-- the texts of such numbers are read as the line
pub taking_spelled : (fields : List ℕ) (made : Takes fields) (ns : List ℕ) (line : ProofLine) → Fills fields made ns line
    → taking fields made (map decimal ns) ≡ Ok line
unfolding taking
taking_spelled fields made ns line h =
    let both = filled_spelled fields made ns line h in
    ap (λ (b : Bool). tested_or b BadLine (filled fields made (map decimal ns))) ((Decides-eqb (length (map decimal ns))
    (length fields)).1 both.0)
    ∙ both.1

-- what words of two kinds can be refused as
abbrev pub IsRefusal : Result ProofLine Word → Type 0
IsRefusal (Ok line) = Unit {0}
IsRefusal (Err BadLine) = Unit {0}
IsRefusal (Err BadNumber) = Unit {0}
IsRefusal (Err _) = ⊥

filled_refuses : (fields : List ℕ) (made : Takes fields) (words : List (List ℕ)) → IsRefusal (filled fields made words)
filled_refuses [] made words = tt
filled_refuses (most ∷ fields) made [] = tt
filled_refuses (most ∷ fields) made (word ∷ words) = by (number_in most word) (λ n. filled_refuses fields (made n) words)
  where
    by : (o : Option ℕ) → ((n : ℕ) → IsRefusal (filled fields (made n) words))
        → IsRefusal (found_or o BadNumber (λ (n : ℕ). filled fields (made n) words))
    by None h = tt
    by (Some n) h = h n

pub taking_refuses : (fields : List ℕ) (made : Takes fields) (words : List (List ℕ)) → IsRefusal (taking fields made words)
unfolding taking
taking_refuses fields made words = by (length words == length fields)
  where
    by : (b : Bool) → IsRefusal (tested_or b BadLine (filled fields made words))
    by true = filled_refuses fields made words
    by false = tt
