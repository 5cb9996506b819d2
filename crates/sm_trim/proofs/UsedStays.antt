-- A certificate of which each line is used is left as it is.
use Rattle.sm_trim.proofs.Imports.{◌≡◌, ◌⊎◌, ◌≤◌, ◌+◌, ℕ, suc, Bool, true, false, ◌&&◌, ◌||◌, if◌then◌else◌, List, [], ◌∷◌, map, length, inl, inr, refl, ap, sym, ◌∙◌, arith, and_parts, or_left, or_right, CertificateLine, Both, Either, Cases, Order, Refl, Sym, Trans, Subst, Cong, Same, Apart, Hit, Miss, Lin, Elim, Tight, Exact, Close, Clash, facts_added, moved_line, Certificate, Next, Closed, Split, names_fact, some_pass, is_used, IsUsed, Pruned, LeftNext, LeftSplit, needs, with_line, with_split, pruned, new_number, numbered_on, closed_up}
use Rattle.sm_trim.proofs.NamesLemmas.{either_passes, some_more}
use Rattle.sm_trim.proofs.NumbersLemmas.{numbered_length, number_before, number_there, number_past, Place, Before, There, Past, place}

-- numbers that stay
same_numbers : (move : ℕ → ℕ) → ((n : ℕ) → move n ≡ n) → (ns : List ℕ) → map move ns ≡ ns
same_numbers move same [] = refl
same_numbers move same (n ∷ ns) = let a = same n in let b = same_numbers move same ns in rw (a, b) refl

-- a line whose numbers stay
pub same_line : (move : ℕ → ℕ) → ((n : ℕ) → move n ≡ n) → (line : CertificateLine) → moved_line move line ≡ line
same_line move same (Both n) = ap Both (same n)
same_line move same (Either n) = ap Either (same n)
same_line move same (Cases t u) = refl
same_line move same (Order n) = ap Order (same n)
same_line move same (Refl t) = refl
same_line move same (Sym n) = ap Sym (same n)
same_line move same (Trans m n) = ap (λ (i : ℕ). Trans i (move n)) (same m) ∙ ap (Trans m) (same n)
same_line move same (Subst m n) = ap (λ (i : ℕ). Subst i (move n)) (same m) ∙ ap (Subst m) (same n)
same_line move same (Cong t u ns) = ap (Cong t u) (same_numbers move same ns)
same_line move same (Same t u) = refl
same_line move same (Apart t u) = refl
same_line move same (Hit t n) = ap (Hit t) (same n)
same_line move same (Miss t u n) = ap (Miss t u) (same n)
same_line move same (Lin n) = ap Lin (same n)
same_line move same (Elim m n t) = ap (λ (i : ℕ). Elim i (move n) t) (same m) ∙ ap (λ (i : ℕ). Elim m i t) (same n)
same_line move same (Tight n) = ap Tight (same n)
same_line move same (Exact n) = refl
same_line move same (Close n) = ap Close (same n)
same_line move same (Clash m n) = ap (λ (i : ℕ). Clash i (move n)) (same m) ∙ ap (Clash m) (same n)

-- no fact gets another number
abbrev pub KeepsNumbers : List ℕ → Type 0
KeepsNumbers moved = (n : ℕ) → new_number moved n ≡ n

-- behind a line that stays no fact gets another number
keeps_more : (moved : List ℕ) (at k : ℕ) → length moved ≤ at → KeepsNumbers moved → KeepsNumbers (numbered_on moved at at k)
keeps_more moved at k short keeps n = of (place at k n)
  where
    of : Place at k n → new_number (numbered_on moved at at k) n ≡ n
    of (Before h) = number_before moved at at k n short h ∙ keeps n
    of (There j h e) = ap (new_number (numbered_on moved at at k)) e ∙ number_there moved at at k j short h ∙ sym e
    of (Past h) = number_past moved at at k n short h

-- what a used line names is needed, and nothing changes
pub record Stays (at : ℕ) (c : Certificate) (p : Pruned) : Type 0 where
  pub needed : (n : ℕ) → is_used at c n ≡ true → needs p n ≡ true
  pub same : (moved : List ℕ) → length moved ≤ at → KeepsNumbers moved → closed_up moved at p ≡ c

next_stays : (at : ℕ) (line : CertificateLine) (c : Certificate) (p : Pruned) → Stays (at + facts_added line) c p →
    some_pass (facts_added line) at (is_used (at + facts_added line) c) ≡ true → Stays at (Next line c) (with_line at line p)
next_stays at line c p later used = of (some_pass (facts_added line) at (needs p)) refl
  where
    k : ℕ
    k = facts_added line

    of : (b : Bool) → some_pass k at (needs p) ≡ b → Stays at (Next line c) (if b then LeftNext at line p else p)
    of false h =
        absurd (let wrong : true ≡ false = sym (some_more k at (is_used (at + k) c) (needs p) later.needed used) ∙ h in cc)
    of true h = record {
      needed = λ (n : ℕ) (e : ((some_pass k at (is_used (at + k) c) && names_fact at line n) || is_used (at + k) c n) ≡ true).
          named n (either_passes (some_pass k at (is_used (at + k) c) && names_fact at line n) (is_used (at + k) c n) e);
      same = λ (moved : List ℕ) (short : length moved ≤ at) (keeps : KeepsNumbers moved).
          let lengths : length (numbered_on moved at at k) ≤ at + k = let l = numbered_length moved at at k short in omega arith in
          ap (λ (l : CertificateLine). Next l (closed_up (numbered_on moved at at k) (at + k) p)) (same_line (new_number moved) keeps line)
          ∙ ap (Next line) (later.same (numbered_on moved at at k) lengths (keeps_more moved at k short keeps));
    }
      where
        named : (n : ℕ) → ((some_pass k at (is_used (at + k) c) && names_fact at line n) ≡ true) ⊎ (is_used (at + k) c n ≡ true) →
            (names_fact at line n || needs p n) ≡ true
        named n (inl g) =
            or_left (names_fact at line n) (needs p n) (and_parts (some_pass k at (is_used (at + k) c)) (names_fact at line n) g).1
        named n (inr g) = or_right (names_fact at line n) (needs p n) (later.needed n g)

split_stays : (at : ℕ) (line : CertificateLine) (c d : Certificate) (p q : Pruned) → Stays (suc at) c p → Stays (suc at) d q →
    is_used (suc at) c at ≡ true → is_used (suc at) d at ≡ true → Stays at (Split line c d) (with_split at line p q)
split_stays at line c d p q first second one two = of (needs p at) (needs q at) refl refl
  where
    of : (a b : Bool) → needs p at ≡ a → needs q at ≡ b →
        Stays at (Split line c d) (if a then (if b then LeftSplit at line p q else q) else p)
    of false b h g = absurd (let wrong : true ≡ false = sym (first.needed at one) ∙ h in cc)
    of true false h g = absurd (let wrong : true ≡ false = sym (second.needed at two) ∙ g in cc)
    of true true h g = record {
      needed = λ (n : ℕ) (e : (((is_used (suc at) c at && is_used (suc at) d at) && names_fact at line n)
          || (is_used (suc at) c n || is_used (suc at) d n)) ≡ true).
          named n (either_passes ((is_used (suc at) c at && is_used (suc at) d at) && names_fact at line n)
          (is_used (suc at) c n || is_used (suc at) d n) e);
      same = λ (moved : List ℕ) (short : length moved ≤ at) (keeps : KeepsNumbers moved).
          let after = numbered_on moved at at 1 in
          let lengths : length after ≤ suc at = let l = numbered_length moved at at 1 short in omega arith in
          let still = keeps_more moved at 1 short keeps in
          ap (λ (l : CertificateLine). Split l (closed_up after (suc at) p) (closed_up after (suc at) q))
          (same_line (new_number moved) keeps line)
          ∙ ap (λ (x : Certificate). Split line x (closed_up after (suc at) q)) (first.same after lengths still)
          ∙ ap (Split line c) (second.same after lengths still);
    }
      where
        named : (n : ℕ) → (((is_used (suc at) c at && is_used (suc at) d at) && names_fact at line n) ≡ true)
            ⊎ ((is_used (suc at) c n || is_used (suc at) d n) ≡ true) →
            (names_fact at line n || (needs p n || needs q n)) ≡ true
        named n (inl u) =
            or_left (names_fact at line n) (needs p n || needs q n)
            (and_parts (is_used (suc at) c at && is_used (suc at) d at) (names_fact at line n) u).1
        named n (inr u) =
            or_right (names_fact at line n) (needs p n || needs q n) (parts
            (either_passes (is_used (suc at) c n) (is_used (suc at) d n) u))
          where
            parts : (is_used (suc at) c n ≡ true) ⊎ (is_used (suc at) d n ≡ true) → (needs p n || needs q n) ≡ true
            parts (inl v) = or_left (needs p n) (needs q n) (first.needed n v)
            parts (inr v) = or_right (needs p n) (needs q n) (second.needed n v)

stays : (at : ℕ) (c : Certificate) → IsUsed at c → Stays at c (pruned at c)
stays at (Next line c) used =
    next_stays at line c (pruned (at + facts_added line) c) (stays (at + facts_added line) c used.1) used.0
stays at (Closed line) used = record {
  needed = λ (n : ℕ) (e : names_fact at line n ≡ true). e;
  same = λ (moved : List ℕ) (short : length moved ≤ at) (keeps : KeepsNumbers moved). ap Closed (same_line (new_number moved) keeps line);
}
stays at (Split line c d) used =
    split_stays at line c d (pruned (suc at) c) (pruned (suc at) d) (stays (suc at) c used.2) (stays (suc at) d used.3) used.0 used.1

-- what is used stays
pub used_stays : (at : ℕ) (c : Certificate) → IsUsed at c → closed_up [] at (pruned at c) ≡ c
used_stays at c used = (stays at c used).same [] (let none : 0 ≤ at = omega arith in none) (λ (n : ℕ). refl)
