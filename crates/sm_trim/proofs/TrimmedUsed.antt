-- Each line of what is left is used.
use Rattle.sm_trim.proofs.Imports.{◌≡◌, ◌⊎◌, ◌<◌, ◌≤◌, ◌+◌, ℕ, suc, Bool, true, false, ◌&&◌, ◌||◌, if◌then◌else◌, IsTrue, List, [], length, inl, inr, refl, ap, sym, ◌∙◌, subst, arith, CertificateLine, facts_added, moved_line, Certificate, Next, Closed, Split, names_fact, some_pass, is_used, IsUsed, Pruned, LeftNext, LeftSplit, needs, with_line, with_split, pruned, new_number, numbered_on, closed_up, or_left, or_right, and_from}
use Rattle.sm_trim.proofs.NamesLemmas.{either_passes, pass_at, passed_at, moved_alike, names_moved}
use Rattle.sm_trim.proofs.NumbersLemmas.{numbered_length, number_before, number_there, Place, Before, There, Past, place}

-- the facts before that are needed have numbers there
abbrev pub AreThere : ℕ → ℕ → List ℕ → Pruned → Type 0
AreThere at to moved p = (n : ℕ) → n < at → needs p n ≡ true → new_number moved n < to

-- each line is used, and what is needed is named by a used line, with its new number
pub record Uses (at to : ℕ) (moved : List ℕ) (p : Pruned) : Type 0 where
  pub used : IsUsed to (closed_up moved to p)
  pub named : (n : ℕ) → n < at → needs p n ≡ true → is_used to (closed_up moved to p) (new_number moved n) ≡ true

-- wherever the facts that are needed have numbers
abbrev pub UsesAll : ℕ → Pruned → Type 0
UsesAll at p = (to : ℕ) (moved : List ℕ) → length moved ≤ at → AreThere at to moved p → Uses at to moved p

-- after a line that stays the facts that are needed have numbers
there_more : (at to k : ℕ) (moved : List ℕ) (p : Pruned) → length moved ≤ at →
    ((n : ℕ) → n < at → needs p n ≡ true → new_number moved n < to) → AreThere (at + k) (to + k) (numbered_on moved at to k) p
there_more at to k moved p short there n less need = of (place at k n)
  where
    of : Place at k n → new_number (numbered_on moved at to k) n < to + k
    of (Before h) = let same = number_before moved at to k n short h in let t = there n h need in omega arith
    of (There j h e) =
        let same : new_number (numbered_on moved at to k) n ≡ to + j =
        ap (new_number (numbered_on moved at to k)) e ∙ number_there moved at to k j short h in omega arith
    of (Past h) = absurd (let l = less in omega arith)

-- a line before what is left
next_uses : (at : ℕ) (line : CertificateLine) (p : Pruned) → UsesAll (at + facts_added line) p → UsesAll at (with_line at line p)
next_uses at line p later = of (some_pass (facts_added line) at (needs p)) refl
  where
    of : (b : Bool) → some_pass (facts_added line) at (needs p) ≡ b → UsesAll at (if b then LeftNext at line p else p)
    of false h to moved short there =
        let k = facts_added line in
        let u = later to moved (let more : length moved ≤ at + k = omega arith in more) there_all in
        record {
          used = u.used;
          named = λ (n : ℕ) (less : n < at) (need : needs p n ≡ true).
              u.named n (let more : n < at + facts_added line = omega arith in more) need;
        }
      where
        there_all : AreThere (at + facts_added line) to moved p
        there_all n less need = by_place (place at (facts_added line) n)
          where
            by_place : Place at (facts_added line) n → new_number moved n < to
            by_place (Before g) = there n g need
            by_place (There j g e) =
                absurd (let wrong : true ≡ false =
                sym (pass_at (facts_added line) at j (needs p) g (ap (needs p) (sym e) ∙ need)) ∙ h in cc)
            by_place (Past g) = absurd (let l = less in omega arith)
    of true h to moved short there = record {
      used =
          subst (λ (i : ℕ). IsTrue (some_pass i to (is_used (to + i) rest)) × IsUsed (to + i) rest) (sym same_added)
          (some_used, u.used);
      named = λ (n : ℕ) (less : n < at) (need : (names_fact at line n || needs p n) ≡ true).
          subst (λ (i : ℕ).
          ((some_pass i to (is_used (to + i) rest) && names_fact to new (new_number moved n)) || is_used (to + i) rest (new_number moved n))
          ≡ true) (sym same_added) (named_there n less (there n less need) (either_passes (names_fact at line n) (needs p n) need));
    }
      where
        k : ℕ
        k = facts_added line

        after : List ℕ
        after = numbered_on moved at to k

        rest : Certificate
        rest = closed_up after (to + k) p

        new : CertificateLine
        new = moved_line (new_number moved) line

        same_added : facts_added new ≡ k
        same_added = (moved_alike (new_number moved) line).added

        u : Uses (at + k) (to + k) after p
        u = later (to + k) after (let l = numbered_length moved at to k short in omega arith)
            (there_more at to k moved p short (λ (n : ℕ) (less : n < at) (need : needs p n ≡ true).
            there n less (or_right (names_fact at line n) (needs p n) need)))

        some_used : some_pass k to (is_used (to + k) rest) ≡ true
        some_used =
            let one = passed_at k at (needs p) h in
            let here : at + one.0 < at + k = let less = one.1 in omega arith in
            pass_at k to one.0 (is_used (to + k) rest) one.1
            (ap (is_used (to + k) rest) (sym (number_there moved at to k one.0 short one.1)) ∙ u.named (at + one.0) here one.2)

        named_there : (n : ℕ) → n < at → new_number moved n < to → (names_fact at line n ≡ true) ⊎ (needs p n ≡ true) →
            ((some_pass k to (is_used (to + k) rest) && names_fact to new (new_number moved n)) || is_used (to + k) rest
            (new_number moved n))
            ≡ true
        named_there n less small (inl g) =
            or_left (some_pass k to (is_used (to + k) rest) && names_fact to new (new_number moved n))
            (is_used (to + k) rest (new_number moved n))
            (and_from (some_pass k to (is_used (to + k) rest)) (names_fact to new (new_number moved n)) some_used
            (names_moved (new_number moved) at to line n small g))
        named_there n less small (inr g) =
            or_right (some_pass k to (is_used (to + k) rest) && names_fact to new (new_number moved n))
            (is_used (to + k) rest (new_number moved n))
            (ap (is_used (to + k) rest) (sym (number_before moved at to k n short less))
            ∙ u.named n (let more : n < at + k = omega arith in more) g)

-- a part in the place of its split
part_uses : (at : ℕ) (p : Pruned) → UsesAll (suc at) p → needs p at ≡ false → UsesAll at p
part_uses at p part h to moved short there =
    let u = part to moved (let more : length moved ≤ suc at = omega arith in more) there_all in
    record {
      used = u.used;
      named = λ (n : ℕ) (less : n < at) (need : needs p n ≡ true). u.named n (let more : n < suc at = omega arith in more) need;
    }
  where
    there_all : AreThere (suc at) to moved p
    there_all n less need = by_place (place at 1 n)
      where
        by_place : Place at 1 n → new_number moved n < to
        by_place (Before g) = there n g need
        by_place (There j g e) =
            absurd (let here : n ≡ at = omega arith in let wrong : true ≡ false = sym need ∙ ap (needs p) here ∙ h in cc)
        by_place (Past g) = absurd (let l = less in omega arith)

-- a split, or a part in its place
split_uses : (at : ℕ) (line : CertificateLine) (p q : Pruned) → UsesAll (suc at) p → UsesAll (suc at) q →
    UsesAll at (with_split at line p q)
split_uses at line p q first second = of (needs p at) (needs q at) refl refl
  where
    of : (a b : Bool) → needs p at ≡ a → needs q at ≡ b → UsesAll at (if a then (if b then LeftSplit at line p q else q) else p)
    of false b h g to moved short there = part_uses at p first h to moved short there
    of true false h g to moved short there = part_uses at q second g to moved short there
    of true true h g to moved short there = record {
      used = (one_used, two_used, one.used, two.used);
      named = λ (n : ℕ) (less : n < at) (need : (names_fact at line n || (needs p n || needs q n)) ≡ true).
          named_there n less (there n less need) (either_passes (names_fact at line n) (needs p n || needs q n) need);
    }
      where
        after : List ℕ
        after = numbered_on moved at to 1

        lengths : length after ≤ suc at
        lengths = let l = numbered_length moved at to 1 short in omega arith

        c : Certificate
        c = closed_up after (suc to) p

        d : Certificate
        d = closed_up after (suc to) q

        new : CertificateLine
        new = moved_line (new_number moved) line

        there_one : (r : Pruned) → ((n : ℕ) → needs r n ≡ true → (names_fact at line n || (needs p n || needs q n)) ≡ true) →
            AreThere (suc at) (suc to) after r
        there_one r more n less need =
            let t = there_more at to 1 moved r short (λ (m : ℕ) (small : m < at) (g : needs r m ≡ true). there m small (more m g)) n
            (let small : n < at + 1 = omega arith in small) need in omega arith

        one : Uses (suc at) (suc to) after p
        one = first (suc to) after lengths (there_one p (λ (n : ℕ) (g : needs p n ≡ true).
            or_right (names_fact at line n) (needs p n || needs q n) (or_left (needs p n) (needs q n) g)))

        two : Uses (suc at) (suc to) after q
        two = second (suc to) after lengths (there_one q (λ (n : ℕ) (g : needs q n ≡ true).
            or_right (names_fact at line n) (needs p n || needs q n) (or_right (needs p n) (needs q n) g)))

        here : new_number after at ≡ to
        here =
            let no : at ≡ at + 0 = omega arith in
            ap (new_number after) no ∙ number_there moved at to 1 0 short (let one : 0 < 1 = omega arith in one)
            ∙ (let none : to + 0 ≡ to = omega arith in none)

        one_used : is_used (suc to) c to ≡ true
        one_used = ap (is_used (suc to) c) (sym here) ∙ one.named at (let less : at < suc at = omega arith in less) h

        two_used : is_used (suc to) d to ≡ true
        two_used = ap (is_used (suc to) d) (sym here) ∙ two.named at (let less : at < suc at = omega arith in less) g

        named_there : (n : ℕ) → n < at → new_number moved n < to →
            (names_fact at line n ≡ true) ⊎ ((needs p n || needs q n) ≡ true) →
            (((is_used (suc to) c to && is_used (suc to) d to) && names_fact to new (new_number moved n))
            || (is_used (suc to) c (new_number moved n) || is_used (suc to) d (new_number moved n))) ≡ true
        named_there n less small (inl g) =
            or_left ((is_used (suc to) c to && is_used (suc to) d to) && names_fact to new (new_number moved n))
            (is_used (suc to) c (new_number moved n) || is_used (suc to) d (new_number moved n))
            (and_from (is_used (suc to) c to && is_used (suc to) d to) (names_fact to new (new_number moved n))
            (and_from (is_used (suc to) c to) (is_used (suc to) d to) one_used two_used)
            (names_moved (new_number moved) at to line n small g))
        named_there n less small (inr g) =
            or_right ((is_used (suc to) c to && is_used (suc to) d to) && names_fact to new (new_number moved n))
            (is_used (suc to) c (new_number moved n) || is_used (suc to) d (new_number moved n))
            (of_parts (either_passes (needs p n) (needs q n) g))
          where
            more : n < suc at
            more = omega arith

            kept : new_number after n ≡ new_number moved n
            kept = number_before moved at to 1 n short less

            of_parts : (needs p n ≡ true) ⊎ (needs q n ≡ true) →
                (is_used (suc to) c (new_number moved n) || is_used (suc to) d (new_number moved n)) ≡ true
            of_parts (inl u) =
                or_left (is_used (suc to) c (new_number moved n)) (is_used (suc to) d (new_number moved n))
                (ap (is_used (suc to) c) (sym kept) ∙ one.named n more u)
            of_parts (inr u) =
                or_right (is_used (suc to) c (new_number moved n)) (is_used (suc to) d (new_number moved n))
                (ap (is_used (suc to) d) (sym kept) ∙ two.named n more u)

-- what is left of each certificate
uses_all : (at : ℕ) (c : Certificate) → UsesAll at (pruned at c)
uses_all at (Next line c) = next_uses at line (pruned (at + facts_added line) c) (uses_all (at + facts_added line) c)
uses_all at (Closed line) = λ to moved short there. record {
  used = tt;
  named = λ (n : ℕ) (less : n < at) (need : names_fact at line n ≡ true).
      names_moved (new_number moved) at to line n (there n less need) need;
}
uses_all at (Split line c d) = split_uses at line (pruned (suc at) c) (pruned (suc at) d) (uses_all (suc at) c) (uses_all (suc at) d)

-- each line of a trimmed certificate is used
pub trimmed_is_used : (at : ℕ) (c : Certificate) → IsUsed at (closed_up [] at (pruned at c))
trimmed_is_used at c =
    (uses_all at c at [] (let none : 0 ≤ at = omega arith in none) (λ (n : ℕ) (less : n < at) (need : needs (pruned at c) n ≡ true).
    less)).used
