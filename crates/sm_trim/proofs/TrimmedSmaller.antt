-- What is left of a certificate has no more lines and terms, and no greater numbers of facts.
use Rattle.sm_trim.proofs.Imports.{◌≡◌, ◌⊎◌, ◌<◌, ◌≤◌, ◌+◌, ℕ, suc, Bool, true, false, if◌then◌else◌, List, [], ◌∷◌, ◌++◌, map, length, inl, inr, refl, ap, sym, ◌∙◌, subst, arith, AllByRecursion, Contains, Tree, CertificateLine, facts_named, facts_added, terms_named, moved_line, Certificate, Next, Closed, Split, lines_in, some_pass, terms_in, NamesFew, EachNamesFew, Pruned, LeftNext, LeftSplit, needs, with_line, with_split, pruned, new_number, numbered_on, closed_up}
use Rattle.std.proofs.lemmas.List.Elements.{Contains-append_left, Contains-append_right, Contains-append_cases}
use Rattle.sm_trim.proofs.NamesLemmas.{moved_alike}
use Rattle.sm_trim.proofs.NumbersLemmas.{numbered_length, number_before, number_there, number_past, Place, Before, There, Past, place}

-- no fact gets a greater number
abbrev pub NumbersFall : List ℕ → Type 0
NumbersFall moved = (n : ℕ) → new_number moved n ≤ n

fall_more : (moved : List ℕ) (at to k : ℕ) → length moved ≤ at → to ≤ at → NumbersFall moved → NumbersFall (numbered_on moved at to k)
fall_more moved at to k short before fall n = of (place at k n)
  where
    of : Place at k n → new_number (numbered_on moved at to k) n ≤ n
    of (Before h) = let same = number_before moved at to k n short h in let f = fall n in omega arith
    of (There j h e) =
        let same : new_number (numbered_on moved at to k) n ≡ to + j =
        ap (new_number (numbered_on moved at to k)) e ∙ number_there moved at to k j short h in omega arith
    of (Past h) = let same = number_past moved at to k n short h in omega arith

-- smaller numbers are below what the numbers are below
below : (move : ℕ → ℕ) → ((n : ℕ) → move n ≤ n) → (bound : ℕ) (ns : List ℕ) → AllByRecursion (λ (n : ℕ). n < bound) ns →
    AllByRecursion (λ (n : ℕ). n < bound) (map move ns)
below move fall bound [] all = tt
below move fall bound (n ∷ ns) all = (let f = fall n in let g = all.0 in omega arith, below move fall bound ns all.1)

so_many : (move : ℕ → ℕ) (ns : List ℕ) → length (map move ns) ≡ length ns
so_many move [] = refl
so_many move (n ∷ ns) = ap suc (so_many move ns)

-- a line with smaller numbers names no more facts
few_moved : (move : ℕ → ℕ) → ((n : ℕ) → move n ≤ n) → (most bound : ℕ) (line : CertificateLine) → NamesFew most bound line →
    NamesFew most bound (moved_line move line)
few_moved move fall most bound line few =
    subst (λ (ns : List ℕ). (length ns ≤ most) × AllByRecursion (λ (n : ℕ). n < bound) ns) (sym (moved_alike move line).named)
    ((let l = so_many move (facts_named line) in let m = few.0 in omega arith), below move fall bound (facts_named line) few.1)

-- what is left is no more than a certificate
pub record IsSmaller (c d : Certificate) : Type 0 where
  pub lines : lines_in d ≤ lines_in c
  pub terms : (t : Tree) → Contains (terms_in d) t → Contains (terms_in c) t
  pub few : (most bound : ℕ) → EachNamesFew most bound c → EachNamesFew most bound d

abbrev pub Smaller : ℕ → Certificate → Pruned → Type 0
Smaller at c p =
    (to : ℕ) (moved : List ℕ) → length moved ≤ at → to ≤ at → NumbersFall moved → IsSmaller c (closed_up moved to p)

-- terms of a line that stays
line_terms : (move : ℕ → ℕ) (line : CertificateLine) (t : Tree) → Contains (terms_named (moved_line move line)) t →
    Contains (terms_named line) t
line_terms move line t h = subst (λ (ts : List Tree). Contains ts t) (moved_alike move line).terms h

-- those of two lists are in two longer ones
both_terms : (a b c d : List Tree) (t : Tree) → (Contains a t → Contains c t) → (Contains b t → Contains d t) → Contains (a ++ b) t →
    Contains (c ++ d) t
both_terms a b c d t first second h = of (Contains-append_cases a b t h)
  where
    of : Contains a t ⊎ Contains b t → Contains (c ++ d) t
    of (inl g) = Contains-append_left c d t (first g)
    of (inr g) = Contains-append_right c d t (second g)

next_smaller : (at : ℕ) (line : CertificateLine) (c : Certificate) (p : Pruned) → Smaller (at + facts_added line) c p →
    Smaller at (Next line c) (with_line at line p)
next_smaller at line c p later to moved short before fall = of (some_pass k at (needs p))
  where
    k : ℕ
    k = facts_added line

    after : List ℕ
    after = numbered_on moved at to k

    goes : IsSmaller c (closed_up moved to p)
    goes = later to moved (omega arith) (omega arith) fall

    stays : IsSmaller c (closed_up after (to + k) p)
    stays = later (to + k) after (let l = numbered_length moved at to k short in omega arith) (omega arith)
        (fall_more moved at to k short before fall)

    of : (b : Bool) → IsSmaller (Next line c) (closed_up moved to (if b then LeftNext at line p else p))
    of false = record {
      lines = let l = goes.lines in omega arith;
      terms = λ (t : Tree) (h : Contains (terms_in (closed_up moved to p)) t).
          Contains-append_right (terms_named line) (terms_in c) t (goes.terms t h);
      few = λ (most bound : ℕ) (all : EachNamesFew most bound (Next line c)). goes.few most bound all.1;
    }
    of true = record {
      lines = let l = stays.lines in omega arith;
      terms = λ (t : Tree).
          both_terms (terms_named (moved_line (new_number moved) line)) (terms_in (closed_up after (to + k) p)) (terms_named line)
          (terms_in c) t
          (line_terms (new_number moved) line t) (stays.terms t);
      few = λ (most bound : ℕ) (all : EachNamesFew most bound (Next line c)).
          (few_moved (new_number moved) fall most bound line all.0, stays.few most bound all.1);
    }

split_smaller : (at : ℕ) (line : CertificateLine) (c d : Certificate) (p q : Pruned) → Smaller (suc at) c p → Smaller (suc at) d q →
    Smaller at (Split line c d) (with_split at line p q)
split_smaller at line c d p q first second to moved short before fall = of (needs p at) (needs q at)
  where
    after : List ℕ
    after = numbered_on moved at to 1

    long : length after ≤ suc at
    long = let l = numbered_length moved at to 1 short in omega arith

    one : IsSmaller c (closed_up moved to p)
    one = first to moved (omega arith) (omega arith) fall

    two : IsSmaller d (closed_up moved to q)
    two = second to moved (omega arith) (omega arith) fall

    one_stays : IsSmaller c (closed_up after (suc to) p)
    one_stays = first (suc to) after long (omega arith) (fall_more moved at to 1 short before fall)

    two_stays : IsSmaller d (closed_up after (suc to) q)
    two_stays = second (suc to) after long (omega arith) (fall_more moved at to 1 short before fall)

    of : (a b : Bool) → IsSmaller (Split line c d) (closed_up moved to (if a then (if b then LeftSplit at line p q else q) else p))
    of false b = record {
      lines = let l = one.lines in omega arith;
      terms = λ (t : Tree) (h : Contains (terms_in (closed_up moved to p)) t).
          Contains-append_right (terms_named line) (terms_in c ++ terms_in d) t
          (Contains-append_left (terms_in c) (terms_in d) t (one.terms t h));
      few = λ (most bound : ℕ) (all : EachNamesFew most bound (Split line c d)). one.few most bound all.1;
    }
    of true false = record {
      lines = let l = two.lines in omega arith;
      terms = λ (t : Tree) (h : Contains (terms_in (closed_up moved to q)) t).
          Contains-append_right (terms_named line) (terms_in c ++ terms_in d) t
          (Contains-append_right (terms_in c) (terms_in d) t (two.terms t h));
      few = λ (most bound : ℕ) (all : EachNamesFew most bound (Split line c d)). two.few most bound all.2;
    }
    of true true = record {
      lines = let l = one_stays.lines in let m = two_stays.lines in omega arith;
      terms = λ (t : Tree).
          both_terms (terms_named (moved_line (new_number moved) line))
          (terms_in (closed_up after (suc to) p) ++ terms_in (closed_up after (suc to) q)) (terms_named line) (terms_in c ++ terms_in d) t
          (line_terms (new_number moved) line t)
          (both_terms (terms_in (closed_up after (suc to) p)) (terms_in (closed_up after (suc to) q)) (terms_in c) (terms_in d) t
          (one_stays.terms t) (two_stays.terms t));
      few = λ (most bound : ℕ) (all : EachNamesFew most bound (Split line c d)).
          (few_moved (new_number moved) fall most bound line all.0, one_stays.few most bound all.1, two_stays.few most bound all.2);
    }

smaller : (at : ℕ) (c : Certificate) → Smaller at c (pruned at c)
smaller at (Next line c) = next_smaller at line c (pruned (at + facts_added line) c) (smaller (at + facts_added line) c)
smaller at (Closed line) = λ to moved short before fall. record {
  lines = let one : 1 ≤ 1 = omega arith in one;
  terms = λ (t : Tree). line_terms (new_number moved) line t;
  few = λ (most bound : ℕ) (all : NamesFew most bound line). few_moved (new_number moved) fall most bound line all;
}
smaller at (Split line c d) = split_smaller at line c d (pruned (suc at) c) (pruned (suc at) d) (smaller (suc at) c) (smaller (suc at) d)

-- a trimmed certificate is no more than the certificate
pub trimmed_smaller : (at : ℕ) (c : Certificate) → IsSmaller c (closed_up [] at (pruned at c))
trimmed_smaller at c =
    smaller at c at [] (let none : 0 ≤ at = omega arith in none) (let same : at ≤ at = omega arith in same)
    (λ (n : ℕ). let same : n ≤ n = omega arith in same)
