-- What is left of a certificate closes the branch, with new numbers of facts.
use Rattle.sm_trim.proofs.Imports.{◌≡◌, ◌⊎◌, ◌<◌, ◌≤◌, ◌+◌, ℕ, suc, max, nat_lt, if◌then◌else◌, Bool, true, false, ◌||◌, slice_get, Option, Some, None, List, [], ◌∷◌, ◌++◌, length, inl, inr, refl, ap, sym, ◌∙◌, arith, IsTrue, length-append, ltb-true, ltb-false, or_left, or_right, Sorts, BranchFact, CertificateLine, reads_all, facts_added, moved_line, StandsMoved, ReadsAlike, ways, adds, ways_move_from, Certificate, Next, Closed, Split, lines_in, splits_above, first_bad, TooManySplits, bad_line, Closes, names_fact, some_pass, Pruned, LeftNext, LeftSplit, needs, with_line, with_split, pruned, new_number, numbered_on, closed_up}
use Rattle.std.proofs.lemmas.Option.{slice_get_within}
use Rattle.sm_theory.specs.Equality.{or_other}
use Rattle.sm_theory.proofs.ArithmeticKept.{arithmetic_moves}
use Rattle.sm_trim.proofs.NamesLemmas.{pass_at, each_named, names_all}
use Rattle.sm_trim.proofs.NumbersLemmas.{numbered_length, number_before, number_there}
use Rattle.sm_trim.proofs.WaysLemmas.{in_one, in_none, in_two, one_long, both_long, adds_some}
use Rattle.sm_cert.proofs.CertificateMoves.{parts_none}
use Rattle.sm_lemmas.proofs.Lists.{get_in_first, get_in_either, get_in_second}
use Rattle.sm_cert.proofs.WaysTaken.{one_way, no_way, two_ways}

-- the facts that are needed stand on the other branch, with their new numbers; where all are, the branches are the same
pub record Serves (needed : ℕ → Bool) (move : ℕ → ℕ) (facts others : List BranchFact) : Type 0 where
  pub stand : (n : ℕ) → needed n ≡ true → StandsMoved move facts others n
  pub same : ((n : ℕ) → n < length facts → needed n ≡ true) → facts ≡ others

-- a line that names facts that are needed alone reads the same on the other branch
line_alike : (needed : ℕ → Bool) (move : ℕ → ℕ) (at : ℕ) (facts others : List BranchFact) (line : CertificateLine) → at ≡ length facts →
    ((n : ℕ) → names_fact at line n ≡ true → needed n ≡ true) → Serves needed move facts others → ReadsAlike move facts others line
line_alike needed move at facts others line count names serves = (
  each_named (StandsMoved move facts others) at line (λ (n : ℕ) (h : names_fact at line n ≡ true). serves.stand n (names n h)),
  λ (all : IsTrue (reads_all line)).
      serves.same (λ (n : ℕ) (within : n < length facts). names n
      (names_all at line n all (let less : n < at = omega arith in less))),
)

-- a line that stays adds its facts to both branches
line_stays : (needed later : ℕ → Bool) (moved : List ℕ) (at to k : ℕ) (facts others way : List BranchFact) → at ≡ length facts →
    to ≡ length others → length way ≡ k → length moved ≤ at → ((n : ℕ) → later n ≡ true → needed n ≡ true) →
    Serves needed (new_number moved) facts others → Serves later (new_number (numbered_on moved at to k)) (facts ++ way) (others ++ way)
line_stays needed later moved at to k facts others way count there long short less serves = record {
  stand = λ (n : ℕ) (h : later n ≡ true) (f : BranchFact) (e : slice_get (facts ++ way) n ≡ Some f). of n h f (get_in_either facts way n f e);
  same = λ (all : (n : ℕ) → n < length (facts ++ way) → later n ≡ true).
      ap (λ (fs : List BranchFact). fs ++ way)
      (serves.same (λ (n : ℕ) (within : n < length facts).
      less n (all n (let more : n < length (facts ++ way) = let l = length-append facts way in omega arith in more))));
}
  where
    of : (n : ℕ) → later n ≡ true → (f : BranchFact) →
        (slice_get facts n ≡ Some f) ⊎ ((j : ℕ) × (n ≡ length facts + j) × (slice_get way j ≡ Some f)) →
        slice_get (others ++ way) (new_number (numbered_on moved at to k) n) ≡ Some f
    of n h f (inl g) =
        let within : n < length facts = slice_get_within facts n f g in
        ap (λ (i : ℕ). slice_get (others ++ way) i) (number_before moved at to k n short (let less : n < at = omega arith in less))
        ∙ get_in_first others way (new_number moved n) f (serves.stand n (less n h) f g)
    of n h f (inr g) =
        let within : g.0 < length way = slice_get_within way g.0 f g.2 in
        let here : n ≡ at + g.0 = let same = g.1 in omega arith in
        let less : g.0 < k = omega arith in
        let past : to + g.0 ≡ length others + g.0 = omega arith in
        ap (λ (i : ℕ). slice_get (others ++ way) i)
        (ap (new_number (numbered_on moved at to k)) here ∙ number_there moved at to k g.0 short less ∙ past)
        ∙ get_in_second others way g.0 ∙ g.2

-- a line that is left out adds its facts, which aren't needed, to the first branch alone
line_goes : (needed : ℕ → Bool) (move : ℕ → ℕ) (at k : ℕ) (facts others way : List BranchFact) → at ≡ length facts → length way ≡ k →
    0 < k → some_pass k at needed ≡ false → Serves needed move facts others → Serves needed move (facts ++ way) others
line_goes needed move at k facts others way count long some none serves = record {
  stand = λ (n : ℕ) (h : needed n ≡ true) (f : BranchFact) (e : slice_get (facts ++ way) n ≡ Some f). of n h f (get_in_either facts way n f e);
  same = λ (all : (n : ℕ) → n < length (facts ++ way) → needed n ≡ true).
      let within : at + 0 < length (facts ++ way) = let l = length-append facts way in omega arith in
      absurd (no 0 some (all (at + 0) within));
}
  where
    no : (j : ℕ) → j < k → needed (at + j) ≡ true → ⊥
    no j less h = let wrong : true ≡ false = sym (pass_at k at j needed less h) ∙ none in cc

    of : (n : ℕ) → needed n ≡ true → (f : BranchFact) →
        (slice_get facts n ≡ Some f) ⊎ ((j : ℕ) × (n ≡ length facts + j) × (slice_get way j ≡ Some f)) →
        slice_get others (move n) ≡ Some f
    of n h f (inl g) = serves.stand n h f g
    of n h f (inr g) =
        let within : g.0 < length way = slice_get_within way g.0 f g.2 in
        let here : n ≡ at + g.0 = let same = g.1 in omega arith in
        absurd (no g.0 (let less : g.0 < k = omega arith in less) (ap needed (sym here) ∙ h))

-- what is left, with new numbers, has no bad line on any branch that serves it
abbrev pub Trims : Sorts → List BranchFact → ℕ → Pruned → Type 0
Trims sorts facts at p =
    (others : List BranchFact) (to : ℕ) (moved : List ℕ) (m : ℕ) → to ≡ length others → length moved ≤ at →
    Serves (needs p) (new_number moved) facts others → first_bad (adds sorts) sorts others m (closed_up moved to p) ≡ None

-- a line does on the other branch what it does here
same_ways : (sorts : Sorts) (move : ℕ → ℕ) (facts others : List BranchFact) (line : CertificateLine) (to : List (List BranchFact)) →
    ReadsAlike move facts others line → ways sorts facts line ≡ Some to → ways sorts others (moved_line move line) ≡ Some to
same_ways = ways_move_from arithmetic_moves

-- more facts than `at`
at_more : (at k : ℕ) (facts way : List BranchFact) → at ≡ length facts → length way ≡ k → at + k ≡ length (facts ++ way)
at_more at k facts way count long = let l = length-append facts way in omega arith

-- a line before what is left
next_trims : (sorts : Sorts) (facts : List BranchFact) (at : ℕ) (line : CertificateLine) (way : List BranchFact) (p : Pruned) →
    at ≡ length facts → ways sorts facts line ≡ Some (way ∷ []) → Trims sorts (facts ++ way) (at + facts_added line) p →
    Trims sorts facts at (with_line at line p)
next_trims sorts facts at line way p count goes later = of (some_pass (facts_added line) at (needs p)) refl
  where
    long : length way ≡ facts_added line
    long = one_long sorts facts line way goes

    of : (b : Bool) → some_pass (facts_added line) at (needs p) ≡ b → Trims sorts facts at (if b then LeftNext at line p else p)
    of true h others to moved m there short serves =
        let k = facts_added line in
        let whole = λ (n : ℕ). names_fact at line n || needs p n in
        let alike = line_alike whole (new_number moved) at facts others line count
        (λ (n : ℕ) (g : names_fact at line n ≡ true). or_left (names_fact at line n) (needs p n) g) serves in
        let same = same_ways sorts (new_number moved) facts others line (way ∷ []) alike goes in
        let lengths : length (numbered_on moved at to k) ≤ at + k = let l = numbered_length moved at to k short in omega arith in
        in_one (ways sorts others (moved_line (new_number moved) line)) m
        (λ (w : List BranchFact). first_bad (adds sorts) sorts (others ++ w) (suc m) (closed_up (numbered_on moved at to k) (to + k) p))
        way same
        (later (others ++ way) (to + k) (numbered_on moved at to k) (suc m) (at_more to k others way there long) lengths
        (line_stays whole (needs p) moved at to k facts others way count there long short
        (λ (n : ℕ) (g : needs p n ≡ true). or_right (names_fact at line n) (needs p n) g) serves))
    of false h others to moved m there short serves =
        let some = adds_some line in
        later others to moved m there (let more : length moved ≤ at + facts_added line = omega arith in more)
        (line_goes (needs p) (new_number moved) at (facts_added line) facts others way count long
        (let one : 0 < facts_added line = let s = some.1 in omega arith in one) h serves)

-- a split, or a part in its place
split_trims : (sorts : Sorts) (facts : List BranchFact) (at : ℕ) (line : CertificateLine) (way other : List BranchFact) (p q : Pruned) →
    at ≡ length facts → ways sorts facts line ≡ Some (way ∷ other ∷ []) → Trims sorts (facts ++ way) (suc at) p →
    Trims sorts (facts ++ other) (suc at) q → Trims sorts facts at (with_split at line p q)
split_trims sorts facts at line way other p q count goes first second = of (needs p at) (needs q at) refl refl
  where
    long : (length way ≡ 1) × (length other ≡ 1)
    long = both_long sorts facts line way other goes

    alone : (needed : ℕ → Bool) → needed at ≡ false → some_pass 1 at needed ≡ false
    alone needed none = rw none refl

    of : (a b : Bool) → needs p at ≡ a → needs q at ≡ b →
        Trims sorts facts at (if a then (if b then LeftSplit at line p q else q) else p)
    of false b h g others to moved m there short serves =
        first others to moved m there (let more : length moved ≤ suc at = omega arith in more)
        (line_goes (needs p) (new_number moved) at 1 facts others way count long.0 (let one : 0 < 1 = omega arith in one)
        (alone (needs p) h) serves)
    of true false h g others to moved m there short serves =
        second others to moved m there (let more : length moved ≤ suc at = omega arith in more)
        (line_goes (needs q) (new_number moved) at 1 facts others other count long.1 (let one : 0 < 1 = omega arith in one)
        (alone (needs q) g) serves)
    of true true h g others to moved m there short serves =
        let whole = λ (n : ℕ). names_fact at line n || (needs p n || needs q n) in
        let alike = line_alike whole (new_number moved) at facts others line count
        (λ (n : ℕ) (g : names_fact at line n ≡ true). or_left (names_fact at line n) (needs p n || needs q n) g) serves in
        let same = same_ways sorts (new_number moved) facts others line (way ∷ other ∷ []) alike goes in
        let after = numbered_on moved at to 1 in
        let lengths : length after ≤ suc at = let l = numbered_length moved at to 1 short in omega arith in
        let one = λ (w : List BranchFact). first_bad (adds sorts) sorts (others ++ w) (suc m) (closed_up after (suc to) p) in
        let two = λ (w : List BranchFact). first_bad (adds sorts) sorts (others ++ w) (suc m + lines_in (closed_up after (suc to) p))
        (closed_up after (suc to) q) in
        in_two (ways sorts others (moved_line (new_number moved) line)) m (λ (w v : List BranchFact). or_other (one w) (two v)) way other
        same
        (both_none (one way) (two other)
        (first (others ++ way) (suc to) after (suc m) (past way long.0 others to there) lengths
        (line_stays whole (needs p) moved at to 1 facts others way count there long.0 short
        (λ (n : ℕ) (g : needs p n ≡ true). or_right (names_fact at line n) (needs p n || needs q n) (or_left (needs p n) (needs q n) g))
        serves))
        (second (others ++ other) (suc to) after (suc m + lines_in (closed_up after (suc to) p)) (past other long.1 others to there) lengths
        (line_stays whole (needs q) moved at to 1 facts others other count there long.1 short
        (λ (n : ℕ) (g : needs q n ≡ true). or_right (names_fact at line n) (needs p n || needs q n) (or_right (needs p n) (needs q n) g))
        serves)))
      where
        both_none : (o p : Option ℕ) → o ≡ None → p ≡ None → or_other o p ≡ None
        both_none None p e f = f
        both_none (Some n) p e f = absurd cc

        past : (w : List BranchFact) → length w ≡ 1 → (others : List BranchFact) (to : ℕ) → to ≡ length others →
            suc to ≡ length (others ++ w)
        past w one others to there = let l = length-append others w in omega arith

-- what is left of a certificate without a bad line
pub trims : (sorts : Sorts) (facts : List BranchFact) (at n : ℕ) (c : Certificate) → at ≡ length facts →
    first_bad (adds sorts) sorts facts n c ≡ None → Trims sorts facts at (pruned at c)
trims sorts facts at n (Next line c) count e =
    let w = one_way (ways sorts facts line) n (λ (way : List BranchFact). first_bad (adds sorts) sorts (facts ++ way) (suc n) c) e in
    next_trims sorts facts at line w.0 (pruned (at + facts_added line) c) count w.1
    (trims sorts (facts ++ w.0) (at + facts_added line) (suc n) c
    (at_more at (facts_added line) facts w.0 count (one_long sorts facts line w.0 w.1)) w.2)
trims sorts facts at n (Closed line) count e = λ others to moved m there short serves.
    let alike = line_alike (names_fact at line) (new_number moved) at facts others line count
    (λ (n : ℕ) (g : names_fact at line n ≡ true). g) serves in
    in_none (ways sorts others (moved_line (new_number moved) line)) m
    (same_ways sorts (new_number moved) facts others line [] alike (no_way (ways sorts facts line) n e))
trims sorts facts at n (Split line c d) count e =
    let w = two_ways (ways sorts facts line) n
    (λ (way other : List BranchFact).
    or_other (first_bad (adds sorts) sorts (facts ++ way) (suc n) c) (first_bad (adds sorts) sorts (facts ++ other) (suc n + lines_in c)
    d)) e in
    let parts = parts_none (first_bad (adds sorts) sorts (facts ++ w.0) (suc n) c)
    (first_bad (adds sorts) sorts (facts ++ w.1) (suc n + lines_in c) d) w.3 in
    let long = both_long sorts facts line w.0 w.1 w.2 in
    split_trims sorts facts at line w.0 w.1 (pruned (suc at) c) (pruned (suc at) d) count w.2
    (trims sorts (facts ++ w.0) (suc at) (suc n) c
    (let more : suc at ≡ length (facts ++ w.0) = let l = length-append facts w.0 in let o = long.0 in omega arith in more) parts.0)
    (trims sorts (facts ++ w.1) (suc at) (suc n + lines_in c) d
    (let more : suc at ≡ length (facts ++ w.1) = let l = length-append facts w.1 in let o = long.1 in omega arith in more) parts.1)

-- there are no more splits above a line
few_splits : (at : ℕ) (moved : List ℕ) (to : ℕ) (c : Certificate) → splits_above (closed_up moved to (pruned at c)) ≤ splits_above c
few_splits at moved to (Next line c) =
    next (few_splits (at + facts_added line) moved to c)
    (few_splits (at + facts_added line) (numbered_on moved at to (facts_added line)) (to + facts_added line) c)
  where
    next : splits_above (closed_up moved to (pruned (at + facts_added line) c)) ≤ splits_above c →
        splits_above (closed_up (numbered_on moved at to (facts_added line)) (to + facts_added line) (pruned (at + facts_added line) c))
        ≤ splits_above c →
        splits_above (closed_up moved to (with_line at line (pruned (at + facts_added line) c))) ≤ splits_above c
    next goes stays = of (some_pass (facts_added line) at (needs (pruned (at + facts_added line) c)))
      where
        of : (b : Bool) →
            splits_above (closed_up moved to (if b then LeftNext at line (pruned (at + facts_added line) c) else pruned
            (at + facts_added line) c))
            ≤ splits_above c
        of true = stays
        of false = goes
few_splits at moved to (Closed line) = omega arith
few_splits at moved to (Split line c d) =
    parts (few_splits (suc at) moved to c) (few_splits (suc at) moved to d)
    (few_splits (suc at) (numbered_on moved at to 1) (suc to) c) (few_splits (suc at) (numbered_on moved at to 1) (suc to) d)
  where
    parts : splits_above (closed_up moved to (pruned (suc at) c)) ≤ splits_above c →
        splits_above (closed_up moved to (pruned (suc at) d)) ≤ splits_above d →
        splits_above (closed_up (numbered_on moved at to 1) (suc to) (pruned (suc at) c)) ≤ splits_above c →
        splits_above (closed_up (numbered_on moved at to 1) (suc to) (pruned (suc at) d)) ≤ splits_above d →
        splits_above (closed_up moved to (with_split at line (pruned (suc at) c) (pruned (suc at) d)))
        ≤ suc (max (splits_above c) (splits_above d))
    parts first second one two = of (needs (pruned (suc at) c) at) (needs (pruned (suc at) d) at)
      where
        of : (a b : Bool) →
            splits_above (closed_up moved to
            (if a then (if b then LeftSplit at line (pruned (suc at) c) (pruned (suc at) d) else pruned (suc at) d) else pruned (suc at) c))
            ≤ suc (max (splits_above c) (splits_above d))
        of false b = omega arith
        of true false = omega arith
        of true true = omega arith

-- facts keep their numbers at the start
first_serves : (needed : ℕ → Bool) (facts : List BranchFact) → Serves needed (new_number []) facts facts
first_serves needed facts = record {
  stand = λ (n : ℕ) (h : needed n ≡ true) (f : BranchFact) (e : slice_get facts n ≡ Some f). e;
  same = λ (all : (n : ℕ) → n < length facts → needed n ≡ true). refl;
}

-- a trimmed certificate closes the branch that the certificate closes
pub trimmed_closes : (sorts : Sorts) (facts : List BranchFact) (at : ℕ) (c : Certificate) → length facts ≡ at → Closes sorts facts c →
    Closes sorts facts (closed_up [] at (pruned at c))
trimmed_closes sorts facts at c count e =
    of (nat_lt 1000 (splits_above c)) (nat_lt 1000 (splits_above (closed_up [] at (pruned at c)))) refl refl e
  where
    good : first_bad (adds sorts) sorts facts 0 c ≡ None → first_bad (adds sorts) sorts facts 0 (closed_up [] at (pruned at c)) ≡ None
    good h =
        trims sorts facts at 0 c (sym count) h facts at [] 0 (sym count) (let none : 0 ≤ at = omega arith in none)
        (first_serves (needs (pruned at c)) facts)

    of : (a b : Bool) → nat_lt 1000 (splits_above c) ≡ a → nat_lt 1000 (splits_above (closed_up [] at (pruned at c))) ≡ b →
        (if a then Some TooManySplits else bad_line (first_bad (adds sorts) sorts facts 0 c)) ≡ None →
        (if b then Some TooManySplits else bad_line (first_bad (adds sorts) sorts facts 0 (closed_up [] at (pruned at c)))) ≡ None
    of true b h g none = absurd cc
    of false true h g none =
        absurd (let few = few_splits at [] at c in let deep = ltb-true 1000 (splits_above (closed_up [] at (pruned at c))) g in
        let flat = ltb-false 1000 (splits_above c) h in omega arith)
    of false false h g none =
        ap bad_line (good (no_bad (first_bad (adds sorts) sorts facts 0 c) none))
      where
        no_bad : (o : Option ℕ) → bad_line o ≡ None → o ≡ None
        no_bad None e = refl
        no_bad (Some n) e = absurd cc
