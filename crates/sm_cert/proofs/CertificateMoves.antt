-- A certificate closes each other branch on which the facts of its own stand.
use Rattle.sm_cert.proofs.Imports.{◌≡◌, ◌⊎◌, ◌<◌, ℕ, suc, ◌+◌, ◌-◌, Bool, true, false, nat_lt, if◌then◌else◌, slice_get, Some, None, List, [], ◌∷◌, ◌++◌, length, inl, inr, refl, ap, sym, ◌∙◌, subst, arith, length-append, ltb-true, lt-ltb, Sorts, BranchFact, CertificateLine, Both, Either, Cases, Order, Refl, Sym, Trans, Subst, Cong, Same, Apart, Hit, Miss, Lin, Elim, Tight, Exact, Close, Clash, or_other, Ways, ways_with, ways_with_move, Certificate, Next, Closed, Split, lines_in, splits_above, in_one_way, in_no_way, in_two_ways, Theories, first_bad, TooManySplits, bad_line, refused}
use Rattle.std.proofs.Common.{Option}
use Rattle.std.proofs.lemmas.Option.{slice_get_within}
use Rattle.sm_theory.specs.Named.{reads_all}
use Rattle.sm_theory.specs.Moved.{moved_line, StandAmong, ReadsAlike}
use Rattle.sm_theory.proofs.FactsLemmas.{among_alike}
use Rattle.sm_cert.specs.MovedTrees.{moved_certificate, NamesWhatItReads, moved_past}
use Rattle.sm_lemmas.proofs.Lists.{get_in_first, get_in_either, get_in_second}

-- numbers move so that facts stand on the other branch, and those after them after its facts
pub record MovesPast (move : ℕ → ℕ) (facts others : List BranchFact) : Type 0 where
  pub stand : StandAmong move facts others
  pub past : (j : ℕ) → move (length facts + j) ≡ length others + j

-- more facts on both branches
later_facts : (move : ℕ → ℕ) (facts others way : List BranchFact) → MovesPast move facts others →
    MovesPast move (facts ++ way) (others ++ way)
later_facts move facts others way moves = record {
  stand = λ (n : ℕ) (k : BranchFact) (e : slice_get (facts ++ way) n ≡ Some k). of n k (get_in_either facts way n k e);
  past = λ (j : ℕ).
      let all : length (facts ++ way) + j ≡ length facts + (length way + j) = let l = length-append facts way in omega arith in
      let there : length others + (length way + j) ≡ length (others ++ way) + j = let l = length-append others way in omega arith in
      ap move all ∙ moves.past (length way + j) ∙ there;
}
  where
    of : (n : ℕ) (k : BranchFact) → (slice_get facts n ≡ Some k) ⊎ ((j : ℕ) × (n ≡ length facts + j) × (slice_get way j ≡ Some k)) →
        slice_get (others ++ way) (move n) ≡ Some k
    of n k (inl h) = get_in_first others way (move n) k (moves.stand n k h)
    of n k (inr h) = ap (λ (i : ℕ). slice_get (others ++ way) i) (ap move h.1 ∙ moves.past h.0) ∙ get_in_second others way h.0 ∙ h.2

-- the facts of the branch, and those after them
pub moves_past : (move : ℕ → ℕ) (facts others : List BranchFact) → StandAmong move facts others →
    MovesPast (moved_past move (length facts) (length others)) facts others
moves_past move facts others stand = record {
  stand = λ (n : ℕ) (k : BranchFact) (e : slice_get facts n ≡ Some k).
      let within : n < length facts = slice_get_within facts n k e in
      ap (λ (i : ℕ). slice_get others i) (chosen true (nat_lt n (length facts)) n refl (lt-ltb n (length facts) within)) ∙ stand n k e;
  past = λ (j : ℕ). later (nat_lt (length facts + j) (length facts)) j refl;
}
  where
    chosen : (t b : Bool) (n : ℕ) → t ≡ true → b ≡ t → (if b then move n else length others + (n - length facts)) ≡ move n
    chosen t true n e h = refl
    chosen t false n e h = absurd (let wrong : false ≡ true = h ∙ e in cc)

    later : (b : Bool) (j : ℕ) → nat_lt (length facts + j) (length facts) ≡ b →
        (if b then move (length facts + j) else length others + ((length facts + j) - length facts)) ≡ length others + j
    later true j h = absurd (let less = ltb-true (length facts + j) (length facts) h in omega arith)
    later false j h = let same : (length facts + j) - length facts ≡ j = omega arith in ap (λ (i : ℕ). length others + i) same

-- a line that goes on in one way does so on the other branch
one_moves : (v w : Ways) (n m : ℕ) (next after : List BranchFact → Option ℕ) → ((to : List (List BranchFact)) → v ≡ Some to → w ≡ Some to) →
    ((way : List BranchFact) → next way ≡ None → after way ≡ None) → in_one_way v n next ≡ None → in_one_way w m after ≡ None
one_moves None w n m next after same later e = absurd cc
one_moves (Some []) w n m next after same later e = absurd cc
one_moves (Some (way ∷ [])) w n m next after same later e =
    subst (λ (u : Ways). in_one_way u m after ≡ None) (sym (same (way ∷ []) refl)) (later way e)
one_moves (Some (way ∷ other ∷ rest)) w n m next after same later e = absurd cc

-- one that closes the branch
none_moves : (v w : Ways) (n m : ℕ) → ((to : List (List BranchFact)) → v ≡ Some to → w ≡ Some to) → in_no_way v n ≡ None →
    in_no_way w m ≡ None
none_moves None w n m same e = absurd cc
none_moves (Some []) w n m same e = subst (λ (u : Ways). in_no_way u m ≡ None) (sym (same [] refl)) refl
none_moves (Some (way ∷ rest)) w n m same e = absurd cc

-- one that splits it
two_move : (v w : Ways) (n m : ℕ) (next after : List BranchFact → List BranchFact → Option ℕ) →
    ((to : List (List BranchFact)) → v ≡ Some to → w ≡ Some to) →
    ((way other : List BranchFact) → next way other ≡ None → after way other ≡ None) → in_two_ways v n next ≡ None →
    in_two_ways w m after ≡ None
two_move None w n m next after same later e = absurd cc
two_move (Some []) w n m next after same later e = absurd cc
two_move (Some (way ∷ [])) w n m next after same later e = absurd cc
two_move (Some (way ∷ other ∷ [])) w n m next after same later e =
    subst (λ (u : Ways). in_two_ways u m after ≡ None) (sym (same (way ∷ other ∷ []) refl)) (later way other e)
two_move (Some (way ∷ other ∷ third ∷ rest)) w n m next after same later e = absurd cc

-- there are as many lines
lines_same : (move : ℕ → ℕ) (c : Certificate) → lines_in (moved_certificate move c) ≡ lines_in c
lines_same move (Next line c) = ap suc (lines_same move c)
lines_same move (Closed line) = refl
lines_same move (Split line c d) = let p = lines_same move c in let q = lines_same move d in rw (p, q) refl

-- a moved certificate has as many splits above
splits_same : (move : ℕ → ℕ) (c : Certificate) → splits_above (moved_certificate move c) ≡ splits_above c
splits_same move (Next line c) = splits_same move c
splits_same move (Closed line) = refl
splits_same move (Split line c d) = let p = splits_same move c in let q = splits_same move d in rw (p, q) refl

-- a moved line reads all facts where the line does
reads_same : (move : ℕ → ℕ) (line : CertificateLine) → reads_all (moved_line move line) ≡ reads_all line
reads_same move (Exact n) = refl
reads_same move (Both n) = refl
reads_same move (Either n) = refl
reads_same move (Cases t u) = refl
reads_same move (Order n) = refl
reads_same move (Refl t) = refl
reads_same move (Sym n) = refl
reads_same move (Trans i j) = refl
reads_same move (Subst i j) = refl
reads_same move (Cong t u ns) = refl
reads_same move (Same t u) = refl
reads_same move (Apart t u) = refl
reads_same move (Hit t n) = refl
reads_same move (Miss t u n) = refl
reads_same move (Lin n) = refl
reads_same move (Elim i j t) = refl
reads_same move (Tight n) = refl
reads_same move (Close n) = refl
reads_same move (Clash i j) = refl

-- a moved certificate reads only what it names where the certificate does
pub moved_names : (move : ℕ → ℕ) (c : Certificate) → NamesWhatItReads c → NamesWhatItReads (moved_certificate move c)
moved_names move (Next line c) named = (reads_same move line ∙ named.0, moved_names move c named.1)
moved_names move (Closed line) named = reads_same move line ∙ named
moved_names move (Split line c d) named = (reads_same move line ∙ named.0, moved_names move c named.1, moved_names move d named.2)

-- what theories add they add on each other branch on which the line reads the same
abbrev pub AddAnywhere : Theories → Type 0
AddAnywhere added =
    (move : ℕ → ℕ) (facts others : List BranchFact) (line : CertificateLine) (k : BranchFact) → ReadsAlike move facts others line →
    added facts line ≡ Some k → added others (moved_line move line) ≡ Some k

-- no line of two parts is bad
pub both_none : (o p : Option ℕ) → o ≡ None → p ≡ None → or_other o p ≡ None
both_none None p e f = f
both_none (Some n) p e f = absurd cc

-- the parts have no bad line
pub parts_none : (o p : Option ℕ) → or_other o p ≡ None → (o ≡ None) × (p ≡ None)
parts_none None p e = (refl, e)
parts_none (Some n) p e = absurd cc

-- a certificate without a bad line has none on the other branch
pub first_moves : (sorts : Sorts) (added : Theories) (move : ℕ → ℕ) (facts others : List BranchFact) (n m : ℕ) (c : Certificate) →
    AddAnywhere added → NamesWhatItReads c → MovesPast move facts others →
    first_bad added sorts facts n c ≡ None → first_bad added sorts others m (moved_certificate move c) ≡ None
first_moves sorts added move facts others n m (Next line c) anywhere named moves e =
    let alike = among_alike move facts others line moves.stand named.0 in
    let v = ways_with sorts facts (added facts line) line in
    let w = ways_with sorts others (added others (moved_line move line)) (moved_line move line) in
    let next = λ (way : List BranchFact). first_bad added sorts (facts ++ way) (suc n) c in
    let after = λ (way : List BranchFact). first_bad added sorts (others ++ way) (suc m) (moved_certificate move c) in
    one_moves v w n m next after
    (λ (to : List (List BranchFact)) (h : v ≡ Some to).
    ways_with_move sorts move facts others (added facts line) (added others (moved_line move line)) line to alike
    (λ (k : BranchFact) (g : added facts line ≡ Some k). anywhere move facts others line k alike g) h)
    (λ (way : List BranchFact) (h : next way ≡ None). first_moves sorts added move (facts ++ way) (others ++ way) (suc n) (suc m) c anywhere
    named.1 (later_facts move facts others way moves) h) e
first_moves sorts added move facts others n m (Closed line) anywhere named moves e =
    let alike = among_alike move facts others line moves.stand named in
    let v = ways_with sorts facts (added facts line) line in
    let w = ways_with sorts others (added others (moved_line move line)) (moved_line move line) in
    none_moves v w n m
    (λ (to : List (List BranchFact)) (h : v ≡ Some to).
    ways_with_move sorts move facts others (added facts line) (added others (moved_line move line)) line to alike
    (λ (k : BranchFact) (g : added facts line ≡ Some k). anywhere move facts others line k alike g) h) e
first_moves sorts added move facts others n m (Split line c d) anywhere named moves e =
    let alike = among_alike move facts others line moves.stand named.0 in
    let v = ways_with sorts facts (added facts line) line in
    let w = ways_with sorts others (added others (moved_line move line)) (moved_line move line) in
    let first = λ (way : List BranchFact). first_bad added sorts (facts ++ way) (suc n) c in
    let second = λ (other : List BranchFact). first_bad added sorts (facts ++ other) (suc n + lines_in c) d in
    let first_there = λ (way : List BranchFact). first_bad added sorts (others ++ way) (suc m) (moved_certificate move c) in
    let second_there = λ (other : List BranchFact). first_bad added sorts (others ++ other) (suc m + lines_in (moved_certificate move c))
    (moved_certificate move d) in
    two_move v w n m (λ (way other : List BranchFact). or_other (first way) (second other))
    (λ (way other : List BranchFact). or_other (first_there way) (second_there other))
    (λ (to : List (List BranchFact)) (h : v ≡ Some to).
    ways_with_move sorts move facts others (added facts line) (added others (moved_line move line)) line to alike
    (λ (k : BranchFact) (g : added facts line ≡ Some k). anywhere move facts others line k alike g) h)
    (λ (way other : List BranchFact) (h : or_other (first way) (second other) ≡ None).
    let parts = parts_none (first way) (second other) h in
    both_none (first_there way) (second_there other)
    (first_moves sorts added move (facts ++ way) (others ++ way) (suc n) (suc m) c anywhere named.1 (later_facts move facts others way moves)
    parts.0)
    (first_moves sorts added move (facts ++ other) (others ++ other) (suc n + lines_in c) (suc m + lines_in (moved_certificate move c)) d
    anywhere named.2 (later_facts move facts others other moves) parts.1)) e

-- a certificate that isn't refused isn't on the other branch
pub refused_moves : (sorts : Sorts) (added : Theories) (move : ℕ → ℕ) (facts others : List BranchFact) (c : Certificate) →
    AddAnywhere added → StandAmong move facts others → NamesWhatItReads c →
    refused added sorts facts c ≡ None →
    refused added sorts others (moved_certificate (moved_past move (length facts) (length others)) c) ≡ None
refused_moves sorts added move facts others c anywhere stand named e =
    let along = moved_past move (length facts) (length others) in
    let deep : nat_lt 1000 (splits_above (moved_certificate along c)) ≡ nat_lt 1000 (splits_above c) =
    ap (λ (n : ℕ). nat_lt 1000 n) (splits_same along c) in
    of (nat_lt 1000 (splits_above c)) (nat_lt 1000 (splits_above (moved_certificate along c))) (first_bad added sorts facts 0 c)
    (first_bad added sorts others 0 (moved_certificate along c)) deep
    (first_moves sorts added along facts others 0 0 c anywhere named (moves_past move facts others stand)) e
  where
    of : (b d : Bool) (o p : Option ℕ) → d ≡ b → (o ≡ None → p ≡ None) → (if b then Some TooManySplits else bad_line o) ≡ None →
        (if d then Some TooManySplits else bad_line p) ≡ None
    of true d o p same later e = absurd cc
    of false true o p same later e = absurd cc
    of false false None p same later e = ap (λ (q : Option ℕ). bad_line q) (later refl)
    of false false (Some n) p same later e = absurd cc
