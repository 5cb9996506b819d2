-- Certificates of the program by their lines, and branches by what lines lead to.
use Rattle.sm_cert.proofs.Imports.{◌≡◌, ◌<◌, ◌≤◌, ◌+◌, ◌-◌, ℕ, zero, suc, max, nat_lt, Bool, true, false, get_or, Some, None, List, [], ◌∷◌, ◌++◌, length, drop, take, refl, ap, sym, ◌∙◌, arith, Box, Global, length-append, drop_more, take_more, ltb-true, ltb-false, lt-ltb, Sorts, Tree, AreTreesSorted, tree_at, BranchFact, AreFactsSorted, IsLineSorted, TheoryAdds, AddsWhatHolds, AddsWhatIsSorted, line_in, IsLineWithin, AllStand, numbered_line, CertLine, Fact, Ways, ways_with, ways_with_sorted, one_of, one_of_holds, one_of_sorted, Certificate, Next, Closed, Split, splits_above, in_one_way, Theories, first_of_three, first_bad, bad_line, lines_before, tree_layer, end_layer, certificate_in, end_lines, tree_lines, lines_of, AreLinesWithin, FaultTells, CertTree, fold_out-CertTree, CertEnd, fold-CertEnd, fold-roll-CertEnd, rolls-Close, rolls-Split, GoesOn, line_number, Arrives}
use Rattle.sm_term.specs.Sorted.{IsSorted}
use Rattle.sm_theory.proofs.LinesOver.{each_with, each_more}
use Rattle.sm_cert.specs.declared.tree.CertEnd.TheOpen as layer
use Rattle.sm_cert.specs.declared.tree.CertEnd.TheVariants as ends
use Rattle.sm_cert.specs.declared.error.CertFault.TheVariants as fault
use Rattle.sm_cert.proofs.CertificateSound.{AreSound, sorted_append}

-- the certificate of an end
abbrev pub end_in : List Tree → CertEnd → Certificate
end_in trees = fold-CertEnd Certificate Certificate (end_layer trees) (tree_layer trees)

-- a tree is its lines, and then its end
pub tree_is : (trees : List Tree) (t : CertTree) → certificate_in trees t ≡ lines_before trees t.lines.list.items (end_in trees t.last)
tree_is trees t = fold_out-CertTree Certificate Certificate (end_layer trees) (tree_layer trees) t

-- a tree that a line closes
pub tree_closed : (trees : List Tree) (t : CertTree) (l : CertLine) → t.last ≡ ends.Close l →
    certificate_in trees t ≡ lines_before trees t.lines.list.items (Closed (line_in trees l))
tree_closed trees t l e = tree_is trees t ∙ ap (lines_before trees t.lines.list.items)
    (ap (end_in trees) (e ∙ sym (rolls-Close l)) ∙ fold-roll-CertEnd Certificate Certificate (end_layer trees) (tree_layer trees)
    (layer.Close l))

-- a tree that a line splits
pub tree_split : (trees : List Tree) (t : CertTree) (l : CertLine) (c d : Box CertTree Global) → t.last ≡ ends.Split l c d →
    certificate_in trees t ≡ lines_before trees t.lines.list.items
    (Split (line_in trees l) (certificate_in trees c.value) (certificate_in trees d.value))
tree_split trees t l c d e = tree_is trees t ∙ ap (lines_before trees t.lines.list.items)
    (ap (end_in trees) (e ∙ sym (rolls-Split l c d)) ∙ fold-roll-CertEnd Certificate Certificate (end_layer trees) (tree_layer trees)
    (layer.Split l c d))

-- the lines of an end
abbrev pub lines_of_end : CertEnd → List CertLine
lines_of_end = fold-CertEnd (List CertLine) (List CertLine) end_lines tree_lines

-- the lines of a tree are its own, and then those of its end
pub lines_are : (t : CertTree) → lines_of t ≡ t.lines.list.items ++ lines_of_end t.last
lines_are t = fold_out-CertTree (List CertLine) (List CertLine) end_lines tree_lines t

pub lines_closed : (t : CertTree) (l : CertLine) → t.last ≡ ends.Close l → lines_of t ≡ t.lines.list.items ++ (l ∷ [])
lines_closed t l e = lines_are t ∙ ap (λ (rest : List CertLine). t.lines.list.items ++ rest)
    (ap lines_of_end (e ∙ sym (rolls-Close l)) ∙ fold-roll-CertEnd (List CertLine) (List CertLine) end_lines tree_lines (layer.Close l))

pub lines_split : (t : CertTree) (l : CertLine) (c d : Box CertTree Global) → t.last ≡ ends.Split l c d →
    lines_of t ≡ t.lines.list.items ++ (l ∷ (lines_of c.value ++ lines_of d.value))
lines_split t l c d e = lines_are t ∙ ap (λ (rest : List CertLine). t.lines.list.items ++ rest)
    (ap lines_of_end (e ∙ sym (rolls-Split l c d)) ∙ fold-roll-CertEnd (List CertLine) (List CertLine) end_lines tree_lines
    (layer.Split l c d))

-- lines of which both parts are within
pub within_parts : (n : ℕ) (xs ys : List CertLine) → AreLinesWithin n (xs ++ ys) → AreLinesWithin n xs × AreLinesWithin n ys
within_parts n [] ys all = (tt, all)
within_parts n (x ∷ xs) ys all = let p = within_parts n xs ys all.1 in ((all.0, p.0), p.1)

-- each of them is
pub within_at : (n : ℕ) (ls : List CertLine) (i : ℕ) (d : CertLine) → AreLinesWithin n ls → i < length ls → IsLineWithin n (get_or ls i d)
within_at n [] i d all less = absurd (let none = less in omega arith)
within_at n (l ∷ ls) zero d all less = all.0
within_at n (l ∷ ls) (suc i) d all less = within_at n ls i d all.1 (let there : i < length ls = omega arith in there)

-- lines split nothing
pub splits_before : (trees : List Tree) (ls : List CertLine) (c : Certificate) → splits_above (lines_before trees ls c) ≡ splits_above c
splits_before trees [] c = refl
splits_before trees (l ∷ ls) c = splits_before trees ls c

-- more splits than so many, on either side
max_first : (k a b : ℕ) → nat_lt k a ≡ true → nat_lt k (max a b) ≡ true
max_first k a b h = lt-ltb k (max a b) (let p = ltb-true k a h in omega arith)

max_second : (k a b : ℕ) → nat_lt k a ≡ false → nat_lt k b ≡ nat_lt k (max a b)
max_second k a b h = by (nat_lt k b) (nat_lt k (max a b)) refl refl
  where
    by : (x y : Bool) → nat_lt k b ≡ x → nat_lt k (max a b) ≡ y → x ≡ y
    by true true e f = refl
    by false false e f = refl
    by true false e f = absurd (let less = ltb-true k b e in let more = lt-ltb k (max a b) (let p = less in omega arith) in
        let wrong : true ≡ false = sym more ∙ f in cc)
    by false true e f = absurd (let less = ltb-true k (max a b) f in let first = ltb-false k a h in let second = ltb-false k b e in
        omega arith)

-- one more on both sides
both_more : (k n : ℕ) → nat_lt (suc k) (suc n) ≡ nat_lt k n
both_more k n = by (nat_lt (suc k) (suc n)) (nat_lt k n) refl refl
  where
    by : (x y : Bool) → nat_lt (suc k) (suc n) ≡ x → nat_lt k n ≡ y → x ≡ y
    by true true e f = refl
    by false false e f = refl
    by true false e f = absurd (let less = ltb-true (suc k) (suc n) e in let more = ltb-false k n f in omega arith)
    by false true e f = absurd (let less = ltb-false (suc k) (suc n) e in let more = ltb-true k n f in omega arith)

-- a split of which the first side is too deep is too deep
pub first_deep : (allowed a b : ℕ) → (allowed ≡ 0 → ⊥) → nat_lt (allowed - 1) a ≡ true → nat_lt allowed (suc (max a b)) ≡ true
first_deep allowed a b some h =
    let more : suc (allowed - 1) ≡ allowed = omega arith in
    ap (λ (n : ℕ). nat_lt n (suc (max a b))) (sym more) ∙ both_more (allowed - 1) (max a b) ∙ max_first (allowed - 1) a b h

-- a split of which the first side isn't too deep is too deep exactly where its second side is
pub second_deep : (allowed a b : ℕ) → (allowed ≡ 0 → ⊥) → nat_lt (allowed - 1) a ≡ false →
    nat_lt (allowed - 1) b ≡ nat_lt allowed (suc (max a b))
second_deep allowed a b some h =
    let more : suc (allowed - 1) ≡ allowed = omega arith in
    max_second (allowed - 1) a b h ∙ sym (both_more (allowed - 1) (max a b)) ∙ ap (λ (n : ℕ). nat_lt n (suc (max a b))) more

-- no split isn't
pub none_deep : (allowed : ℕ) → false ≡ nat_lt allowed 0
none_deep allowed = by (nat_lt allowed 0) refl
  where
    by : (x : Bool) → nat_lt allowed 0 ≡ x → false ≡ x
    by false e = refl
    by true e = absurd (let less = ltb-true allowed 0 e in omega arith)

-- a split is deep where none is allowed
pub none_allowed : (allowed a : ℕ) → allowed ≡ 0 → nat_lt allowed (suc a) ≡ true
none_allowed allowed a e = lt-ltb allowed (suc a) (omega arith)

-- how deep a tree is that a line splits
pub split_depth : (trees : List Tree) (t : CertTree) (l : CertLine) (c d : Box CertTree Global) → t.last ≡ ends.Split l c d →
    splits_above (certificate_in trees t) ≡ suc
    (max (splits_above (certificate_in trees c.value)) (splits_above (certificate_in trees d.value)))
split_depth trees t l c d e =
    ap splits_above (tree_split trees t l c d e)
    ∙ splits_before trees t.lines.list.items (Split (line_in trees l) (certificate_in trees c.value) (certificate_in trees d.value))

-- how deep a tree is that a line closes: it has no split
pub closed_depth : (trees : List Tree) (t : CertTree) (l : CertLine) → t.last ≡ ends.Close l → splits_above (certificate_in trees t) ≡ 0
closed_depth trees t l e = ap splits_above (tree_closed trees t l e) ∙ splits_before trees t.lines.list.items (Closed (line_in trees l))

-- a line whose terms are in a table is sorted
pub line_sorted : (sorts : Sorts) (trees : List Tree) (l : CertLine) → AreTreesSorted sorts trees → IsLineWithin (length trees) l →
    IsLineSorted sorts (line_in trees l)
line_sorted sorts trees l all within =
    each_with (IsSorted sorts) (tree_at trees) (numbered_line l)
    (each_more (λ (n : ℕ). n < length trees) (λ (n : ℕ). IsSorted sorts (tree_at trees n)) (numbered_line l) all within)

-- three theories are sound together
pub three_sound : (a b c : TheoryAdds) → AddsWhatHolds a → AddsWhatHolds b → AddsWhatHolds c → AddsWhatIsSorted a → AddsWhatIsSorted b →
    AddsWhatIsSorted c →
    (sorts : Sorts) → AreSound sorts (first_of_three a b c sorts)
three_sound a b c holds_a holds_b holds_c sorted_a sorted_b sorted_c sorts = record {
  holds = one_of_holds a (one_of b c) holds_a (one_of_holds b c holds_b holds_c) sorts;
  sorted = one_of_sorted a (one_of b c) sorted_a (one_of_sorted b c sorted_b sorted_c) sorts;
}

-- lines behind lines
lines_append : (trees : List Tree) (ls : List CertLine) (l : CertLine) (rest : List CertLine) (c : Certificate) →
    lines_before trees (ls ++ (l ∷ rest)) c ≡ lines_before trees ls (Next (line_in trees l) (lines_before trees rest c))
lines_append trees [] l rest c = refl
lines_append trees (m ∷ ls) l rest c = ap (Next (line_in trees m)) (lines_append trees ls l rest c)

-- the number of the next line
pub counted_more : (at n : ℕ) → at ≡ line_number n → line_number (at + 1) ≡ line_number (suc n)
counted_more at n e = omega arith

-- a good line more
pub arrives_more : (theories : Theories) (sorts : Sorts) (trees : List Tree) (facts : List BranchFact) (m : ℕ) (ls : List CertLine)
    (path : List Fact) (at : ℕ) (l : CertLine) (more : List Fact) (next : ℕ) →
    AreSound sorts theories → IsLineSorted sorts (line_in trees l) → Arrives theories sorts trees facts m ls path at →
    ((ks : List BranchFact) → AllStand sorts trees path ks → AreFactsSorted sorts ks →
    GoesOn sorts trees true more ks (ways_with sorts ks (theories ks (line_in trees l)) (line_in trees l))) →
    next ≡ line_number (at + 1) → Arrives theories sorts trees facts m (ls ++ (l ∷ [])) more next
arrives_more theories sorts trees facts m ls path at l more next sound named r good e =
    of (ways_with sorts r.later (theories r.later (line_in trees l)) (line_in trees l)) refl (good r.later r.stand r.fine)
  where
    of : (w : Ways) → ways_with sorts r.later (theories r.later (line_in trees l)) (line_in trees l) ≡ w →
        GoesOn sorts trees true more r.later w → Arrives theories sorts trees facts m (ls ++ (l ∷ [])) more next
    of None h goes = absurd goes
    of (Some []) h goes = absurd goes
    of (Some (way ∷ [])) h goes =
        let count : suc (m + length ls) ≡ m + length (ls ++ (l ∷ [])) = let s = length-append ls (l ∷ []) in omega arith in
        record {
          later = r.later ++ way;
          stand = goes;
          fine = sorted_append sorts r.later way r.fine
              (ways_with_sorted sorts r.later (theories r.later (line_in trees l)) (line_in trees l) (way ∷ []) r.fine named
              (λ (k : BranchFact) (g : theories r.later (line_in trees l) ≡ Some k). sound.sorted r.later (line_in trees l) k r.fine named
              g) h).0;
          count = e ∙ counted_more at (m + length ls) r.count ∙ ap line_number count;
          leads = λ (c : Certificate).
              ap (first_bad theories sorts facts m) (lines_append trees ls l [] c) ∙ r.leads (Next (line_in trees l) c) ∙
              ap (λ (w : Ways). in_one_way w (m + length ls)
              (λ (way : List BranchFact). first_bad theories sorts (r.later ++ way) (suc (m + length ls)) c)) h ∙
              ap (λ (n : ℕ). first_bad theories sorts (r.later ++ way) n c) count;
        }
    of (Some (way ∷ other ∷ rest)) h goes = absurd goes

-- a bad line is the first
pub arrives_bad : (theories : Theories) (sorts : Sorts) (trees : List Tree) (facts : List BranchFact) (m : ℕ) (ls : List CertLine)
    (path : List Fact) (at : ℕ) (l : CertLine) (more : List Fact) (rest : List CertLine) (c : Certificate) →
    Arrives theories sorts trees facts m ls path at →
    ((ks : List BranchFact) → AllStand sorts trees path ks → AreFactsSorted sorts ks →
    GoesOn sorts trees false more ks (ways_with sorts ks (theories ks (line_in trees l)) (line_in trees l))) →
    FaultTells (fault.Wrong at) (bad_line (first_bad theories sorts facts m (lines_before trees (ls ++ (l ∷ rest)) c)))
arrives_bad theories sorts trees facts m ls path at l more rest c r bad = (
  m + length ls,
  ap bad_line (ap (first_bad theories sorts facts m) (lines_append trees ls l rest c)
      ∙ r.leads (Next (line_in trees l) (lines_before trees rest c)) ∙
      of (ways_with sorts r.later (theories r.later (line_in trees l)) (line_in trees l)) (bad r.later r.stand r.fine)),
  r.count,
)
  where
    of : (w : Ways) → GoesOn sorts trees false more r.later w →
        in_one_way w (m + length ls)
        (λ (way : List BranchFact). first_bad theories sorts (r.later ++ way) (suc (m + length ls)) (lines_before trees rest c)) ≡ Some
        (m + length ls)
    of None goes = refl
    of (Some []) goes = refl
    of (Some (way ∷ [])) goes = absurd goes
    of (Some (way ∷ other ∷ rest)) goes = refl

-- what begins with what begins with a list
pub take_within : {X : Type 0} (xs ys zs : List X) → take (length xs) ys ≡ xs → take (length ys) zs ≡ ys → take (length xs) zs ≡ xs
take_within [] ys zs e f = refl
take_within (x ∷ xs) [] zs e f = absurd cc
take_within (x ∷ xs) (y ∷ ys) [] e f = absurd cc
take_within {X = X} (x ∷ xs) (y ∷ ys) (z ∷ zs) e f =
    let first : take (length xs) ys ≡ xs = cc in
    let second : take (length ys) zs ≡ ys = cc in
    let rest : take (length xs) zs ≡ xs = take_within xs ys zs first second in
    cc

-- as many elements as there are
pub take_all : {X : Type 0} (xs : List X) (i : ℕ) → length xs ≤ i → take i xs ≡ xs
take_all [] zero past = refl
take_all [] (suc i) past = refl
take_all (x ∷ xs) zero past = absurd (let p = past in omega arith)
take_all {X = X} (x ∷ xs) (suc i) past =
    ap (λ (rest : List X). x ∷ rest) (take_all xs i (let less : length xs ≤ i = let p = past in omega arith in less))

-- the lines of a list by one of them
pub lines_at : (ls : List CertLine) (i : ℕ) (l : CertLine) → i < length ls → l ≡ get_or ls i l → ls ≡ take i ls ++ (l ∷ drop (i + 1) ls)
lines_at ls i l less e =
    sym (take-drop ls i) ∙ ap (λ (rest : List CertLine). take i ls ++ rest)
    (drop_more ls i l less ∙ ap (λ (m : CertLine). m ∷ drop (i + 1) ls) (sym e))
  where
    take-drop : (xs : List CertLine) (n : ℕ) → take n xs ++ drop n xs ≡ xs
    take-drop xs zero = refl
    take-drop [] (suc n) = refl
    take-drop (x ∷ xs) (suc n) = ap (λ (rest : List CertLine). x ∷ rest) (take-drop xs n)

-- the first lines, with one more
pub lines_more : (ls : List CertLine) (i : ℕ) (l : CertLine) → i < length ls → l ≡ get_or ls i l → take i ls ++ (l ∷ []) ≡ take (i + 1) ls
lines_more ls i l less e = ap (λ (m : CertLine). take i ls ++ (m ∷ [])) e ∙ sym (take_more ls i l less)
