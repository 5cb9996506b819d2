-- The walk from a branch, by its visits and its parts.
use Rattle.sm_solve.proofs.Imports.{◌≡◌, ℕ, zero, suc, ◌+◌, ◌-◌, ◌<◌, max, Bool, true, false, if◌then◌else◌, Option, None, List, [], ◌∷◌, ◌++◌, length, take, drop, refl, sym, ap, subst, ◌∙◌, arith, lt-ltb, drop-map, Sorts, Tree, Assertion, numbered, assertion_in, Formula, as_facts, line_in, CertLine, ways, splitting, IsLonger, splits_above, certificate_in, lines_of, AreLinesWithin, CertTree, BranchSplit, with_parts, Refutes, Seen, is_closed, split_of, seen_by, both_lines, led_by, all_numbered, assertions_in, Walked, Closes, TooFar, counted, by_forms, forms_of, by_classes, by_no_split, by_parts, walk_from, Reach, split_told, ClosesIn, by_split}
use Rattle.std.proofs.Common.{Some}
use Rattle.sm_cert.specs.Certificates as tree
use Rattle.sm_judge.specs.Holding.{Split}
use Rattle.sm_solve.proofs.LeadingLemmas.{both_refutes, split_refutes, led_splits}

-- a step is counted where one is left
counted_next : (steps count : ℕ) (next : ℕ → Walked) → count < steps → counted steps count next ≡ next (suc count)
counted_next steps count next h = ap (λ (b : Bool). if b then next (suc count) else TooFar) (lt-ltb count steps h)

-- the branch is visited
pub walk_next : (sorts : Sorts) (trees : List Tree) (reach : Reach) (room count : ℕ) (facts : List Assertion) → (room ≡ 0 → ⊥) →
    count < reach.steps →
    walk_from sorts trees reach room count facts
    ≡ by_classes (walk_from sorts trees reach (room - 1)) reach (seen_by sorts trees facts) (count + 1)
walk_next sorts trees reach zero count facts some less = absurd (some refl)
walk_next sorts trees reach (suc room) count facts some less =
    let back : room ≡ suc room - 1 = omega arith in
    let more : suc count ≡ count + 1 = omega arith in
    counted_next reach.steps count (by_classes (walk_from sorts trees reach room) reach (seen_by sorts trees facts)) less
    ∙ ap (λ (n : ℕ). by_classes (walk_from sorts trees reach n) reach (seen_by sorts trees facts) (suc count)) back
    ∙ ap (by_classes (walk_from sorts trees reach (suc room - 1)) reach (seen_by sorts trees facts)) more

-- of formulas the first
drop_first : {X : Type 0} (n : ℕ) (xs ys : List X) → n ≡ length xs → drop n (xs ++ ys) ≡ ys
drop_first zero [] ys h = refl
drop_first (suc n) [] ys h = absurd (omega arith)
drop_first zero (x ∷ xs) ys h = absurd (omega arith)
drop_first (suc n) (x ∷ xs) ys h = drop_first n xs ys (omega arith)

take_first : {X : Type 0} (n : ℕ) (xs ys : List X) → n ≡ length xs → take n (xs ++ ys) ≡ xs
take_first zero [] ys h = refl
take_first (suc n) [] ys h = absurd (omega arith)
take_first zero (x ∷ xs) ys h = absurd (omega arith)
take_first {X = X} (suc n) (x ∷ xs) ys h = ap (λ (rest : List X). x ∷ rest) (take_first n xs ys (omega arith))

-- of a longer list what was there
pub cut_back : (n : ℕ) (fs gs : List Formula) → n ≡ length fs → IsLonger fs gs → take n gs ≡ fs
cut_back n fs gs h longer = ap (take n) longer.1 ∙ take_first n fs longer.0 h

-- a certificate of the branch with all parts, under the lines that add them
pub led_closes : (sorts : Sorts) (trees : List Tree) (facts : List Formula) (from room : ℕ) (before last : List Assertion)
    (tree led : CertTree) →
    from ≡ length before → assertions_in sorts trees (all_numbered facts) ≡ before ++ with_parts last →
    certificate_in trees led ≡ led_by (both_lines from (drop from (all_numbered facts))) (certificate_in trees tree) →
    AreLinesWithin (length trees) (lines_of led) → ClosesIn sorts trees (before ++ with_parts last) room tree →
    ClosesIn sorts trees (before ++ last) room led
led_closes sorts trees facts from room before last tree led place are is within closes =
    let left = drop from (all_numbered facts) in
    let c = certificate_in trees tree in
    let same : with_parts last ≡ assertions_in sorts trees left =
    sym (drop_first from before (with_parts last) place) ∙ ap (drop from) (sym are)
    ∙ drop-map (assertion_in sorts trees) from (all_numbered facts) in
    let refutes = both_refutes sorts trees c left before last same closes.refutes in
    let here : Refutes sorts (as_facts (before ++ last)) (led_by (both_lines from left) c) =
    subst (λ (n : ℕ). Refutes sorts (as_facts (before ++ last)) (led_by (both_lines n left) c)) (sym place) refutes in
    let flat : splits_above (certificate_in trees led) ≡ splits_above c = ap splits_above is ∙ led_splits (both_lines from left) c in
    record {
      refutes = subst (Refutes sorts (as_facts (before ++ last))) (sym is) here;
      within = within;
      splits = subst (λ (n : ℕ). n < room) (sym flat) closes.splits;
    }

-- a certificate of both parts
pub split_closes : (sorts : Sorts) (trees : List Tree) (room : ℕ) (facts : List Assertion) (p q : Assertion) (line : CertLine)
    (first second whole : CertTree) →
    ways sorts (as_facts facts) (line_in trees line) ≡ splitting p q →
    certificate_in trees whole ≡ tree.Split (line_in trees line) (certificate_in trees first) (certificate_in trees second) →
    AreLinesWithin (length trees) (lines_of whole) → ClosesIn sorts trees (facts ++ p ∷ []) room first →
    ClosesIn sorts trees (facts ++ q ∷ []) room second →
    ClosesIn sorts trees facts (room + 1) whole
split_closes sorts trees room facts p q line first second whole splits is within one two =
    let c = certificate_in trees first in
    let d = certificate_in trees second in
    let deep : splits_above (certificate_in trees whole) ≡ suc (max (splits_above c) (splits_above d)) = ap splits_above is in
    let less : suc (max (splits_above c) (splits_above d)) < room + 1 = let a = one.splits in let b = two.splits in omega arith in
    record {
      refutes = subst (Refutes sorts (as_facts facts)) (sym is)
          (split_refutes sorts facts (line_in trees line) p q c d splits one.refutes two.refutes);
      within = within;
      splits = subst (λ (n : ℕ). n < room + 1) (sym deep) less;
    }

-- a branch that is closed at once
pub closed_told : (go : ℕ → List Assertion → Walked) (reach : Reach) (count : ℕ) (b : Seen) → true ≡ is_closed b →
    by_classes go reach b count ≡ Closes count
closed_told go reach count b h =
    ap (λ (v : Bool). if v then Closes count else by_forms reach.steps count (length b.terms) (forms_of b)
    (by_parts go (by_no_split reach b) b.facts (split_of b)))
    (sym h)

-- any other
pub open_told : (go : ℕ → List Assertion → Walked) (reach : Reach) (count : ℕ) (b : Seen) → false ≡ is_closed b →
    by_classes go reach b count
    ≡ by_forms reach.steps count (length b.terms) (forms_of b) (by_parts go (by_no_split reach b) b.facts (split_of b))
open_told go reach count b h =
    ap (λ (v : Bool). if v then Closes count else by_forms reach.steps count (length b.terms) (forms_of b)
    (by_parts go (by_no_split reach b) b.facts (split_of b)))
    (sym h)

-- the split of a branch, where it is told
pub split_is : (go : ℕ → List Assertion → Walked) (alone : ℕ → Walked) (all : List Assertion) (count : ℕ) (sorts : Sorts)
    (trees : List Tree) (s b : Seen) (o : Option BranchSplit) (split : BranchSplit) → s ≡ b → o ≡ Some split →
    split_told sorts trees o ≡ split_of s →
    by_parts go alone all (split_of b) count ≡ by_split go all (split_told sorts trees (Some split)) count
split_is go alone all count sorts trees s b o split seen is told =
    ap (λ (p : Option Split). by_parts go alone all p count)
    (sym (ap (split_told sorts trees) (sym is) ∙ told ∙ ap split_of seen))

-- that there is none
no_split : (go : ℕ → List Assertion → Walked) (alone : ℕ → Walked) (all : List Assertion) (count : ℕ) (sorts : Sorts)
    (trees : List Tree) (s b : Seen) (o : Option BranchSplit) → s ≡ b → o ≡ None → split_told sorts trees o ≡ split_of s →
    by_parts go alone all (split_of b) count ≡ alone count
no_split go alone all count sorts trees s b o seen is told =
    ap (λ (p : Option Split). by_parts go alone all p count)
    (sym (ap (split_told sorts trees) (sym is) ∙ told ∙ ap split_of seen))

module _ (go : ℕ → List Assertion → Walked) (reach : Reach) (all : List Assertion) (count : ℕ) (sorts : Sorts) (trees : List Tree) (s : Seen)
    (o : Option BranchSplit) (seen : s ≡ seen_by sorts trees all) (is : o ≡ None) (told : split_told sorts trees o ≡ split_of s) where
  abbrev here : Seen
  here = seen_by sorts trees all
