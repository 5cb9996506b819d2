-- Where the candidate has the only change, the certificates of an output's goals close their branches.
use Rattle.sm_sided.proofs.Imports.{◌≡◌, ℕ, suc, ◌+◌, Bool, true, Some, None, slice_get, List, [], ◌∷◌, ◌++◌, map, length, refl, ap, sym, ◌∙◌, arith, and_from, append_assoc, length-map, Copy, O, A, B, M, Sorts, Sort, Num, Tree, same_tree, Assertion, Eq, Ne, same_tree_is, BranchFact, Formal, as_facts, Certificate, Next, Closed, Theories, first_bad, bad_line, in_one_way, in_no_way, Closes, keeps_goals, IsOnly, by_first, by_second, by_clash, by_turned, certificates_of, denied, AreClosed}
use Rattle.std.proofs.Common.{Option}
use Rattle.sm_term.specs.Assertions.{And}
use Rattle.sm_theory.specs.Lines.{followed, formula_in, Both, Sym, Close, Clash, equal_sides, unequal_sides}
use Rattle.sm_theory.specs.Lines as lines
use Rattle.sm_theory.specs.Equality.{or_other, turned_equation, turned_contrary, says_equal}
use Rattle.sm_theory.specs.Ways.{adds, adding, both_parts, closing_if, cannot_hold}
use Rattle.sm_sided.specs.WholeCertificates.{Change, OfA, OfB, OfBoth}

-- what stands behind other facts
at_behind : {X : Type 0} (xs ys : List X) (k m : ℕ) → m ≡ length xs + k → slice_get (xs ++ ys) m ≡ slice_get ys k
at_behind [] ys k m e = ap (slice_get ys) (let same : m ≡ k = omega arith in same)
at_behind (x ∷ xs) ys k m e =
    ap (slice_get (x ∷ (xs ++ ys))) (let next : m ≡ suc (length xs + k) = omega arith in next)
    ∙ at_behind xs ys k (length xs + k) refl

-- a term is itself
itself : (t u : Tree) → t ≡ u → same_tree t u ≡ true
itself t u e = (same_tree_is t u).1 e

-- of the facts on a branch the last ones are known: which of them a line names
pub record Names (xs ys : List BranchFact) (m : ℕ) (f : Assertion) : Type 0 where
  pub place : ℕ
  pub far : m ≡ length xs + place
  pub there : slice_get ys place ≡ Some (Formal f)

named : (xs ys : List BranchFact) (m : ℕ) (f : Assertion) → Names xs ys m f → slice_get (xs ++ ys) m ≡ Some (Formal f)
named xs ys m f n = at_behind xs ys n.place m n.far ∙ n.there

-- both parts of a conjunction are added
both_leads : (theories : Theories) (sorts : Sorts) (xs ys : List BranchFact) (m i : ℕ) (p q : Assertion) (c : Certificate) →
    Names xs ys m (And p q) →
    first_bad theories sorts (xs ++ (ys ++ Formal p ∷ Formal q ∷ [])) (suc i) c ≡ None →
    first_bad theories sorts (xs ++ ys) i (Next (Both m) c) ≡ None
both_leads theories sorts xs ys m i p q c names good =
    ap (λ (o : Option BranchFact). in_one_way (followed (followed o formula_in) both_parts) i
    (λ (way : List BranchFact). first_bad theories sorts ((xs ++ ys) ++ way) (suc i) c))
    (named xs ys m (And p q) names)
    ∙ ap (λ (facts : List BranchFact). first_bad theories sorts facts (suc i) c) (append_assoc xs ys (Formal p ∷ Formal q ∷ []))
    ∙ good

-- an equation is turned round
sym_leads : (sorts : Sorts) (xs ys : List BranchFact) (m i : ℕ) (sort : Sort) (t u : Tree) (c : Certificate) →
    Names xs ys m (Eq sort t u) →
    first_bad (adds sorts) sorts (xs ++ (ys ++ Formal (Eq sort u t) ∷ [])) (suc i) c ≡ None →
    first_bad (adds sorts) sorts (xs ++ ys) i (Next (Sym m) c) ≡ None
sym_leads sorts xs ys m i sort t u c names good =
    ap (λ (o : Option BranchFact). in_one_way
    (adding (or_other
    (or_other (followed (followed (followed o formula_in) equal_sides) turned_equation)
    (followed (followed (followed o formula_in) unequal_sides) turned_contrary))
    None)) i
    (λ (way : List BranchFact). first_bad (adds sorts) sorts ((xs ++ ys) ++ way) (suc i) c))
    (named xs ys m (Eq sort t u) names)
    ∙ ap (λ (facts : List BranchFact). first_bad (adds sorts) sorts facts (suc i) c) (append_assoc xs ys (Formal (Eq sort u t) ∷ []))
    ∙ good

-- a term that isn't itself can't be
close_shows : (theories : Theories) (sorts : Sorts) (xs ys : List BranchFact) (m i : ℕ) (sort : Sort) (t u : Tree) →
    Names xs ys m (Ne sort t u) → t ≡ u → first_bad theories sorts (xs ++ ys) i (Closed (Close m)) ≡ None
close_shows theories sorts xs ys m i sort t u names same =
    ap (λ (o : Option BranchFact). in_no_way (followed o (λ (k : BranchFact). closing_if (cannot_hold k))) i)
    (named xs ys m (Ne sort t u) names)
    ∙ ap (λ (b : Bool). in_no_way (closing_if b) i) (itself t u same)

-- an equation and its contrary can't both be
clash_shows : (theories : Theories) (sorts : Sorts) (xs ys : List BranchFact) (m n i : ℕ) (one other : Sort) (t u v w : Tree) →
    Names xs ys m (Eq one t u) → Names xs ys n (Ne other v w) → v ≡ t → w ≡ u →
    first_bad theories sorts (xs ++ ys) i (Closed (Clash m n)) ≡ None
clash_shows theories sorts xs ys m n i one other t u v w equal contrary left right =
    ap (λ (o : Option BranchFact). in_no_way (followed (followed (followed o formula_in) equal_sides)
    (λ (s : lines.Sides). closing_if (says_equal (followed (followed (slice_get (xs ++ ys) n) formula_in) unequal_sides) s.left s.right))) i)
    (named xs ys m (Eq one t u) equal)
    ∙ ap (λ (o : Option BranchFact). in_no_way
    (closing_if (says_equal (followed (followed o formula_in) unequal_sides) t u)) i)
    (named xs ys n (Ne other v w) contrary)
    ∙ ap (λ (b : Bool). in_no_way (closing_if b) i)
    (and_from (same_tree v t) (same_tree w u) (itself v t left) (itself w u right))

-- a certificate without splits in which no line is bad closes the branch
first_closes : (sorts : Sorts) (xs : List BranchFact) (n : ℕ) (sort : Sort) (t u : Tree) (q : Assertion) → n ≡ length xs → t ≡ u →
    Closes sorts (xs ++ Formal (And (Ne sort t u) q) ∷ []) (by_first n)
first_closes sorts xs n sort t u q e same =
    ap bad_line
    (both_leads (adds sorts) sorts xs (Formal (And (Ne sort t u) q) ∷ []) n 0 (Ne sort t u) q (Closed (Close (n + 1)))
    (record { place = 0; far = omega arith; there = refl })
    (close_shows (adds sorts) sorts xs (Formal (And (Ne sort t u) q) ∷ Formal (Ne sort t u) ∷ Formal q ∷ []) (n + 1) 1 sort t u
    (record { place = 1; far = omega arith; there = refl }) same))

second_closes : (sorts : Sorts) (xs : List BranchFact) (n : ℕ) (p : Assertion) (sort : Sort) (t u : Tree) → n ≡ length xs → t ≡ u →
    Closes sorts (xs ++ Formal (And p (Ne sort t u)) ∷ []) (by_second n)
second_closes sorts xs n p sort t u e same =
    ap bad_line
    (both_leads (adds sorts) sorts xs (Formal (And p (Ne sort t u)) ∷ []) n 0 p (Ne sort t u) (Closed (Close (n + 2)))
    (record { place = 0; far = omega arith; there = refl })
    (close_shows (adds sorts) sorts xs (Formal (And p (Ne sort t u)) ∷ Formal p ∷ Formal (Ne sort t u) ∷ []) (n + 2) 1 sort t u
    (record { place = 2; far = omega arith; there = refl }) same))

-- the branch of the third goal, with its parts
parted : Tree → Tree → Tree → Tree → List BranchFact
parted o a b m =
    Formal (And (Eq Num o a) (And (Eq Num a b) (Ne Num m o)))
    ∷ Formal (Eq Num o a)
    ∷ Formal (And (Eq Num a b) (Ne Num m o))
    ∷ Formal (Eq Num a b)
    ∷ Formal (Ne Num m o)
    ∷ []

all_lead : (sorts : Sorts) (xs : List BranchFact) (n : ℕ) (o a b m : Tree) (c : Certificate) → n ≡ length xs →
    first_bad (adds sorts) sorts (xs ++ parted o a b m) 2 c ≡ None →
    first_bad (adds sorts) sorts (xs ++ Formal (And (Eq Num o a) (And (Eq Num a b) (Ne Num m o))) ∷ []) 0
    (Next (Both n) (Next (Both (n + 2)) c)) ≡ None
unfolding parted
all_lead sorts xs n o a b m c e good =
    let second = And (Eq Num a b) (Ne Num m o) in
    let whole = And (Eq Num o a) second in
    both_leads (adds sorts) sorts xs (Formal whole ∷ []) n 0 (Eq Num o a) second (Next (Both (n + 2)) c)
    (record { place = 0; far = omega arith; there = refl })
    (both_leads (adds sorts) sorts xs (Formal whole ∷ Formal (Eq Num o a) ∷ Formal second ∷ []) (n + 2) 1 (Eq Num a b) (Ne Num m o) c
    (record { place = 2; far = omega arith; there = refl }) good)

clash_closes : (sorts : Sorts) (xs : List BranchFact) (n : ℕ) (o a b m : Tree) → n ≡ length xs → m ≡ a → o ≡ b →
    Closes sorts (xs ++ Formal (And (Eq Num o a) (And (Eq Num a b) (Ne Num m o))) ∷ []) (by_clash n)
unfolding parted
clash_closes sorts xs n o a b m e left right =
    ap bad_line
    (all_lead sorts xs n o a b m (Closed (Clash (n + 3) (n + 4))) e
    (clash_shows (adds sorts) sorts xs (parted o a b m) (n + 3) (n + 4) 2 Num Num a b m o
    (record { place = 3; far = omega arith; there = refl })
    (record { place = 4; far = omega arith; there = refl }) left right))

turned_closes : (sorts : Sorts) (xs : List BranchFact) (n k : ℕ) (o a b m t u : Tree) → n ≡ length xs →
    slice_get (parted o a b m) k ≡ Some (Formal (Eq Num t u)) → m ≡ u → o ≡ t →
    Closes sorts (xs ++ Formal (And (Eq Num o a) (And (Eq Num a b) (Ne Num m o))) ∷ []) (by_turned n (n + k))
unfolding parted
turned_closes sorts xs n k o a b m t u e there left right =
    ap bad_line
    (all_lead sorts xs n o a b m (Next (Sym (n + k)) (Closed (Clash (n + 5) (n + 4)))) e
    (sym_leads sorts xs (parted o a b m) (n + k) 2 Num t u (Closed (Clash (n + 5) (n + 4)))
    (record { place = k; far = omega arith; there = there })
    (clash_shows (adds sorts) sorts xs (parted o a b m ++ Formal (Eq Num u t) ∷ []) (n + 5) (n + 4) 3 Num Num u t m o
    (record { place = 5; far = omega arith; there = refl })
    (record { place = 4; far = omega arith; there = refl }) left right)))

-- the three goals of an output, before other goals
pub output_closed : (sorts : Sorts) (facts : List Assertion) (change : Change) (v : Copy → Tree) → IsOnly v change →
    (branches : List (List BranchFact)) (cs : List Certificate) → AreClosed sorts branches cs →
    AreClosed sorts (map (denied facts) (keeps_goals v) ++ branches) (certificates_of change (length facts) ++ cs)
unfolding parted
output_closed sorts facts OfA v only branches cs rest =
    let n = length facts in
    let xs = as_facts facts in
    let e : n ≡ length xs = sym (length-map facts Formal) in (
      second_closes sorts xs n (Ne Num (v O) (v A)) Num (v M) (v A) e only.1,
      (
        first_closes sorts xs n Num (v O) (v B) (Ne Num (v M) (v B)) e (sym only.0),
        (clash_closes sorts xs n (v O) (v A) (v B) (v M) e only.1 (sym only.0), rest),
      ),
    )
output_closed sorts facts OfB v only branches cs rest =
    let n = length facts in
    let xs = as_facts facts in
    let e : n ≡ length xs = sym (length-map facts Formal) in (
      first_closes sorts xs n Num (v O) (v A) (Ne Num (v M) (v A)) e (sym only.0),
      (
        second_closes sorts xs n (Ne Num (v O) (v B)) Num (v M) (v B) e only.1,
        (turned_closes sorts xs n 3 (v O) (v A) (v B) (v M) (v A) (v B) e refl only.1 (sym only.0), rest),
      ),
    )
output_closed sorts facts OfBoth v only branches cs rest =
    let n = length facts in
    let xs = as_facts facts in
    let e : n ≡ length xs = sym (length-map facts Formal) in (
      second_closes sorts xs n (Ne Num (v O) (v A)) Num (v M) (v A) e only.0,
      (
        second_closes sorts xs n (Ne Num (v O) (v B)) Num (v M) (v B) e (only.0 ∙ only.1),
        (turned_closes sorts xs n 1 (v O) (v A) (v B) (v M) (v O) (v A) e refl only.0 refl, rest),
      ),
    )
