-- Lines that add facts, and then a line that closes the branch, refute it.
use Rattle.sm_certify.proofs.Imports.{◌≡◌, ℕ, zero, suc, ◌+◌, ◌<◌, Bool, true, not, ℤ, List, [], ◌∷◌, ◌++◌, map, length, Option, Some, None, slice_get, refl, sym, ap, subst, ◌∙◌, arith, int_eq, append-nil, map-append, Sorts, Sort, Num, Tree, tree_at, TermId, Assertion, same_tree_is, BranchFact, Formal, CertificateLine, Both, Either, Cases, Order, Refl, Sym, Trans, Subst, Cong, Apart, Hit, Miss, Lin, Elim, Tight, Exact, Close, Clash, followed, formula_in, equal_sides, unequal_sides, equation_at, contrary_at, Sides, says_equal, formula_if, or_other, compared_forms, Ways, ways, ways_with, adds, adding, closing_if, line_in, IsLineWithin, CertLine, Closed, splits_above, in_one_way, in_no_way, first_bad, lines_before, AreLinesWithin, added_by, IsLineOf, AreLinesOf, Refutes, AreBelow, get_in_first, one_thing}
use Rattle.std.proofs.Common.{append_assoc, length-append}
use Rattle.sm_term.specs.Assertions as plain
use Rattle.sm_theory.specs.declared.line.CertLine.TheVariants as line
use Rattle.sm_theory.specs.Lines.{Same}
use Rattle.sm_cc.proofs.StandingLemmas.{both}
use Rattle.sm_terms.specs.Listing.{numbers_of}

-- a line that adds a fact goes on in one way
pub one_way : (sorts : Sorts) (facts : List BranchFact) (l : CertificateLine) (k : BranchFact) → adds sorts facts l ≡ Some k →
    ways_with sorts facts (adds sorts facts l) l ≡ Some ((k ∷ []) ∷ [])
one_way sorts facts (Both n) k e = absurd cc
one_way sorts facts (Either n) k e = absurd cc
one_way sorts facts (Cases t u) k e = absurd cc
one_way sorts facts (Order n) k e = absurd cc
one_way sorts facts (Refl t) k e = ap adding e
one_way sorts facts (Sym n) k e = ap adding e
one_way sorts facts (Trans m n) k e = ap adding e
one_way sorts facts (Subst m n) k e = ap adding e
one_way sorts facts (Cong t u ns) k e = ap adding e
one_way sorts facts (Same t u) k e = ap adding e
one_way sorts facts (Apart t u) k e = ap adding e
one_way sorts facts (Hit t n) k e = ap adding e
one_way sorts facts (Miss t u n) k e = ap adding e
one_way sorts facts (Lin n) k e = ap adding e
one_way sorts facts (Elim m n t) k e = ap adding e
one_way sorts facts (Tight n) k e = ap adding e
one_way sorts facts (Exact n) k e = ap adding e
one_way sorts facts (Close n) k e = absurd cc
one_way sorts facts (Clash m n) k e = absurd cc

module _ (sorts : Sorts) where
  -- what the first of lines adds, and what the others do
  abbrev FirstAdded : List BranchFact → CertificateLine → List CertificateLine → List BranchFact → Type 0
  FirstAdded facts l ls ks =
      (k : BranchFact) × (more : List BranchFact) × (adds sorts facts l ≡ Some k) × (added_by sorts (facts ++ k ∷ []) ls ≡ Some more)
      × (k ∷ more ≡ ks)

  first_added : (facts : List BranchFact) (l : CertificateLine) (ls : List CertificateLine) (ks : List BranchFact) →
      added_by sorts facts (l ∷ ls) ≡ Some ks → FirstAdded facts l ls ks
  first_added facts l ls ks e = by (adds sorts facts l) refl e
    where
      inner : (k : BranchFact) → adds sorts facts l ≡ Some k → (o : Option (List BranchFact)) → added_by sorts (facts ++ k ∷ []) ls ≡ o →
          followed o (λ (ks : List BranchFact). Some (k ∷ ks)) ≡ Some ks → FirstAdded facts l ls ks
      inner k is None also e = absurd cc
      inner k is (Some more) also e = (k, more, is, also, one_thing (k ∷ more) ks e)

      by : (o : Option BranchFact) → adds sorts facts l ≡ o →
          followed o (λ (k : BranchFact).
          followed (added_by sorts (facts ++ k ∷ []) ls) (λ (ks : List BranchFact). Some (k ∷ ks))) ≡ Some ks → FirstAdded facts l ls ks
      by None is e = absurd cc
      by (Some k) is e = inner k is (added_by sorts (facts ++ k ∷ []) ls) refl e

  -- each line adds one fact
  pub added_count : (facts : List BranchFact) (ls : List CertificateLine) (ks : List BranchFact) → added_by sorts facts ls ≡ Some ks →
      length ks ≡ length ls
  added_count facts [] ks e = ap length (sym (one_thing [] ks e))
  added_count facts (l ∷ ls) ks e =
      let first = first_added facts l ls ks e in
      ap length (sym first.4) ∙ ap suc (added_count (facts ++ first.0 ∷ []) ls first.1 first.3)

  -- a line more adds a fact more
  pub added_more : (facts : List BranchFact) (ls : List CertificateLine) (ks : List BranchFact) (l : CertificateLine) (k : BranchFact) →
      added_by sorts facts ls ≡ Some ks → adds sorts (facts ++ ks) l ≡ Some k → added_by sorts facts (ls ++ l ∷ []) ≡ Some (ks ++ k ∷ [])
  added_more facts [] ks l k e f =
      let none : [] ≡ ks = one_thing [] ks e in
      let here : adds sorts facts l ≡ Some k =
      ap (λ (gs : List BranchFact). adds sorts gs l) (sym (append-nil facts))
      ∙ ap (λ (gs : List BranchFact). adds sorts (facts ++ gs) l) none ∙ f in
      ap (λ (o : Option BranchFact). followed o (λ (k : BranchFact). Some (k ∷ []))) here
      ∙ ap (λ (gs : List BranchFact). Some (gs ++ k ∷ [])) none
  added_more facts (m ∷ ls) ks l k e f =
      let first = first_added facts m ls ks e in
      let later : adds sorts ((facts ++ first.0 ∷ []) ++ first.1) l ≡ Some k =
      ap (λ (gs : List BranchFact). adds sorts gs l) (append_assoc facts (first.0 ∷ []) first.1)
      ∙ ap (λ (gs : List BranchFact). adds sorts (facts ++ gs) l) first.4 ∙ f in
      let rest = added_more (facts ++ first.0 ∷ []) ls first.1 l k first.3 later in
      ap (λ (o : Option BranchFact).
      followed o (λ (k : BranchFact).
      followed (added_by sorts (facts ++ k ∷ []) (ls ++ l ∷ [])) (λ (ks : List BranchFact). Some (k ∷ ks)))) first.2
      ∙ ap (λ (o : Option (List BranchFact)). followed o (λ (ks : List BranchFact). Some (first.0 ∷ ks))) rest
      ∙ ap (λ (gs : List BranchFact). Some (gs ++ k ∷ [])) first.4

  -- lines that add facts, and one that closes the branch then
  pub refuted_by : (trees : List Tree) (ls : List CertLine) (last : CertLine) (facts ks : List BranchFact) →
      added_by sorts facts (map (line_in trees) ls) ≡ Some ks → ways sorts (facts ++ ks) (line_in trees last) ≡ Some [] →
      Refutes sorts facts (lines_before trees ls (Closed (line_in trees last)))
  refuted_by trees [] last facts ks e closes n =
      let none : [] ≡ ks = one_thing [] ks e in
      let here : ways sorts facts (line_in trees last) ≡ Some [] =
      ap (λ (gs : List BranchFact). ways sorts gs (line_in trees last)) (sym (append-nil facts))
      ∙ ap (λ (gs : List BranchFact). ways sorts (facts ++ gs) (line_in trees last)) none ∙ closes in
      ap (λ (w : Ways). in_no_way w n) here
  refuted_by trees (l ∷ ls) last facts ks e closes n =
      let first = first_added facts (line_in trees l) (map (line_in trees) ls) ks e in
      let later : ways sorts ((facts ++ first.0 ∷ []) ++ first.1) (line_in trees last) ≡ Some [] =
      ap (λ (gs : List BranchFact). ways sorts gs (line_in trees last)) (append_assoc facts (first.0 ∷ []) first.1)
      ∙ ap (λ (gs : List BranchFact). ways sorts (facts ++ gs) (line_in trees last)) first.4 ∙ closes in
      let c = lines_before trees ls (Closed (line_in trees last)) in
      ap (λ (w : Ways). in_one_way w n (λ (way : List BranchFact). first_bad (adds sorts) sorts (facts ++ way) (suc n) c))
      (one_way sorts facts (line_in trees l) first.0 first.2)
      ∙ refuted_by trees ls last (facts ++ first.0 ∷ []) first.1 first.3 later (suc n)

-- there is no split
pub no_splits : (trees : List Tree) (ls : List CertLine) (l : CertificateLine) → splits_above (lines_before trees ls (Closed l)) ≡ 0
no_splits trees [] l = refl
no_splits trees (m ∷ ls) l = no_splits trees ls l

-- a term that is listed is one of the table
listed_below : (count : ℕ) (terms : List TermId) → AreBelow count (numbers_of terms) → (t : TermId) (n : ℕ) → slice_get terms n ≡ Some t →
    t.0 < count
listed_below count [] h t n e = absurd cc
listed_below count (u ∷ terms) h t zero e = subst (λ (v : TermId). v.0 < count) (one_thing u t e) h.0
listed_below count (u ∷ terms) h t (suc n) e = listed_below count terms h.1 t n e

module _ (count : ℕ) (terms : List TermId) (below : AreBelow count (numbers_of terms)) where
  -- a line of listed terms names only terms of the table
  line_within : (l : CertLine) → IsLineOf terms l → IsLineWithin count l
  line_within (line.Both n) h = tt
  line_within (line.Either n) h = tt
  line_within (line.Cases t u) h = absurd h
  line_within (line.Order n) h = tt
  line_within (line.Refl t) h = listed_below count terms below t h.0 h.1
  line_within (line.Sym n) h = tt
  line_within (line.Trans m n) h = tt
  line_within (line.Subst m n) h = tt
  line_within (line.Cong t u ns) h = (listed_below count terms below t h.0.0 h.0.1, listed_below count terms below u h.1.0 h.1.1)
  line_within (line.Same t u) h = (listed_below count terms below t h.0.0 h.0.1, listed_below count terms below u h.1.0 h.1.1)
  line_within (line.Apart t u) h = (listed_below count terms below t h.0.0 h.0.1, listed_below count terms below u h.1.0 h.1.1)
  line_within (line.Hit t n) h = listed_below count terms below t h.0 h.1
  line_within (line.Miss t u n) h = (listed_below count terms below t h.0.0 h.0.1, listed_below count terms below u h.1.0 h.1.1)
  line_within (line.Lin n) h = tt
  line_within (line.Elim m n t) h = absurd h
  line_within (line.Tight n) h = tt
  line_within (line.Exact n) h = tt
  line_within (line.Close n) h = tt
  line_within (line.Clash m n) h = tt

  -- lines of listed terms name only terms of the table
  pub lines_within : (ls : List CertLine) → AreLinesOf terms ls → AreLinesWithin count ls
  lines_within [] h = tt
  lines_within (l ∷ ls) h = (line_within l h.0, lines_within ls h.1)

-- one line more
pub within_more : (count : ℕ) (ls : List CertLine) (l : CertLine) → AreLinesWithin count ls → IsLineWithin count l →
    AreLinesWithin count (ls ++ l ∷ [])
within_more count [] l h k = (k, tt)
within_more count (m ∷ ls) l h k = (h.0, within_more count ls l h.1 k)

get_here : {T : Type 0} (xs : List T) (x : T) (n : ℕ) → n ≡ length xs → slice_get (xs ++ x ∷ []) n ≡ Some x
get_here [] x zero e = refl
get_here [] x (suc n) e = absurd (omega (arith, e))
get_here (y ∷ xs) x zero e = absurd (omega (arith, e))
get_here (y ∷ xs) x (suc n) e = let less : n ≡ length xs = omega (arith, e) in get_here xs x n less

-- an equation and its contrary close a branch
clash_closes : (sorts : Sorts) (facts : List BranchFact) (m n : ℕ) (one other : Sort) (t u : Tree) →
    slice_get facts m ≡ Some (Formal (plain.Eq one t u)) → slice_get facts n ≡ Some (Formal (plain.Ne other t u)) →
    ways sorts facts (Clash m n) ≡ Some []
clash_closes sorts facts m n one other t u e f =
    let at_m : equation_at facts m ≡ Some (record { sort = one; left = t; right = u }) =
    ap (λ (o : Option BranchFact). followed (followed o formula_in) equal_sides) e in
    let at_n : contrary_at facts n ≡ Some (record { sort = other; left = t; right = u }) =
    ap (λ (o : Option BranchFact). followed (followed o formula_in) unequal_sides) f in
    let tells : says_equal (contrary_at facts n) t u ≡ true =
    ap (λ (o : Option Sides). says_equal o t u) at_n ∙ both ((same_tree_is t t).1 refl) ((same_tree_is u u).1 refl) in
    ap (λ (o : Option Sides). followed o (λ (s : Sides). closing_if (says_equal (contrary_at facts n) s.left s.right))) at_m
    ∙ ap closing_if tells

module _ (sorts : Sorts) (trees : List Tree) (facts : List BranchFact) (ls : List CertLine) (before : List BranchFact) (one : Sort)
    (t u : Tree)
    (added : added_by sorts facts (map (line_in trees) ls) ≡ Some (before ++ Formal (plain.Eq one t u) ∷ [])) where
  abbrev goal : BranchFact
  goal = Formal (plain.Eq one t u)

  -- how many facts there are before the last
  pub counted : length before + 1 ≡ length ls
  counted =
      let lines = length-map (line_in trees) ls in
      let parts : length (before ++ goal ∷ []) ≡ length before + 1 = length-append before (goal ∷ []) in
      let all = added_count sorts facts (map (line_in trees) ls) (before ++ goal ∷ []) added in
      omega (arith, lines, parts, all)
    where
      length-map : (f : CertLine → CertificateLine) (ls : List CertLine) → length (map f ls) ≡ length ls
      length-map f [] = refl
      length-map f (l ∷ ls) = ap suc (length-map f ls)

  -- the equation stands last
  stands_last : (m : ℕ) → m + 1 ≡ length facts + length ls → slice_get (facts ++ (before ++ goal ∷ [])) m ≡ Some goal
  stands_last m is =
      let count = counted in
      let all : length (facts ++ before) ≡ length facts + length before = length-append facts before in
      let here : m ≡ length (facts ++ before) = omega (arith, is, count, all) in
      ap (λ (gs : List BranchFact). slice_get gs m) (sym (append_assoc facts before (goal ∷ [])))
      ∙ get_here (facts ++ before) goal m here

  -- lines that explain an equation whose contrary is a fact
  pub contrary_refuted : (m n : ℕ) (other : Sort) → m + 1 ≡ length facts + length ls →
      slice_get facts n ≡ Some (Formal (plain.Ne other t u)) →
      Refutes sorts facts (lines_before trees ls (Closed (Clash m n)))
  contrary_refuted m n other is at =
      refuted_by sorts trees ls (line.Clash m n) facts (before ++ goal ∷ []) added
      (clash_closes sorts (facts ++ (before ++ goal ∷ [])) m n one other t u (stands_last m is)
      (get_in_first facts (before ++ goal ∷ []) n (Formal (plain.Ne other t u)) at))

  -- lines that explain an equation of numbers whose forms differ in the constant alone
  pub torn_refuted : (m n : ℕ) (a b : TermId) → tree_at trees a.0 ≡ t → tree_at trees b.0 ≡ u → m + 1 ≡ length facts + length ls →
      n ≡ length facts + length ls → compared_forms sorts t u (λ (y z : ℤ). not (int_eq y z)) ≡ true →
      Refutes sorts facts (lines_before trees (ls ++ line.Apart a b ∷ []) (Closed (Clash m n)))
  torn_refuted m n a b at_a at_b is also torn =
      let first = before ++ goal ∷ [] in
      let apart : BranchFact = Formal (plain.Ne Num t u) in
      let says : adds sorts (facts ++ first) (line_in trees (line.Apart a b)) ≡ Some apart =
      ap (λ (v : Tree). adds sorts (facts ++ first) (Apart v (tree_at trees b.0))) at_a
      ∙ ap (λ (v : Tree). adds sorts (facts ++ first) (Apart t v)) at_b
      ∙ ap (λ (x : Bool). or_other (formula_if x (plain.Ne Num t u)) None) torn in
      let lines : map (line_in trees) (ls ++ line.Apart a b ∷ []) ≡ map (line_in trees) ls ++ line_in trees (line.Apart a b) ∷ [] =
      map-append (line_in trees) ls (line.Apart a b ∷ []) in
      let more = ap (added_by sorts facts) lines
      ∙ added_more sorts facts (map (line_in trees) ls) first (line_in trees (line.Apart a b)) apart added says in
      let count = counted in
      let long : length (facts ++ first) ≡ length facts + length first = length-append facts first in
      let parts : length first ≡ length before + 1 = length-append before (goal ∷ []) in
      let here : n ≡ length (facts ++ first) = omega (arith, also, count, long, parts) in
      let whole : facts ++ (first ++ apart ∷ []) ≡ (facts ++ first) ++ apart ∷ [] = sym (append_assoc facts first (apart ∷ [])) in
      let equation : slice_get (facts ++ (first ++ apart ∷ [])) m ≡ Some goal =
      ap (λ (gs : List BranchFact). slice_get gs m) whole ∙ get_in_first (facts ++ first) (apart ∷ []) m goal (stands_last m is) in
      let contrary : slice_get (facts ++ (first ++ apart ∷ [])) n ≡ Some apart =
      ap (λ (gs : List BranchFact). slice_get gs n) whole ∙ get_here (facts ++ first) apart n here in
      refuted_by sorts trees (ls ++ line.Apart a b ∷ []) (line.Clash m n) facts (first ++ apart ∷ []) more
      (clash_closes sorts (facts ++ (first ++ apart ∷ [])) m n one Num t u equation contrary)
