-- A fact that says nothing is of no use to a certificate: what closes the branch closes each other
-- branch on which another fact stands in its place.
use Rattle.sm_solve.proofs.Imports.{◌≡◌, ◌≢◌, ◌⊎◌, ℕ, zero, suc, ◌+◌, Bool, true, false, ◌&&◌, nat_eq, slice_get, Option, None, List, [], ◌∷◌, ◌++◌, length, inl, inr, refl, ap, sym, ◌∙◌, subst, arith, IsFalse, length-append, and_parts, and_from, eqb-true, Sorts, Num, Linear, tightened, Tree, Read, Assertion, tree_sort, same_tree, arguments_of, same_head, BranchFact, Formal, Sum, as_facts, reads_all, CertificateLine, Both, Either, Cases, Order, Refl, Sym, Trans, Subst, Cong, Same, Apart, Hit, Miss, Lin, Elim, Tight, Close, Clash, followed, Sides, formula_in, form_in, equal_sides, unequal_sides, form_at, equation_at, contrary_at, formula_if, turned_equation, turned_contrary, or_other, chained, substituted, says_equal, say_equal, is_inhabited_list, equality_adds, arithmetic_adds, form_of_comparison, cancelled, Ways, adding, closing_if, both_parts, either_part, ordered, cannot_hold, ways_with, adds, Certificate, Closed, lines_in, in_one_way, in_no_way, in_two_ways, first_bad, NamesWhatItReads, certificate_in, CertTree, ClosesIn, adding_gives, closing_gives}
use Rattle.std.proofs.Common.{Some, eq-eqb}
use Rattle.sm_term.specs.Assertions.{Yes, Eq}
use Rattle.sm_theory.specs.Elements.{Written}
use Rattle.sm_theory.proofs.FactsLemmas.{Gives, followed_gives, gives_itself}
use Rattle.sm_theory.proofs.EqualityLemmas.{says_moves, formula_if_moves}
use Rattle.sm_cert.specs.Certificates.{Next, Split}
use Rattle.sm_cert.proofs.CertificateMoves.{both_none, parts_none}
use Rattle.sm_theory.proofs.TheoriesLemmas.{first_alone}
use Rattle.sm_theory.proofs.ElementsLemmas.{read_gives}

-- the second has what the first has, or the first says nothing
abbrev MayGive : Option BranchFact → Option BranchFact → Type 0
MayGive o p = (o ≡ Some (Formal Yes)) ⊎ Gives o p

-- facts stand under their numbers on another branch, but for such as say nothing
record Replaces (facts others : List BranchFact) : Type 0 where
  many : length others ≡ length facts
  stand : (n : ℕ) → MayGive (slice_get facts n) (slice_get others n)

-- what is made of a fact that says more is made of it on the other branch
looked : {T : Type 0} (F : Option BranchFact → Option T) (o p : Option BranchFact) → F None ≡ None → F (Some (Formal Yes)) ≡ None →
    MayGive o p → Gives (F o) (F p)
looked F o p none nothing (inl e) k h = absurd (let wrong : F (Some (Formal Yes)) ≡ Some k = ap F (sym e) ∙ h in cc)
looked F None p none nothing (inr now) k h = absurd cc
looked F (Some f) p none nothing (inr now) k h = subst (λ (q : Option BranchFact). F q ≡ Some k) (sym (now f refl)) h

-- the sides of an equation that may be there
abbrev equation_of : Option BranchFact → Option Sides
equation_of o = followed (followed o formula_in) equal_sides

-- the sides of a contrary that may be there
abbrev contrary_of : Option BranchFact → Option Sides
contrary_of o = followed (followed o formula_in) unequal_sides

-- the other way round, of what may be there
abbrev turned : Option BranchFact → Option BranchFact
turned o = or_other (followed (equation_of o) turned_equation) (followed (contrary_of o) turned_contrary)

-- what is told of fact n is told of it on the other branch
at_number : {T : Type 0} (F : Option BranchFact → Option T) (facts others : List BranchFact) (n : ℕ) → Replaces facts others →
    F None ≡ None → F (Some (Formal Yes)) ≡ None → Gives (F (slice_get facts n)) (F (slice_get others n))
at_number F facts others n same none nothing = looked F (slice_get facts n) (slice_get others n) none nothing (same.stand n)

-- the sides of the equation that is fact n are those on the other branch
equations : (facts others : List BranchFact) (n : ℕ) → Replaces facts others → Gives (equation_at facts n) (equation_at others n)
equations facts others n same = at_number equation_of facts others n same refl refl

-- those of a contrary
contraries : (facts others : List BranchFact) (n : ℕ) → Replaces facts others → Gives (contrary_at facts n) (contrary_at others n)
contraries facts others n same = at_number contrary_of facts others n same refl refl

-- the form that is fact n is that on the other branch
forms : (facts others : List BranchFact) (n : ℕ) → Replaces facts others → Gives (form_at facts n) (form_at others n)
forms facts others n same = at_number (λ (o : Option BranchFact). followed o form_in) facts others n same refl refl

-- facts that say that terms are equal say it on the other branch
say_there : (facts others : List BranchFact) (ns : List ℕ) (ts us : List Tree) → Replaces facts others →
    say_equal facts ns ts us ≡ true → say_equal others ns ts us ≡ true
say_there facts others [] [] [] same h = refl
say_there facts others (n ∷ ns) (t ∷ ts) (u ∷ us) same h =
    let p = and_parts (says_equal (equation_at facts n) t u) (say_equal facts ns ts us) h in
    and_from (says_equal (equation_at others n) t u) (say_equal others ns ts us)
    (says_moves (equation_at facts n) (equation_at others n) t u (equations facts others n same) p.0)
    (say_there facts others ns ts us same p.1)
say_there facts others ns ts us same h = absurd cc

-- a test on the facts that is passed with two others is passed on the other branch
third_passes : (a b c d : Bool) → (c ≡ true → d ≡ true) → (a && (b && c)) ≡ true → (a && (b && d)) ≡ true
third_passes a b c d passes h =
    let p = and_parts a (b && c) h in
    let q = and_parts b c p.1 in
    and_from a (b && d) p.0 (and_from b d q.0 (passes q.1))

-- the first of two tests
first_passes : (a b c : Bool) → (a ≡ true → b ≡ true) → (a && c) ≡ true → (b && c) ≡ true
first_passes a b c passes h = let p = and_parts a c h in and_from b c (passes p.0) p.1

-- what theories add of a line that doesn't read all facts they add on the other branch
adds_there : (sorts : Sorts) (facts others : List BranchFact) (line : CertificateLine) → IsFalse (reads_all line) → Replaces facts others →
    Gives (adds sorts facts line) (adds sorts others line)
adds_there sorts facts others (Refl t) few same k h = h
adds_there sorts facts others (Sym n) few same k h =
    at_number (λ (o : Option BranchFact). or_other (turned o) None) facts others n same refl refl k h
adds_there sorts facts others (Trans i j) few same k h =
    first_alone (equality_adds sorts facts (Trans i j)) (equality_adds sorts others (Trans i j))
    (followed_gives (equation_at facts i) (equation_at others i) (λ (s : Sides). followed (equation_at facts j) (chained s))
    (λ (s : Sides). followed (equation_at others j) (chained s)) (equations facts others i same)
    (λ (s : Sides). followed_gives (equation_at facts j) (equation_at others j) (chained s) (chained s) (equations facts others j same)
    (λ (r : Sides). gives_itself (chained s r))))
    k h
adds_there sorts facts others (Subst i j) few same k h =
    first_alone (equality_adds sorts facts (Subst i j)) (equality_adds sorts others (Subst i j))
    (followed_gives (contrary_at facts i) (contrary_at others i) (λ (s : Sides). followed (equation_at facts j) (substituted s))
    (λ (s : Sides). followed (equation_at others j) (substituted s)) (contraries facts others i same)
    (λ (s : Sides). followed_gives (equation_at facts j) (equation_at others j) (substituted s) (substituted s)
    (equations facts others j same) (λ (r : Sides). gives_itself (substituted s r))))
    k h
adds_there sorts facts others (Cong t u ns) few same k h =
    let here = say_equal facts ns (arguments_of t) (arguments_of u) in
    let there = say_equal others ns (arguments_of t) (arguments_of u) in
    first_alone (equality_adds sorts facts (Cong t u ns)) (equality_adds sorts others (Cong t u ns))
    (formula_if_moves (is_inhabited_list ns && (same_head t u && here)) (is_inhabited_list ns && (same_head t u && there))
    (Eq (tree_sort sorts t) t u)
    (third_passes (is_inhabited_list ns) (same_head t u) here there
    (say_there facts others ns (arguments_of t) (arguments_of u) same)))
    k h
adds_there sorts facts others (Same t u) few same k h = h
adds_there sorts facts others (Apart t u) few same k h = h
adds_there sorts facts others (Lin n) few same k h =
    at_number (λ (o : Option BranchFact). or_other (followed (followed o formula_in) form_of_comparison) None) facts others n same refl refl
    k h
adds_there sorts facts others (Elim i j t) few same k h =
    first_alone (arithmetic_adds sorts facts (Elim i j t)) (arithmetic_adds sorts others (Elim i j t))
    (followed_gives (form_at facts i) (form_at others i) (λ (f : Linear Tree). followed (form_at facts j) (cancelled t f))
    (λ (f : Linear Tree). followed (form_at others j) (cancelled t f)) (forms facts others i same)
    (λ (f : Linear Tree). followed_gives (form_at facts j) (form_at others j) (cancelled t f) (cancelled t f) (forms facts others j same)
    (λ (g : Linear Tree). gives_itself (cancelled t f g))))
    k h
adds_there sorts facts others (Tight n) few same k h =
    at_number (λ (o : Option BranchFact).
    or_other (followed (followed o form_in) (λ (f : Linear Tree). Some (Sum (tightened f)))) None) facts others n same refl refl k h
adds_there sorts facts others (Hit t n) few same k h =
    read_gives t (λ (w : Written) (j : Tree). formula_if (says_equal (equation_at facts n) w.index j) (Eq Num t w.element))
    (λ (w : Written) (j : Tree). formula_if (says_equal (equation_at others n) w.index j) (Eq Num t w.element))
    (λ (w : Written) (j : Tree).
    formula_if_moves (says_equal (equation_at facts n) w.index j) (says_equal (equation_at others n) w.index j) (Eq Num t w.element)
    (says_moves (equation_at facts n) (equation_at others n) w.index j (equations facts others n same)))
    k h
adds_there sorts facts others (Miss t u n) few same k h =
    read_gives t
    (λ (w : Written) (j : Tree).
    formula_if (says_equal (contrary_at facts n) w.index j && same_tree u (Read w.before j)) (Eq Num t u))
    (λ (w : Written) (j : Tree).
    formula_if (says_equal (contrary_at others n) w.index j && same_tree u (Read w.before j)) (Eq Num t u))
    (λ (w : Written) (j : Tree).
    formula_if_moves (says_equal (contrary_at facts n) w.index j && same_tree u (Read w.before j))
    (says_equal (contrary_at others n) w.index j && same_tree u (Read w.before j)) (Eq Num t u)
    (first_passes (says_equal (contrary_at facts n) w.index j) (says_equal (contrary_at others n) w.index j) (same_tree u (Read w.before j))
    (says_moves (contrary_at facts n) (contrary_at others n) w.index j (contraries facts others n same))))
    k h
adds_there sorts facts others line few same k h = absurd cc

-- the ways in which the other branch goes on are the same
ways_there : (sorts : Sorts) (facts others : List BranchFact) (added other : Option BranchFact) (line : CertificateLine) →
    Replaces facts others → Gives added other → Gives (ways_with sorts facts added line) (ways_with sorts others other line)
ways_there sorts facts others added other (Both n) same now to h =
    at_number (λ (o : Option BranchFact). followed (followed o formula_in) both_parts) facts others n same refl refl to h
ways_there sorts facts others added other (Either n) same now to h =
    at_number (λ (o : Option BranchFact). followed (followed o formula_in) either_part) facts others n same refl refl to h
ways_there sorts facts others added other (Cases t u) same now to h = h
ways_there sorts facts others added other (Order n) same now to h =
    at_number (λ (o : Option BranchFact). followed (contrary_of o) ordered) facts others n same refl refl to h
ways_there sorts facts others added other (Close n) same now to h =
    at_number (λ (o : Option BranchFact). followed o (λ (k : BranchFact). closing_if (cannot_hold k))) facts others n same refl refl to h
ways_there sorts facts others added other (Clash i j) same now to h =
    followed_gives (equation_at facts i) (equation_at others i)
    (λ (s : Sides). closing_if (says_equal (contrary_at facts j) s.left s.right))
    (λ (s : Sides). closing_if (says_equal (contrary_at others j) s.left s.right)) (equations facts others i same)
    (λ (s : Sides).
    closing_gives (says_equal (contrary_at facts j) s.left s.right) (says_equal (contrary_at others j) s.left s.right)
    (says_moves (contrary_at facts j) (contrary_at others j) s.left s.right (contraries facts others j same)))
    to h
ways_there sorts facts others added other line same now to h = adding_gives added other now to h

-- facts behind both
replaces_more : (facts others way : List BranchFact) → Replaces facts others → Replaces (facts ++ way) (others ++ way)
replaces_more facts others way same = record {
  many = simp length-append (let many = same.many in omega arith);
  stand = of facts others same.many same.stand;
}
  where
    of : (fs gs : List BranchFact) → length gs ≡ length fs → ((n : ℕ) → MayGive (slice_get fs n) (slice_get gs n)) →
        (n : ℕ) → MayGive (slice_get (fs ++ way) n) (slice_get (gs ++ way) n)
    of [] [] many stand n = inr (gives_itself (slice_get way n))
    of [] (g ∷ gs) many stand n = absurd (omega arith)
    of (f ∷ fs) [] many stand n = absurd (omega arith)
    of (f ∷ fs) (g ∷ gs) many stand zero = stand zero
    of (f ∷ fs) (g ∷ gs) many stand (suc n) = of fs gs (omega arith) (λ (m : ℕ). stand (suc m)) n

-- a line that goes on in one way does so there
one_there : (v w : Ways) (n : ℕ) (next after : List BranchFact → Option ℕ) → Gives v w →
    ((way : List BranchFact) → next way ≡ None → after way ≡ None) → in_one_way v n next ≡ None → in_one_way w n after ≡ None
one_there None w n next after same later e = absurd cc
one_there (Some []) w n next after same later e = absurd cc
one_there (Some (way ∷ [])) w n next after same later e =
    subst (λ (u : Ways). in_one_way u n after ≡ None) (sym (same (way ∷ []) refl)) (later way e)
one_there (Some (way ∷ other ∷ rest)) w n next after same later e = absurd cc

-- one that closes the branch
none_there : (v w : Ways) (n : ℕ) → Gives v w → in_no_way v n ≡ None → in_no_way w n ≡ None
none_there None w n same e = absurd cc
none_there (Some []) w n same e = subst (λ (u : Ways). in_no_way u n ≡ None) (sym (same [] refl)) refl
none_there (Some (way ∷ rest)) w n same e = absurd cc

-- one that splits it
two_there : (v w : Ways) (n : ℕ) (next after : List BranchFact → List BranchFact → Option ℕ) → Gives v w →
    ((way other : List BranchFact) → next way other ≡ None → after way other ≡ None) → in_two_ways v n next ≡ None →
    in_two_ways w n after ≡ None
two_there None w n next after same later e = absurd cc
two_there (Some []) w n next after same later e = absurd cc
two_there (Some (way ∷ [])) w n next after same later e = absurd cc
two_there (Some (way ∷ other ∷ [])) w n next after same later e =
    subst (λ (u : Ways). in_two_ways u n after ≡ None) (sym (same (way ∷ other ∷ []) refl)) (later way other e)
two_there (Some (way ∷ other ∷ third ∷ rest)) w n next after same later e = absurd cc

-- a certificate without a bad line has none there
first_there : (sorts : Sorts) (facts others : List BranchFact) (n : ℕ) (c : Certificate) → NamesWhatItReads c → Replaces facts others →
    first_bad (adds sorts) sorts facts n c ≡ None → first_bad (adds sorts) sorts others n c ≡ None
first_there sorts facts others n (Next line c) named same e =
    one_there (ways_with sorts facts (adds sorts facts line) line) (ways_with sorts others (adds sorts others line) line) n
    (λ (way : List BranchFact). first_bad (adds sorts) sorts (facts ++ way) (suc n) c)
    (λ (way : List BranchFact). first_bad (adds sorts) sorts (others ++ way) (suc n) c)
    (ways_there sorts facts others (adds sorts facts line) (adds sorts others line) line same (adds_there sorts facts others line named.0 same))
    (λ (way : List BranchFact) (h : first_bad (adds sorts) sorts (facts ++ way) (suc n) c ≡ None).
    first_there sorts (facts ++ way) (others ++ way) (suc n) c named.1 (replaces_more facts others way same) h)
    e
first_there sorts facts others n (Closed line) named same e =
    none_there (ways_with sorts facts (adds sorts facts line) line) (ways_with sorts others (adds sorts others line) line) n
    (ways_there sorts facts others (adds sorts facts line) (adds sorts others line) line same (adds_there sorts facts others line named same)) e
first_there sorts facts others n (Split line c d) named same e =
    let first = λ (way : List BranchFact). first_bad (adds sorts) sorts (facts ++ way) (suc n) c in
    let second = λ (way : List BranchFact). first_bad (adds sorts) sorts (facts ++ way) (suc n + lines_in c) d in
    let first_other = λ (way : List BranchFact). first_bad (adds sorts) sorts (others ++ way) (suc n) c in
    let second_other = λ (way : List BranchFact). first_bad (adds sorts) sorts (others ++ way) (suc n + lines_in c) d in
    two_there (ways_with sorts facts (adds sorts facts line) line) (ways_with sorts others (adds sorts others line) line) n
    (λ (way other : List BranchFact). or_other (first way) (second other))
    (λ (way other : List BranchFact). or_other (first_other way) (second_other other))
    (ways_there sorts facts others (adds sorts facts line) (adds sorts others line) line same (adds_there sorts facts others line named.0 same))
    (λ (way other : List BranchFact) (h : or_other (first way) (second other) ≡ None).
    let parts = parts_none (first way) (second other) h in
    both_none (first_other way) (second_other other)
    (first_there sorts (facts ++ way) (others ++ way) (suc n) c named.1 (replaces_more facts others way same) parts.0)
    (first_there sorts (facts ++ other) (others ++ other) (suc n + lines_in c) d named.2 (replaces_more facts others other same) parts.1))
    e

-- a number is another or it isn't
same_number : (m n : ℕ) → (m ≡ n) ⊎ (m ≢ n)
same_number m n = of (nat_eq m n) refl
  where
    of : (b : Bool) → nat_eq m n ≡ b → (m ≡ n) ⊎ (m ≢ n)
    of true e = inl (eqb-true m n e)
    of false e = inr (λ (h : m ≡ n). let wrong : true ≡ false = sym (eq-eqb m n h) ∙ e in cc)

-- a fact in the place of the last, which says nothing
last_replaced : (given : List Assertion) (f : Assertion) → Replaces (as_facts (given ++ Yes ∷ [])) (as_facts (given ++ f ∷ []))
last_replaced given f = record { many = many given; stand = stand given }
  where
    many : (gs : List Assertion) → length (as_facts (gs ++ f ∷ [])) ≡ length (as_facts (gs ++ Yes ∷ []))
    many [] = refl
    many (g ∷ gs) = ap suc (many gs)

    stand : (gs : List Assertion) (n : ℕ) → MayGive (slice_get (as_facts (gs ++ Yes ∷ [])) n) (slice_get (as_facts (gs ++ f ∷ [])) n)
    stand [] zero = inl refl
    stand [] (suc n) = inr (λ (k : BranchFact) (h : slice_get (as_facts []) n ≡ Some k). h)
    stand (g ∷ gs) zero = inr (λ (k : BranchFact) (h : Some (Formal g) ≡ Some k). h)
    stand (g ∷ gs) (suc n) = stand gs n

-- a certificate that names what it reads and closes a branch whose last fact always holds closes the
-- branch with any formula in the place of that fact, within as much room
pub closes_in_replaced : (sorts : Sorts) (trees : List Tree) (given : List Assertion) (f : Assertion) (room : ℕ) (tree : CertTree) →
    NamesWhatItReads (certificate_in trees tree) → ClosesIn sorts trees (given ++ Yes ∷ []) room tree →
    ClosesIn sorts trees (given ++ f ∷ []) room tree
closes_in_replaced sorts trees given f room tree named closes = record {
  refutes = λ (n : ℕ).
      first_there sorts (as_facts (given ++ Yes ∷ [])) (as_facts (given ++ f ∷ [])) n (certificate_in trees tree) named (last_replaced given f)
      (closes.refutes n);
  within = closes.within;
  splits = closes.splits;
}
