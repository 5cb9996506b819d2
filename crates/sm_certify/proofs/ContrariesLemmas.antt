-- Facts that are given before but for their numbers, and the pairs of those that say that terms aren't equal.
use Rattle.sm_certify.proofs.Imports.{◌≡◌, ◌⊎◌, inl, inr, ℕ, zero, suc, ◌+◌, ◌-◌, ◌<◌, Bool, true, not, ◌&&◌, Some, List, [], ◌∷◌, ◌++◌, map, length, take, drop, get_or, slice_get, slice_set, refl, sym, ap, ◌∙◌, subst, arith, list_all, map-append, length-drop, same_Some, TermId, Formula, IsGivenBefore, IsContraryOf, AddsOnly, equation_under, contrary_under, GivenFact, given_from}
use Rattle.std.proofs.Common.{append_assoc}
use Rattle.std.proofs.Math.Seq.{take-length}
use Rattle.sm_term.specs.declared.formula.Formula.TheVariants as tree
use Rattle.sm_certify.proofs.GivenLemmas.{given_from-cons, left_step}
use Rattle.sm_lemmas.proofs.Tests.{not_true, both_pass}

-- whether no fact is an equation, and the two terms of each
abbrev pub are_contraries : List GivenFact → Bool
are_contraries = list_all (λ (g : GivenFact). not g.are_equal)

abbrev pub sides_of : List GivenFact → List (TermId × TermId)
sides_of = map (λ (g : GivenFact). (g.left, g.right))

-- neither depends on the numbers
none_alike : (n m : ℕ) (fs : List Formula) → are_contraries (given_from n fs) ≡ are_contraries (given_from m fs)
none_alike n m [] = refl
none_alike n m (tree.Yes ∷ fs) = none_alike (suc n) (suc m) fs
none_alike n m (tree.No ∷ fs) = none_alike (suc n) (suc m) fs
none_alike n m (tree.Eq t u ∷ fs) = refl
none_alike n m (tree.Ne t u ∷ fs) = none_alike (suc n) (suc m) fs
none_alike n m (tree.Le t u ∷ fs) = none_alike (suc n) (suc m) fs
none_alike n m (tree.Lt t u ∷ fs) = none_alike (suc n) (suc m) fs
none_alike n m (tree.And' a p b q ∷ fs) = none_alike (suc n) (suc m) fs
none_alike n m (tree.Or' a p b q ∷ fs) = none_alike (suc n) (suc m) fs

sides_alike : (n m : ℕ) (fs : List Formula) → sides_of (given_from n fs) ≡ sides_of (given_from m fs)
sides_alike n m [] = refl
sides_alike n m (tree.Yes ∷ fs) = sides_alike (suc n) (suc m) fs
sides_alike n m (tree.No ∷ fs) = sides_alike (suc n) (suc m) fs
sides_alike n m (tree.Eq t u ∷ fs) = ap (λ (ps : List (TermId × TermId)). (t, u) ∷ ps) (sides_alike (suc n) (suc m) fs)
sides_alike n m (tree.Ne t u ∷ fs) = ap (λ (ps : List (TermId × TermId)). (t, u) ∷ ps) (sides_alike (suc n) (suc m) fs)
sides_alike n m (tree.Le t u ∷ fs) = sides_alike (suc n) (suc m) fs
sides_alike n m (tree.Lt t u ∷ fs) = sides_alike (suc n) (suc m) fs
sides_alike n m (tree.And' a p b q ∷ fs) = sides_alike (suc n) (suc m) fs
sides_alike n m (tree.Or' a p b q ∷ fs) = sides_alike (suc n) (suc m) fs

-- those of a first formula and of the rest
none-cons : (f : Formula) (fs : List Formula) →
    are_contraries (given_from 0 (f ∷ fs)) ≡ (are_contraries (given_from 0 (f ∷ [])) && are_contraries (given_from 0 fs))
none-cons tree.Yes fs = none_alike 1 0 fs
none-cons tree.No fs = none_alike 1 0 fs
none-cons (tree.Eq t u) fs = refl
none-cons (tree.Ne t u) fs = none_alike 1 0 fs
none-cons (tree.Le t u) fs = none_alike 1 0 fs
none-cons (tree.Lt t u) fs = none_alike 1 0 fs
none-cons (tree.And' a p b q) fs = none_alike 1 0 fs
none-cons (tree.Or' a p b q) fs = none_alike 1 0 fs

sides-cons : (f : Formula) (fs : List Formula) →
    sides_of (given_from 0 (f ∷ fs)) ≡ sides_of (given_from 0 (f ∷ [])) ++ sides_of (given_from 0 fs)
sides-cons f fs =
    ap sides_of (given_from-cons 0 f fs)
    ∙ map-append (λ (g : GivenFact). (g.left, g.right)) (given_from 0 (f ∷ [])) (given_from 1 fs)
    ∙ ap (λ (ps : List (TermId × TermId)). sides_of (given_from 0 (f ∷ [])) ++ ps) (sides_alike 1 0 fs)

pub none_step : (fs : List Formula) (i : ℕ) (f : Formula) (b : Bool) → i < length fs → f ≡ get_or fs i f →
    b ≡ true → b ≡ are_contraries (given_from 0 (f ∷ [])) → are_contraries (given_from 0 (drop i fs)) ≡ are_contraries (given_from 0 fs) →
    are_contraries (given_from 0 (drop (i + 1) fs)) ≡ are_contraries (given_from 0 fs)
none_step fs i f b h is so told old =
    let rest = drop (i + 1) fs in
    ap (λ (c : Bool). c && are_contraries (given_from 0 rest)) (sym so ∙ told)
    ∙ sym (none-cons f rest) ∙ ap (λ (gs : List Formula). are_contraries (given_from 0 gs)) (sym (left_step fs i f h is)) ∙ old

pub sides_step : (before after all : List (TermId × TermId)) (fs : List Formula) (i : ℕ) (f : Formula) → i < length fs →
    f ≡ get_or fs i f → after ≡ before ++ sides_of (given_from 0 (f ∷ [])) → before ++ sides_of (given_from 0 (drop i fs)) ≡ all →
    after ++ sides_of (given_from 0 (drop (i + 1) fs)) ≡ all
sides_step before after all fs i f h is made old =
    let rest = drop (i + 1) fs in
    let first = sides_of (given_from 0 (f ∷ [])) in
    ap (λ (ps : List (TermId × TermId)). ps ++ sides_of (given_from 0 rest)) made
    ∙ append_assoc before first (sides_of (given_from 0 rest))
    ∙ ap (λ (ps : List (TermId × TermId)). before ++ ps) (sym (sides-cons f rest))
    ∙ ap (λ (gs : List Formula). before ++ sides_of (given_from 0 gs)) (sym (left_step fs i f h is)) ∙ old

-- where no fact is an equation, each says that its two terms aren't equal
abbrev AreSaid : List (TermId × TermId) → List GivenFact → Type 0
AreSaid ps gs = (n : ℕ) (g : GivenFact) → slice_get gs n ≡ Some g → IsContraryOf ps g

said : (gs : List GivenFact) → are_contraries gs ≡ true → AreSaid (sides_of gs) gs
said [] h n g is = absurd cc
said (f ∷ gs) h zero g is =
    let e = same_Some f g is in
    subst (IsContraryOf (sides_of (f ∷ gs))) e
    (not_true f.are_equal (both_pass (not f.are_equal) (are_contraries gs) h).0, (0, refl))
said (f ∷ gs) h (suc n) g is =
    let rest = said gs (both_pass (not f.are_equal) (are_contraries gs) h).1 n g is in (rest.0, (suc rest.1.0, rest.1.1))

-- an element of one of two lists is one of both
in_first : {A : Type 0} (xs ys : List A) (n : ℕ) (x : A) → slice_get xs n ≡ Some x → (m : ℕ) × (slice_get (xs ++ ys) m ≡ Some x)
in_first [] ys n x h = absurd cc
in_first (y ∷ xs) ys zero x h = (0, h)
in_first (y ∷ xs) ys (suc n) x h = let rest = in_first xs ys n x h in (suc rest.0, rest.1)

in_second : {A : Type 0} (xs ys : List A) (n : ℕ) (x : A) → slice_get ys n ≡ Some x → (m : ℕ) × (slice_get (xs ++ ys) m ≡ Some x)
in_second [] ys n x h = (n, h)
in_second (y ∷ xs) ys n x h = let rest = in_second xs ys n x h in (suc rest.0, rest.1)

said_first : (ps qs : List (TermId × TermId)) (gs : List GivenFact) → AreSaid ps gs → AreSaid (ps ++ qs) gs
said_first ps qs gs h = λ n g is. let s = h n g is in (s.0, in_first ps qs s.1.0 (g.left, g.right) s.1.1)

said_second : (ps qs : List (TermId × TermId)) (gs : List GivenFact) → AreSaid qs gs → AreSaid (ps ++ qs) gs
said_second ps qs gs h = λ n g is. let s = h n g is in (s.0, in_second ps qs s.1.0 (g.left, g.right) s.1.1)

-- what a formula says of terms that aren't equal is said where its facts have other numbers
said_under : (n m : ℕ) (f : Formula) (ps : List (TermId × TermId)) → AreSaid ps (given_from n (f ∷ [])) → AreSaid ps (given_from m (f ∷ []))
said_under n m tree.Yes ps h = h
said_under n m tree.No ps h = h
said_under n m (tree.Eq t u) ps h = let equal = (h 0 (equation_under n t u) refl).0 in absurd cc
said_under n m (tree.Ne t u) ps h = by
  where
    by : AreSaid ps (given_from m (tree.Ne t u ∷ []))
    by zero g is = subst (IsContraryOf ps) (same_Some (contrary_under m t u) g is) (refl, (h 0 (contrary_under n t u) refl).1)
    by (suc k) g is = absurd cc
said_under n m (tree.Le t u) ps h = h
said_under n m (tree.Lt t u) ps h = h
said_under n m (tree.And' a p b q) ps h = h
said_under n m (tree.Or' a p b q) ps h = h

module _ (ps : List (TermId × TermId)) where
  first_before : (old olds : List GivenFact) (g : GivenFact) → IsGivenBefore old g ⊎ IsContraryOf ps g →
      IsGivenBefore (old ++ olds) g ⊎ IsContraryOf ps g
  first_before old olds g (inl b) =
      let at = in_first old olds b.0 b.1 b.2 in inl (at.0, b.1, at.1, b.3)
  first_before old olds g (inr c) = inr c

  second_before : (old olds : List GivenFact) (g : GivenFact) → IsGivenBefore olds g ⊎ IsContraryOf ps g →
      IsGivenBefore (old ++ olds) g ⊎ IsContraryOf ps g
  second_before old olds g (inl b) =
      let at = in_second old olds b.0 b.1 b.2 in inl (at.0, b.1, at.1, b.3)
  second_before old olds g (inr c) = inr c

  -- two lists behind two
  both : (old olds new news : List GivenFact) → AddsOnly old ps new → AddsOnly olds ps news → AddsOnly (old ++ olds) ps (new ++ news)
  both old olds [] news h k = λ n g is. second_before old olds g (k n g is)
  both old olds (f ∷ new) news h k = by (both old olds new news (λ m e there. h (suc m) e there) k)
    where
      by : AddsOnly (old ++ olds) ps (new ++ news) → AddsOnly (old ++ olds) ps (f ∷ new ++ news)
      by more zero g is = first_before old olds g (h 0 g is)
      by more (suc n) g is = more n g is

  -- a fact under another number
  same_before : (n m : ℕ) (f : Formula) → AddsOnly (given_from n (f ∷ [])) ps (given_from m (f ∷ []))
  same_before n m tree.Yes = λ k g is. absurd cc
  same_before n m tree.No = λ k g is. absurd cc
  same_before n m (tree.Eq t u) = by
    where
      by : AddsOnly (given_from n (tree.Eq t u ∷ [])) ps (given_from m (tree.Eq t u ∷ []))
      by zero g is =
          let e = same_Some (equation_under m t u) g is in
          inl (
            0,
            equation_under n t u,
            refl,
            (
              ap (λ (f : GivenFact). f.are_equal) e,
              ap (λ (f : GivenFact). f.left) e,
              ap (λ (f : GivenFact). f.right) e,
            ),
          )
      by (suc k) g is = absurd cc
  same_before n m (tree.Ne t u) = by
    where
      by : AddsOnly (given_from n (tree.Ne t u ∷ [])) ps (given_from m (tree.Ne t u ∷ []))
      by zero g is =
          let e = same_Some (contrary_under m t u) g is in
          inl (
            0,
            contrary_under n t u,
            refl,
            (
              ap (λ (f : GivenFact). f.are_equal) e,
              ap (λ (f : GivenFact). f.left) e,
              ap (λ (f : GivenFact). f.right) e,
            ),
          )
      by (suc k) g is = absurd cc
  same_before n m (tree.Le t u) = λ k g is. absurd cc
  same_before n m (tree.Lt t u) = λ k g is. absurd cc
  same_before n m (tree.And' a p b q) = λ k g is. absurd cc
  same_before n m (tree.Or' a p b q) = λ k g is. absurd cc

  -- all that is said is added
  said_adds : (old new : List GivenFact) → AreSaid ps new → AddsOnly old ps new
  said_adds old new h = λ n g is. inr (h n g is)

  said_here : (gs hs : List GivenFact) → AreSaid ps (gs ++ hs) → AreSaid ps gs
  said_here gs hs h = λ n g is. let at = in_first gs hs n g is in h at.0 g at.1

  said_there : (gs hs : List GivenFact) → AreSaid ps (gs ++ hs) → AreSaid ps hs
  said_there gs hs h = λ n g is. let at = in_second gs hs n g is in h at.0 g at.1

  all_said : (n m : ℕ) (fs : List Formula) → AreSaid ps (given_from n fs) → AddsOnly [] ps (given_from m fs)
  all_said n m [] h = λ k g is. absurd cc
  all_said n m (f ∷ fs) h =
      let parts : AreSaid ps (given_from n (f ∷ []) ++ given_from (suc n) fs) = subst (AreSaid ps) (given_from-cons n f fs) h in
      let first = said_here (given_from n (f ∷ [])) (given_from (suc n) fs) parts in
      let rest = said_there (given_from n (f ∷ [])) (given_from (suc n) fs) parts in
      subst (AddsOnly [] ps) (sym (given_from-cons m f fs))
      (both [] [] (given_from m (f ∷ [])) (given_from (suc m) fs) (said_adds [] (given_from m (f ∷ [])) (said_under n m f ps first))
      (all_said (suc n) (suc m) fs rest))

  -- a formula that stands in both lists
  one_more : (n m : ℕ) (f : Formula) (old new : List Formula) → AddsOnly (given_from (suc n) old) ps (given_from (suc m) new) →
      AddsOnly (given_from n (f ∷ old)) ps (given_from m (f ∷ new))
  one_more n m f old new h =
      subst (λ (gs : List GivenFact). AddsOnly gs ps (given_from m (f ∷ new))) (sym (given_from-cons n f old))
      (subst (AddsOnly (given_from n (f ∷ []) ++ given_from (suc n) old) ps) (sym (given_from-cons m f new))
      (both (given_from n (f ∷ [])) (given_from (suc n) old) (given_from m (f ∷ [])) (given_from (suc m) new) (same_before n m f) h))

  -- those behind the first ones say only that the pairs aren't equal
  adds_behind : (n m : ℕ) (fs : List Formula) (from : ℕ) → AreSaid ps (given_from 0 (drop from fs)) →
      AddsOnly (given_from n (take from fs)) ps (given_from m fs)
  adds_behind n m [] from h = λ k g is. absurd cc
  adds_behind n m (f ∷ fs) zero h = all_said 0 m (f ∷ fs) h
  adds_behind n m (f ∷ fs) (suc from) h = one_more n m f (take from fs) fs (adds_behind (suc n) (suc m) fs from h)

  -- so does the one at a place among them
  adds_at : (n m : ℕ) (fs : List Formula) (place from : ℕ) → place < from →
      ((f : Formula) → slice_get fs place ≡ Some f → AreSaid ps (given_from 0 (f ∷ []))) → AreSaid ps (given_from 0 (drop from fs)) →
      AddsOnly (given_from n (slice_set (take from fs) place tree.Yes)) ps (given_from m fs)
  adds_at n m [] place from less at h = λ k g is. absurd cc
  adds_at n m (f ∷ fs) place zero less at h = absurd (omega (arith, less))
  adds_at n m (f ∷ fs) zero (suc from) less at h =
      let old = given_from (suc n) (take from fs) in
      subst (AddsOnly old ps) (sym (given_from-cons m f fs))
      (both [] old (given_from m (f ∷ [])) (given_from (suc m) fs)
      (said_adds [] (given_from m (f ∷ [])) (said_under 0 m f ps (at f refl))) (adds_behind (suc n) (suc m) fs from h))
  adds_at n m (f ∷ fs) (suc place) (suc from) less at h =
      one_more n m f (slice_set (take from fs) place tree.Yes) fs
      (adds_at (suc n) (suc m) fs place from (omega (arith, less)) at h)

-- what is there at a place
there : (fs : List Formula) (i : ℕ) (f g : Formula) → f ≡ get_or fs i f → slice_get fs i ≡ Some g → g ≡ f
there [] i f g h is = absurd cc
there (e ∷ fs) zero f g h is = sym (same_Some e g is) ∙ sym h
there (e ∷ fs) (suc i) f g h is = there fs i f g h is

-- a slice from a place on to the end
left_whole : (fs : List Formula) (i : ℕ) → take (length fs - i) (drop i fs) ≡ drop i fs
left_whole fs i = ap (λ (n : ℕ). take n (drop i fs)) (sym (length-drop i fs)) ∙ take-length (drop i fs)

-- the pairs of the one at a place and of those behind
pub adds_contraries : (fs : List Formula) (place from : ℕ) (f : Formula) (first all : List (TermId × TermId)) → place < from →
    f ≡ get_or fs place f → true ≡ are_contraries (given_from 0 (f ∷ [])) → first ≡ sides_of (given_from 0 (f ∷ [])) →
    true ≡ are_contraries (given_from 0 (take (length fs - from) (drop from fs))) →
    all ≡ first ++ sides_of (given_from 0 (take (length fs - from) (drop from fs))) →
    AddsOnly (given_from 0 (slice_set (take from fs) place tree.Yes)) all (given_from 0 fs)
adds_contraries fs place from f first all less at one made rest more =
    let here = given_from 0 (f ∷ []) in
    let behind = given_from 0 (drop from fs) in
    let ps = sides_of here in
    let qs = sides_of behind in
    let whole : given_from 0 (take (length fs - from) (drop from fs)) ≡ behind = ap (given_from 0) (left_whole fs from) in
    let are : all ≡ ps ++ qs =
    more ∙ ap (λ (gs : List GivenFact). first ++ sides_of gs) whole ∙ ap (λ (rs : List (TermId × TermId)). rs ++ qs) made in
    let all_behind : AreSaid qs behind = said behind (sym (rest ∙ ap are_contraries whole)) in
    let old = given_from 0 (slice_set (take from fs) place tree.Yes) in
    subst (λ (rs : List (TermId × TermId)). AddsOnly old rs (given_from 0 fs)) (sym are)
    (adds_at (ps ++ qs) 0 0 fs place from less
    (λ g is. subst (λ (e : Formula). AreSaid (ps ++ qs) (given_from 0 (e ∷ []))) (sym (there fs place f g at is))
    (said_first ps qs here (said here (sym one)))) (said_second ps qs behind all_behind))
