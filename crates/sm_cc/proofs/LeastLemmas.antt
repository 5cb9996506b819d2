-- The computed classes are the least set of pairs that is closed.
use Rattle.sm_cc.proofs.Imports.{◌≡◌, ◌↔◌, IsTrue, ◌≤◌, ℕ, ◌*◌, Bool, true, false, ◌&&◌, ◌||◌, List, [], length, ⊎_elim, refl, sym, ap, subst, ◌∙◌, arith, list_any, and_parts, or_left, or_right, or_cases, fun_ext, Tree, same_tree, same_tree_is, is_among, Pairs, Setting, are_apart, brings, AreClosed, Same, pairs_of, follows, any_passes_from_place, same_tests}
use Rattle.sm_cc.specs.Classes.{Apart}
use Rattle.sm_cc.specs.Rounds.{is_listed, are_equal}
use Rattle.sm_cc.specs.Laws.{ClassesAreLeast}
use Rattle.sm_cc.proofs.StandingLemmas.{both, any_from, among_there}
use Rattle.sm_cc.proofs.IteratedLemmas.{Below, IsIn, rounds, rounds_closed, rounds_within}
use Rattle.sm_cc.proofs.PairsLemmas.{Duo, paired, round, among_in, pairs_in, length-pairs, listed_after}
use Rattle.sm_cc.proofs.BringsLemmas.{GivesMore, nothing_more, apart_more, brings_more}

module _ (s : Setting) where
  -- no pairs
  abbrev none : Duo → Bool
  none = paired (is_listed [])

  -- how many rounds there are at most
  abbrev many : ℕ
  many = length s.terms * length s.terms

  computed : paired (are_equal s) ≡ rounds many (round s) none
  unfolding are_equal
  computed = listed_after many s []

  -- both of a pair are in the list
  abbrev AreAmong : Duo → Type 0
  AreAmong p = (is_among s.terms p.0 ≡ true) × (is_among s.terms p.1 ≡ true)

  among_both : (set : Duo → Bool) (p : Duo) → round s set p ≡ true → AreAmong p × (follows s (λ t u. set (t, u)) p.0 p.1 ≡ true)
  among_both set p h =
      let test = follows s (λ t u. set (t, u)) p.0 p.1 in
      let one = and_parts (is_among s.terms p.0) (is_among s.terms p.1 && test) h in
      let two = and_parts (is_among s.terms p.1) test one.1 in
      ((one.0, two.0), two.1)

  to_both : (set : Duo → Bool) (p : Duo) → AreAmong p → follows s (λ t u. set (t, u)) p.0 p.1 ≡ true → round s set p ≡ true
  to_both set p among h = both among.0 (both among.1 h)

  -- what is there stays
  grows : (set : Duo → Bool) → Below (round s set) (round s (round s set))
  grows set p h =
      let r = round s set in
      to_both r p (among_both set p h).0
      (or_left (r p) (same_tree p.0 p.1
      || (r (p.1, p.0) || (list_any (λ w. r (p.0, w) && r (w, p.1)) s.terms || brings s (λ t u. r (t, u)) p.0 p.1))) h)

  within : (set : Duo → Bool) (p : Duo) → round s set p ≡ true → IsIn (pairs_of s.terms s.terms) p
  within set p h =
      let among = (among_both set p h).0 in
      pairs_in s.terms s.terms p.0 p.1 (among_in s.terms p.0 among.0) (among_in s.terms p.1 among.1)

  -- no round brings more, and all are of the list
  abbrev IsDone : (Duo → Bool) → Type 0
  IsDone set = Below (round s set) set × ((p : Duo) → set p ≡ true → AreAmong p)

  done : IsDone (paired (are_equal s))
  done =
      let nothing : Below none (round s none) = λ (p : Duo) (h : false ≡ true). absurd cc in
      let few : length (pairs_of s.terms s.terms) ≤ many = (let e = length-pairs s.terms s.terms in omega (arith, e)) in
      let closed = rounds_closed Duo (pairs_of s.terms s.terms) (round s) within grows many few none nothing in
      let whole : Duo → Bool = λ (p : Duo). is_among s.terms p.0 && is_among s.terms p.1 in
      let inside = rounds_within Duo (round s) whole
      (λ (set : Duo → Bool) (below : Below set whole) (p : Duo) (h : round s set p ≡ true).
      let among = (among_both set p h).0 in both among.0 among.1) many none (λ (p : Duo) (h : false ≡ true). absurd cc) in
      subst IsDone (sym computed)
      (closed, λ (p : Duo) (h : rounds many (round s) none p ≡ true). and_parts (is_among s.terms p.0) (is_among s.terms p.1) (inside p h))

  -- each of the ways in which a pair follows
  from_turned : (e : Pairs) (t u : Tree) → e u t ≡ true → follows s e t u ≡ true
  from_turned e t u h =
      or_right (e t u) _ (or_right (same_tree t u) _ (or_left (e u t) (list_any (λ w. e t w && e w u) s.terms || brings s e t u) h))

  from_joined : (e : Pairs) (t u : Tree) → list_any (λ w. e t w && e w u) s.terms ≡ true → follows s e t u ≡ true
  from_joined e t u h =
      or_right (e t u) _ (or_right (same_tree t u) _
      (or_right (e u t) _ (or_left (list_any (λ w. e t w && e w u) s.terms) (brings s e t u) h)))

  from_brought : (e : Pairs) (t u : Tree) → brings s e t u ≡ true → follows s e t u ≡ true
  from_brought e t u h =
      or_right (e t u) _ (or_right (same_tree t u) _
      (or_right (e u t) _ (or_right (list_any (λ w. e t w && e w u) s.terms) (brings s e t u) h)))

  from_same : (e : Pairs) (t u : Tree) → same_tree t u ≡ true → follows s e t u ≡ true
  from_same e t u h = or_right (e t u) _ (or_left (same_tree t u) _ h)

  -- the computed pairs are closed
  pub equal_closed : AreClosed s (are_equal s)
  equal_closed =
      let e = are_equal s in
      record {
        each = λ t h. done.0 (t, t) (to_both (paired e) (t, t) (h, h) (from_same e t t ((same_tree_is t t).1 refl)));
        turned = λ t u h.
            let among = done.1 (t, u) h in
            done.0 (u, t) (to_both (paired e) (u, t) (among.1, among.0) (from_turned e u t h));
        joined = λ t u w h k.
            let first = done.1 (t, u) h in
            let second = done.1 (u, w) k in
            done.0 (t, w)
            (to_both (paired e) (t, w) (first.0, second.1)
            (from_joined e t w
            (let at = any_from (same_tree u) s.terms first.1 in
            any_passes_from_place (λ v. e t v && e v w) s.terms _ u (among_there s.terms u first.1) (both h k))));
        brought = λ t u h k m. done.0 (t, u) (to_both (paired e) (t, u) (h, k) (from_brought e t u m));
      }

  -- what follows is in a closed set that has the others
  follows_within : (e f : Pairs) → AreClosed s f → ((t u : Tree) → e t u ≡ true → f t u ≡ true) → (t u : Tree) →
      is_among s.terms t ≡ true → is_among s.terms u ≡ true → follows s e t u ≡ true → f t u ≡ true
  follows_within e f closed below t u h k m =
      ⊎_elim (below t u)
      (λ (m : (same_tree t u || (e u t || (list_any (λ w. e t w && e w u) s.terms || brings s e t u))) ≡ true).
      ⊎_elim
      (λ (is : same_tree t u ≡ true). subst (λ (v : Tree). f t v ≡ true) ((same_tree_is t u).0 is) (closed.each t h))
      (λ (m : (e u t || (list_any (λ w. e t w && e w u) s.terms || brings s e t u)) ≡ true).
      ⊎_elim (λ (turned : e u t ≡ true). closed.turned u t (below u t turned))
      (λ (m : (list_any (λ w. e t w && e w u) s.terms || brings s e t u) ≡ true).
      ⊎_elim
      (λ (some : list_any (λ w. e t w && e w u) s.terms ≡ true).
      let at = any_from (λ w. e t w && e w u) s.terms some in
      let parts = and_parts (e t at.1) (e at.1 u) at.3 in
      closed.joined t at.1 u (below t at.1 parts.0) (below at.1 u parts.1))
      (λ (b : brings s e t u ≡ true). closed.brought t u h k (brings_more s s (nothing_more s) e f below t u b))
      (or_cases (list_any (λ w. e t w && e w u) s.terms) (brings s e t u) m))
      (or_cases (e u t) (list_any (λ w. e t w && e w u) s.terms || brings s e t u) m))
      (or_cases (same_tree t u) (e u t || (list_any (λ w. e t w && e w u) s.terms || brings s e t u)) m))
      (or_cases (e t u) (same_tree t u || (e u t || (list_any (λ w. e t w && e w u) s.terms || brings s e t u))) m)

  -- they are in each closed set
  pub equal_least : (f : Pairs) → AreClosed s f → (t u : Tree) → are_equal s t u ≡ true → f t u ≡ true
  equal_least f closed t u h =
      let all : Below (rounds many (round s) none) (paired f) =
      rounds_within Duo (round s) (paired f)
      (λ (set : Duo → Bool) (below : Below set (paired f)) (p : Duo) (m : round s set p ≡ true).
      let parts = among_both set p m in
      follows_within (λ t u. set (t, u)) f closed (λ t u. below (t, u)) p.0 p.1 parts.0.0 parts.0.1 parts.1) many none
      (λ (p : Duo) (h : false ≡ true). absurd cc) in
      all (t, u) (ap (λ (set : Duo → Bool). set (t, u)) (sym computed) ∙ h)

  -- terms are equal by them exactly where they are in one class
  pub equal_is_same : (t u : Tree) → IsTrue (are_equal s t u) ↔ Same s t u
  equal_is_same t u = (λ h. λ f closed. equal_least f closed t u h, λ same. same (are_equal s) equal_closed)

  -- terms are known apart by the pairs that are equal exactly where they are by the classes
  pub apart_is_apart : (t u : Tree) → IsTrue (are_apart s (are_equal s) t u) ↔ Apart s t u
  apart_is_apart t u = (
    λ h. λ f closed. apart_more s s (nothing_more s) (are_equal s) f (equal_least f closed) t u h,
    λ apart. apart (are_equal s) equal_closed,
  )

-- so they are of all settings
pub classes_least : ClassesAreLeast
classes_least s = record { closed = equal_closed s; equal = equal_is_same s; apart = apart_is_apart s }

-- a set that is closed by more is closed
closed_less : (s r : Setting) → GivesMore s r → (f : Pairs) → AreClosed r f → AreClosed s f
closed_less s r given f closed = record {
  each = λ t h. closed.each t (subst (λ (ts : List Tree). is_among ts t ≡ true) given.terms h);
  turned = closed.turned;
  joined = closed.joined;
  brought = λ t u h k b.
      closed.brought t u (subst (λ (ts : List Tree). is_among ts t ≡ true) given.terms h)
      (subst (λ (ts : List Tree). is_among ts u ≡ true) given.terms k)
      (brings_more s r given f f (λ v w m. m) t u b);
}

-- where the same is given, the classes are the same
pub equal_alike : (s r : Setting) → GivesMore s r → GivesMore r s → are_equal s ≡ are_equal r
equal_alike s r one other = fun_ext λ (t : Tree). fun_ext λ (u : Tree).
    same_tests (are_equal s t u) (are_equal r t u)
    (λ h. equal_least s (are_equal r) (closed_less s r one (are_equal r) (equal_closed r)) t u h)
    (λ h. equal_least r (are_equal s) (closed_less r s other (are_equal s) (equal_closed s)) t u h)

-- where the same is given, the same terms are known apart
pub apart_alike : (s r : Setting) → GivesMore s r → GivesMore r s → are_apart s (are_equal s) ≡ are_apart r (are_equal r)
apart_alike s r one other = fun_ext λ (t : Tree). fun_ext λ (u : Tree).
    let same = equal_alike s r one other in
    same_tests (are_apart s (are_equal s) t u) (are_apart r (are_equal r) t u)
    (apart_more s r one (are_equal s) (are_equal r) (λ v w h. ap (λ (e : Pairs). e v w) (sym same) ∙ h) t u)
    (apart_more r s other (are_equal r) (are_equal s) (λ v w h. ap (λ (e : Pairs). e v w) same ∙ h) t u)
