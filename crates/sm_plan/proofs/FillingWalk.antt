-- A walk over the terms under a term: its way descends, and each number that is found is one fewer that isn't known.
use Rattle.sm_plan.proofs.Imports.{◌≡◌, ◌≢◌, ◌<◌, ◌≤◌, ◌+◌, ℕ, zero, suc, true, false, if◌then◌else◌, nat_eq, Option, Some, None, List, [], ◌∷◌, ◌++◌, length, refl, sym, ap, subst, ◌∙◌, ⊎_elim, arith, update, cases_Bool, Decides-eqb, Copy, SymbolicStore, TableValue, trees_in, TermId, IsFilled, AreKnown, Descends, IsWay, AreOpen, unknown_below}
use Rattle.std.specs.Prelude.{is_some, unwrap_or}
use Rattle.std.proofs.lemmas.Map.{update_here, update_apart}

-- a way ends below its start
descends_below : (from : ℕ) (ns : List ℕ) (to : ℕ) → Descends from ns to → to < from
descends_below from [] to way = way
descends_below from (n ∷ ns) to way = let rest = descends_below n ns to way.1 in let one = way.0 in omega arith

pub way_below : (t : ℕ) (ns : List ℕ) (next : ℕ) → IsWay t ns next → next ≤ t
way_below t [] next way = omega arith
way_below t (n ∷ ns) next way = let rest = descends_below n ns next way.1 in let one = way.0 in omega arith

-- one step down
descends_pushed : (from : ℕ) (ns : List ℕ) (to p : ℕ) → Descends from ns to → p < to → Descends from (ns ++ to ∷ []) p
descends_pushed from [] to p way h = (way, h)
descends_pushed from (n ∷ ns) to p way h = (way.0, descends_pushed n ns to p way.1 h)

pub way_pushed : (t : ℕ) (ns : List ℕ) (next p : ℕ) → IsWay t ns next → p < next → IsWay t (ns ++ next ∷ []) p
way_pushed t [] next p way h = (way, h)
way_pushed t (n ∷ ns) next p way h = (way.0, descends_pushed n ns next p way.1 h)

-- one step up
descends_popped : (from : ℕ) (ns : List ℕ) (n to : ℕ) → Descends from (ns ++ n ∷ []) to → Descends from ns n × (to < n)
descends_popped from [] n to way = (way.0, way.1)
descends_popped from (m ∷ ns) n to way = let rest = descends_popped m ns n to way.1 in ((way.0, rest.0), rest.1)

pub way_popped : (t : ℕ) (ns : List ℕ) (n next : ℕ) → IsWay t (ns ++ n ∷ []) next → IsWay t ns n × (next < n)
way_popped t [] n next way = (way.0, way.1)
way_popped t (m ∷ ns) n next way = let rest = descends_popped m ns n next way.1 in ((way.0, rest.0), rest.1)

-- one number more that isn't known, and one fewer
pub open_pushed : (f : ℕ → Option TermId) (ns : List ℕ) (n : ℕ) → AreOpen f ns → f n ≡ None → AreOpen f (ns ++ n ∷ [])
open_pushed f [] n none h = (h, tt)
open_pushed f (m ∷ ns) n none h = (none.0, open_pushed f ns n none.1 h)

pub open_popped : (f : ℕ → Option TermId) (ns : List ℕ) (n : ℕ) → AreOpen f (ns ++ n ∷ []) → AreOpen f ns × (f n ≡ None)
open_popped f [] n none = (tt, none.0)
open_popped f (m ∷ ns) n none = let rest = open_popped f ns n none.1 in ((none.0, rest.0), rest.1)

-- one number more is known
module _ (f g : ℕ → Option TermId) (k : ℕ) (made : TermId) (gains : (q : ℕ) → g q ≡ update nat_eq f k (Some made) q) where
  here : g k ≡ Some made
  here = gains k ∙ update_here f k (Some made)

  apart : (q : ℕ) → q ≢ k → g q ≡ f q
  apart q other = gains q ∙ update_apart f k (Some made) q other

  -- the way above it isn't known still
  descends_open : (from : ℕ) (ns : List ℕ) → Descends from ns k → AreOpen f ns → AreOpen g ns
  descends_open from [] way none = tt
  descends_open from (n ∷ ns) way none =
      let below = descends_below n ns k way.1 in
      let other : n ≢ k = λ (e : n ≡ k). let e' = e in omega arith in
      (apart n other ∙ none.0, descends_open n ns way.1 none.1)

  pub way_open : (t : ℕ) (ns : List ℕ) → IsWay t ns k → AreOpen f ns → AreOpen g ns
  way_open t [] way none = tt
  way_open t (n ∷ ns) way none =
      let below = descends_below n ns k way.1 in
      let other : n ≢ k = λ (e : n ≡ k). let e' = e in omega arith in
      (apart n other ∙ none.0, descends_open n ns way.1 none.1)

  -- it is known, as the others are
  pub known_gains : (v : TableValue) (s : Copy → SymbolicStore) → AreKnown v s f → k < length (trees_in v) → IsFilled v s k made →
      AreKnown v s g
  known_gains v s kept inside new n i e =
      ⊎_elim
      (λ (d : nat_eq n k ≡ true).
      let same : n ≡ k = (Decides-eqb n k).0 d in
      let one : Some made ≡ Some i = sym here ∙ ap g (sym same) ∙ e in
      let form : made ≡ i = ap (λ (o : Option TermId). unwrap_or o made) one in
      subst (λ (m : ℕ). (m < length (trees_in v)) × IsFilled v s m i) (sym same)
      (inside, subst (IsFilled v s k) form new))
      (λ (d : nat_eq n k ≡ false).
      let other : n ≢ k = λ (r : n ≡ k). let true_is : nat_eq n k ≡ true = (Decides-eqb n k).1 r in absurd cc in
      kept n i (sym (apart n other) ∙ e))
      (cases_Bool (nat_eq n k))

  -- below it as many aren't known as before
  unknown_before : (b : ℕ) → b ≤ k → unknown_below g b ≡ unknown_below f b
  unknown_before zero h = refl
  unknown_before (suc b) h =
      let other : b ≢ k = λ (e : b ≡ k). let e' = e in omega arith in
      let rest = unknown_before b (omega arith) in
      ap (λ (o : Option TermId). (if is_some o then 0 else 1) + unknown_below g b) (apart b other)
      ∙ ap (λ (n : ℕ). (if is_some (f b) then 0 else 1) + n) rest

  -- once k is known, one number fewer isn't known below a number above it
  pub unknown_less : (b : ℕ) → k < b → f k ≡ None → unknown_below g b + 1 ≡ unknown_below f b
  unknown_less zero h none = absurd (omega arith)
  unknown_less (suc b) h none =
      ⊎_elim
      (λ (s : nat_eq b k ≡ true).
      let same : b ≡ k = (Decides-eqb b k).0 s in
      let with_it : g b ≡ Some made = ap g same ∙ here in
      let without_it : f b ≡ None = ap f same ∙ none in
      let rest = unknown_before b (omega arith) in
      let first : unknown_below g (suc b) ≡ 0 + unknown_below g b =
      ap (λ (o : Option TermId). (if is_some o then 0 else 1) + unknown_below g b) with_it in
      let second : unknown_below f (suc b) ≡ 1 + unknown_below f b =
      ap (λ (o : Option TermId). (if is_some o then 0 else 1) + unknown_below f b) without_it in
      omega arith)
      (λ (s : nat_eq b k ≡ false).
      let other : b ≢ k = λ (d : b ≡ k). let true_is : nat_eq b k ≡ true = (Decides-eqb b k).1 d in absurd cc in
      let rest = unknown_less b (omega arith) none in
      let first : unknown_below g (suc b) ≡ (if is_some (f b) then 0 else 1) + unknown_below g b =
      ap (λ (o : Option TermId). (if is_some o then 0 else 1) + unknown_below g b) (apart b other) in
      omega arith)
      (cases_Bool (nat_eq b k))

-- a way without a number that waits is at its start
pub way_start : (t : ℕ) (ns : List ℕ) (next : ℕ) → IsWay t ns next → ns ≡ [] → next ≡ t
way_start t ns next way e = subst (λ (ms : List ℕ). IsWay t ms next) e way
