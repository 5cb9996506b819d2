-- Splinters: where the dark shadow of a solution fails, the solution is near to a lower bound, and
-- where all splinters are refuted there is none such.
use Rattle.sm_omega.proofs.Imports.{◌≡◌, ◌↔◌, ◌<◌, ◌≤◌, ◌+◌, ℕ, zero, suc, ℤ, pos, negsuc, neg_ℤ, nat_abs, ◌+ℤ◌, ◌-ℤ◌, ◌*ℤ◌, ◌≤ℤ◌, ◌<ℤ◌, true, IsTrue, Some, None, List, [], ◌∷◌, ◌++◌, map, refl, sym, subst, ⊎_elim, arith, fits_form, Linear, Satisfies, HoldsAt, sum_of_parts, Kind, Le, value_of_form, Outcome, Fits, Leaves, computed, Add, Sub, Mul, floor_of, sums, ring, Gives, gives_fits, gives_more, then_gives, computed_gives, floor_galois, Done, Passed, Outside, Shallow, Count, with_result, Values, at, bounds_below, bounds_above, lower_bounds, upper_bounds, others, Answer, solved, or_else, shadow, shadows, standing, greatest_at, numbers_to, splinters_at, splinter, by_splinters, by_all_splinters, AllHold, negative_below}
use Rattle.std.proofs.Math.Nat.{eq-or-lt_of_le}
use Rattle.sm_omega.proofs.Predicates.{EachOf, ItemHolds, ItemsHold, Decides}
use Rattle.sm_omega.proofs.OmegaNumbers.{IsNearBy, ordered, splinter_serves, other_above, greatest_above}
use Rattle.sm_omega.proofs.ValueLemmas.{value_split}
use Rattle.sm_omega.proofs.EachLemmas.{each_filter, each_append, each_front, filter_passes, each_unmap, all_each}
use Rattle.sm_omega.proofs.Bounds.{NoEquations, others_hold}
use Rattle.sm_omega.proofs.Shadows.{rest_at, shadow_at, shadow_gives, standing_holds, holds_standing}

-- a number that is at most another is one of those up to it
numbers_above : (x : ℤ) (i : ℕ) → pos i ≤ℤ x → i < numbers_to x
numbers_above (pos n) i h = omega (arith, sums)
numbers_above (negsuc n) i h = absurd (omega (arith, sums))

-- what m times is at most a number is at most its quotient by m
quotient_above : (m z : ℤ) (i : ℕ) → pos 0 <ℤ m → (m *ℤ pos i) ≤ℤ z → pos i ≤ℤ floor_of z (nat_abs m)
quotient_above (pos d) z i some h = (floor_galois (pos i) z d (omega (arith, sums))).0 h
quotient_above (negsuc d) z i some h = absurd (omega (arith, sums))

-- each distance that is near is counted among the splinters
pub splinters_count : (m b : ℤ) (i : ℕ) → pos 0 <ℤ m → IsNearBy m b (pos i) → Gives (λ (n : ℕ). i < n) (splinters_at m b)
splinters_count m b i some near =
    let Goal : ℕ → Type 0 = λ (n : ℕ). i < n in
    then_gives (λ (x : ℤ). (x ≡ m *ℤ b) × IsTrue (fits_form x)) Goal (computed Mul m b) _ (computed_gives Mul m b)
    (λ (x : ℤ) (first : (x ≡ m *ℤ b) × IsTrue (fits_form x)).
    then_gives (λ (y : ℤ). (y ≡ x -ℤ m) × IsTrue (fits_form y)) Goal (computed Sub x m) _ (computed_gives Sub x m)
    (λ (y : ℤ) (second : (y ≡ x -ℤ m) × IsTrue (fits_form y)).
    then_gives (λ (z : ℤ). (z ≡ y -ℤ b) × IsTrue (fits_form z)) Goal (computed Sub y b) _ (computed_gives Sub y b)
    (λ (z : ℤ) (third : (z ≡ y -ℤ b) × IsTrue (fits_form z)).
    let most : (m *ℤ pos i) ≤ℤ z = omega (arith, sums, near.1, first.0, second.0, third.0) in
    numbers_above (floor_of z (nat_abs m)) i (quotient_above m z i some most))))

-- a splinter says that the lower bound's value is so far below 0
pub splinter_gives : (v : Values) (l : Linear ℕ) (i : ℕ) →
    Gives (λ (h : Linear ℕ). HoldsAt v h ↔ (value_of_form v l +ℤ pos i ≡ pos 0)) (splinter l i)
splinter_gives v l i =
    then_gives (λ (z : ℤ). (z ≡ l.constant +ℤ pos i) × IsTrue (fits_form z))
    (λ (h : Linear ℕ). HoldsAt v h ↔ (value_of_form v l +ℤ pos i ≡ pos 0)) (computed Add l.constant (pos i)) _
    (computed_gives Add l.constant (pos i))
    (λ (z : ℤ) (first : (z ≡ l.constant +ℤ pos i) × IsTrue (fits_form z)). says (sum_of_parts v l.parts) l.constant (pos i) z first.0)
  where
    says : (s c i z : ℤ) → z ≡ c +ℤ i → (s +ℤ z ≡ pos 0) ↔ ((s +ℤ c) +ℤ i ≡ pos 0)
    says s c i z e = (λ (h : s +ℤ z ≡ pos 0). omega (arith, sums), λ (h : (s +ℤ c) +ℤ i ≡ pos 0). omega (arith, sums))

-- values are on none of the splinters of a lower bound, whose number fits
pub record IsFar (t : ℕ) (m : ℤ) (v : Values) (l : Linear ℕ) : Type 0 where
  pub count : ℕ
  pub is : splinters_at m (neg_ℤ (at t l)) ≡ Fits count
  pub far : (i : ℕ) → i < count → value_of_form v l +ℤ pos i ≡ pos 0 → ⊥

-- a form that is no equation and holds has a value of at most 0
holds_most : (v : Values) (f : Linear ℕ) → f.kind ≡ Le → HoldsAt v f → value_of_form v f ≤ℤ pos 0
holds_most v f le holds = subst (λ (k : Kind). Satisfies k (value_of_form v f)) le holds

-- a number that isn't below 0
from_zero : (x : ℤ) → pos 0 ≤ℤ x → (i : ℕ) × (x ≡ pos i)
from_zero (pos n) h = (n, refl)
from_zero (negsuc n) h = absurd (omega (arith, sums))

-- where values satisfy a lower bound, far from it, and an upper bound, their dark shadow holds
shadow_most : (t : ℕ) (m : ℤ) (v : Values) (l u : Linear ℕ) → l.kind ≡ Le → bounds_below t l ≡ true → HoldsAt v l → IsFar t m v l →
    u.kind ≡ Le → bounds_above t u ≡ true → HoldsAt v u → at t u ≤ℤ m → shadow_at t v l u ≤ℤ pos 0
shadow_most t m v l u lower below first far upper above second most =
    ⊎_elim (λ (dark : shadow_at t v l u ≤ℤ pos 0). dark)
    (λ (bright : pos 0 <ℤ shadow_at t v l u). absurd (near bright))
    (ordered (shadow_at t v l u) (pos 0))
  where
    a_some : pos 0 <ℤ at t u
    a_some = other_above (at t u) above

    b_some : pos 0 <ℤ neg_ℤ (at t l)
    b_some = let under = negative_below (at t l) below in omega (arith, sums)

    turned : (c z : ℤ) → neg_ℤ c *ℤ z ≡ neg_ℤ (c *ℤ z)
    turned c z = simp ring (omega (arith, sums))

    distance : (neg_ℤ (at t l) *ℤ v t) -ℤ rest_at t v l ≡ neg_ℤ (value_of_form v l)
    distance = let split = value_split t v l in let other = turned (at t l) (v t) in omega (arith, sums)

    over : rest_at t v l ≤ℤ (neg_ℤ (at t l) *ℤ v t)
    over = let value = holds_most v l lower first in let gap = distance in omega (arith, sums)

    under : ((at t u *ℤ v t) +ℤ rest_at t v u) ≤ℤ pos 0
    under = subst (λ (x : ℤ). x ≤ℤ pos 0) (value_split t v u) (holds_most v u upper second)

    near : pos 0 <ℤ shadow_at t v l u → ⊥
    near bright =
        let b = neg_ℤ (at t l) in
        let close = splinter_serves (at t u) b m (rest_at t v l) (rest_at t v u) (v t) a_some most b_some over under bright in
        let i = from_zero ((b *ℤ v t) -ℤ rest_at t v l) close.0 in
        let counted = splinters_count m b i.0 (omega (arith, sums, a_some)) (subst (IsNearBy m b) i.1 close) in
        let few = gives_fits (λ (n : ℕ). i.0 < n) (splinters_at m b) far.count counted far.is in
        let gap = distance in
        far.far i.0 few (omega (arith, sums, i.1))

-- so do those of a list of upper bounds
row_dark : (t : ℕ) (m : ℤ) (v : Values) (l : Linear ℕ) (us : List (Linear ℕ)) → l.kind ≡ Le → bounds_below t l ≡ true → HoldsAt v l →
    IsFar t m v l → NoEquations us → EachOf (λ (u : Linear ℕ). bounds_above t u ≡ true) us → EachOf (λ (u : Linear ℕ). HoldsAt v u) us →
    EachOf (λ (u : Linear ℕ). at t u ≤ℤ m) us → ItemsHold v (map (λ u. Count (shadow t l u)) us)
row_dark t m v l [] lower below first far les above holds most = tt
row_dark t m v l (u ∷ us) lower below first far les above holds most = (
  gives_more (λ (h : Linear ℕ). (h.kind ≡ Le) × (value_of_form v h ≡ shadow_at t v l u)) (λ (h : Linear ℕ). HoldsAt v h) (shadow t l u)
      (shadow_gives t v l u)
      (λ (h : Linear ℕ) (says : (h.kind ≡ Le) × (value_of_form v h ≡ shadow_at t v l u)).
      subst (λ (k : Kind). Satisfies k (value_of_form v h)) (sym says.0)
      (subst (λ (x : ℤ). x ≤ℤ pos 0) (sym says.1)
      (shadow_most t m v l u lower below first far les.0 above.0 holds.0 most.0))),
  row_dark t m v l us lower below first far les.1 above.1 holds.1 most.1,
)

-- for each lower bound
rows_dark : (t : ℕ) (m : ℤ) (v : Values) (ls us : List (Linear ℕ)) → NoEquations ls →
    EachOf (λ (l : Linear ℕ). bounds_below t l ≡ true) ls →
    EachOf (λ (l : Linear ℕ). HoldsAt v l) ls → EachOf (IsFar t m v) ls → NoEquations us →
    EachOf (λ (u : Linear ℕ). bounds_above t u ≡ true) us → EachOf (λ (u : Linear ℕ). HoldsAt v u) us →
    EachOf (λ (u : Linear ℕ). at t u ≤ℤ m) us → ItemsHold v (shadows t ls us)
rows_dark t m v [] us lower below first far les above holds most = tt
rows_dark t m v (l ∷ ls) us lower below first far les above holds most =
    each_append (ItemHolds v) (map (λ u. Count (shadow t l u)) us) (shadows t ls us)
    (row_dark t m v l us lower.0 below.0 first.0 far.0 les above holds most)
    (rows_dark t m v ls us lower.1 below.1 first.1 far.1 les above holds most)

-- a solution that is far from all lower bounds satisfies the dark shadows
pub far_is_dark : (t : ℕ) (fs : List (Linear ℕ)) (v : Values) (ls us : List (Linear ℕ)) → NoEquations fs → lower_bounds t fs ≡ ls →
    upper_bounds t fs ≡ us → AllHold v fs → EachOf (IsFar t (greatest_at t us) v) ls →
    ItemsHold v (standing (others t fs) ++ shadows t ls us)
far_is_dark t fs v ls us les lower upper all far =
    let IsLe : Linear ℕ → Type 0 = λ (f : Linear ℕ). f.kind ≡ Le in
    let Holds : Linear ℕ → Type 0 = λ (f : Linear ℕ). HoldsAt v f in
    let each = all_each v fs all in
    each_append (ItemHolds v) (standing (others t fs)) (shadows t ls us) (holds_standing v (others t fs) (others_hold t v fs all))
    (rows_dark t (greatest_at t us) v ls us
    (subst NoEquations lower (each_filter IsLe (bounds_below t) fs les))
    (subst (EachOf (λ (f : Linear ℕ). bounds_below t f ≡ true)) lower (filter_passes (bounds_below t) fs))
    (subst (EachOf Holds) lower (each_filter Holds (bounds_below t) fs each)) far
    (subst NoEquations upper (each_filter IsLe (bounds_above t) fs les))
    (subst (EachOf (λ (f : Linear ℕ). bounds_above t f ≡ true)) upper (filter_passes (bounds_above t) fs))
    (subst (EachOf Holds) upper (each_filter Holds (bounds_above t) fs each))
    (each_unmap (λ (y : ℤ). y ≤ℤ greatest_at t us) (at t) us (greatest_above (map (at t) us))))

-- an answer is a solution, or gives a fact where there is none
abbrev pub Comes : (Values → Type 0) → Type 0 → Answer → Type 0
Comes Meets Refuted (Done c None) = Refuted
Comes Meets Refuted (Done c (Some v)) = Meets v
Comes Meets Refuted Passed = Unit {0}
Comes Meets Refuted (Outside op y z) = Unit {0}
Comes Meets Refuted Shallow = Unit {0}

-- another fact
pub comes_more : (Meets : Values → Type 0) (P Q : Type 0) (answer : Answer) → (P → Q) → Comes Meets P answer → Comes Meets Q answer
comes_more Meets P Q (Done c None) step comes = step comes
comes_more Meets P Q (Done c (Some v)) step comes = comes
comes_more Meets P Q Passed step comes = tt
comes_more Meets P Q (Outside op y z) step comes = tt
comes_more Meets P Q Shallow step comes = tt

-- where an answer is right of something narrower, and what comes after it gives a fact
pub or_else_comes : (Meets Narrow : Values → Type 0) (P Q : Type 0) (answer : Answer) (next : ℕ → Answer) → Decides Narrow answer →
    ((v : Values) → Narrow v → Meets v) → ((c : ℕ) → Comes Meets P (next c)) → (P → ((v : Values) → Narrow v → ⊥) → Q) →
    Comes Meets Q (or_else answer next)
or_else_comes Meets Narrow P Q (Done c None) next right wide rest step =
    comes_more Meets P Q (next c) (λ (p : P). step p right) (rest c)
or_else_comes Meets Narrow P Q (Done c (Some v)) next right wide rest step = wide v right
or_else_comes Meets Narrow P Q Passed next right wide rest step = tt
or_else_comes Meets Narrow P Q (Outside op y z) next right wide rest step = tt
or_else_comes Meets Narrow P Q Shallow next right wide rest step = tt

module _ (limit : ℕ) (solve : List (Linear ℕ) → ℕ → Answer) (fs : List (Linear ℕ)) where
  -- the solver is right of a list with each of the splinters of a bound
  abbrev pub IsRightOf : Linear ℕ → Type 0
  IsRightOf l =
      (i c : ℕ) → Decides (λ (v : Values). ItemsHold v (standing fs ++ Count (splinter l i) ∷ []))
      (solved limit solve (standing fs ++ Count (splinter l i) ∷ []) c)

  -- no solution of the list is on one of so many splinters of a bound, from one of them on
  abbrev pub NoneOn : Linear ℕ → ℕ → ℕ → Type 0
  NoneOn l more i = (v : Values) → AllHold v fs → (j : ℕ) → i ≤ j → j < i + more → value_of_form v l +ℤ pos j ≡ pos 0 → ⊥

  -- a solution on a splinter satisfies the list with the splinter
  on_splinter : (l : Linear ℕ) (i : ℕ) (v : Values) → AllHold v fs → value_of_form v l +ℤ pos i ≡ pos 0 →
      ItemsHold v (standing fs ++ Count (splinter l i) ∷ [])
  on_splinter l i v all on =
      each_append (ItemHolds v) (standing fs) (Count (splinter l i) ∷ []) (holds_standing v fs all) (
        gives_more (λ (h : Linear ℕ). HoldsAt v h ↔ (value_of_form v l +ℤ pos i ≡ pos 0)) (λ (h : Linear ℕ). HoldsAt v h) (splinter l i)
            (splinter_gives v l i) (λ h says. says.1 on),
        tt,
      )

  -- one splinter more
  none_more : (l : Linear ℕ) (more i : ℕ) → NoneOn l more (suc i) →
      ((v : Values) → ItemsHold v (standing fs ++ Count (splinter l i) ∷ []) → ⊥) → NoneOn l (suc more) i
  none_more l more i rest here v all j low high on =
      ⊎_elim
      (λ (same : i ≡ j). here v (on_splinter l i v all (subst (λ (k : ℕ). value_of_form v l +ℤ pos k ≡ pos 0) (sym same) on)))
      (λ (above : i < j). rest v all j above (omega arith) on) (eq-or-lt_of_le low)

  -- the splinters of one bound
  pub splinters_right : (N : Type 0) (l : Linear ℕ) (more i : ℕ) (next : ℕ → Answer) → IsRightOf l →
      ((c : ℕ) → Comes (λ (v : Values). AllHold v fs) N (next c)) → (c : ℕ) →
      Comes (λ (v : Values). AllHold v fs) (N × NoneOn l more i) (by_splinters limit solve fs l more i next c)
  splinters_right N l zero i next right rest c =
      comes_more (λ (v : Values). AllHold v fs) N (N × NoneOn l 0 i) (next c)
      (λ (n : N). (n, λ v all j low high on. absurd (omega arith))) (rest c)
  splinters_right N l (suc more) i next right rest c =
      or_else_comes (λ (v : Values). AllHold v fs) (λ (v : Values). ItemsHold v (standing fs ++ Count (splinter l i) ∷ []))
      (N × NoneOn l more (suc i)) (N × NoneOn l (suc more) i) (solved limit solve (standing fs ++ Count (splinter l i) ∷ []) c)
      (by_splinters limit solve fs l more (suc i) next) (right i c)
      (λ v holds. standing_holds v fs (each_front (ItemHolds v) (standing fs) (Count (splinter l i) ∷ []) holds))
      (splinters_right N l more (suc i) next right rest)
      (λ (both : N × NoneOn l more (suc i)) (here : (v : Values) → ItemsHold v (standing fs ++ Count (splinter l i) ∷ []) → ⊥).
      (both.0, none_more l more i both.1 here))

  -- the splinters of all bounds: a solution of the list, or each solution is far from them
  pub all_splinters_right : (t : ℕ) (m : ℤ) (ls : List (Linear ℕ)) → EachOf IsRightOf ls → (c : ℕ) →
      Comes (λ (v : Values). AllHold v fs) ((v : Values) → AllHold v fs → EachOf (IsFar t m v) ls)
      (by_all_splinters limit solve fs t m ls c)
  all_splinters_right t m [] right c = λ v all. tt
  all_splinters_right t m (l ∷ ls) right c =
      by (splinters_at m (neg_ℤ (at t l))) refl (all_splinters_right t m ls right.1)
    where
      by : (counted : Outcome ℕ) → splinters_at m (neg_ℤ (at t l)) ≡ counted →
          ((d : ℕ) → Comes (λ (v : Values). AllHold v fs) ((v : Values) → AllHold v fs → EachOf (IsFar t m v) ls)
          (by_all_splinters limit solve fs t m ls d)) →
          Comes (λ (v : Values). AllHold v fs) ((v : Values) → AllHold v fs → EachOf (IsFar t m v) (l ∷ ls))
          (with_result counted (λ (n : ℕ). by_splinters limit solve fs l n 0 (by_all_splinters limit solve fs t m ls) c))
      by (Fits n) e rest =
          let Far : Type 0 = (v : Values) → AllHold v fs → EachOf (IsFar t m v) ls in
          comes_more (λ (v : Values). AllHold v fs) (Far × NoneOn l n 0)
          ((v : Values) → AllHold v fs → EachOf (IsFar t m v) (l ∷ ls))
          (by_splinters limit solve fs l n 0 (by_all_splinters limit solve fs t m ls) c)
          (λ (both : Far × NoneOn l n 0) (v : Values) (all : AllHold v fs).
          (record { count = n; is = e; far = λ i few on. both.1 v all i (omega arith) (omega arith) on }, both.0 v all))
          (splinters_right Far l n 0 (by_all_splinters limit solve fs t m ls) right.0 rest c)
      by (Leaves op y z) e rest = tt
