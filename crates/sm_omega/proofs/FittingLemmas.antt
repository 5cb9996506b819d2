-- What a list says that entered: all that was computed for it fits, and it says what the items said.
use Rattle.sm_omega.proofs.Imports.{◌≡◌, ◌↔◌, nat_lt, ℕ, suc, ℤ, pos, negsuc, ◌+ℤ◌, Bool, true, false, not, ◌&&◌, if◌then◌else◌, Some, None, List, [], ◌∷◌, refl, subst, arith, int_eq, ltb-false, Decides-int_eq, Linear, Satisfies, sum_of_parts, HoldsAt, Kind, Le, Eq, Outcome, Fits, Leaves, has_no_part, tightened, fails, is_contradictory, sums, Gives, Done, Passed, Outside, Shallow, with_result, Item, Stay, Enter, Count, Entered, led, entering, entered, Values, AllHold}
use Rattle.sm_num.proofs.TighteningSound.{tighten_means, contradictory_never}
use Rattle.sm_omega.proofs.Predicates.{EachOf, Fitting, ItemsHold}
use Rattle.sm_omega.proofs.ListedLemmas.{ListHas}

-- what is so of a list without its first form is so of it with the form
led_has : (X : Type 0) (f : Linear ℕ) (rest : Entered) → ListHas (λ fs. X) rest → ListHas (λ fs. X) (led f rest)
led_has X f (Done c None) more = tt
led_has X f (Done c (Some fs)) more = more
led_has X f Passed more = tt
led_has X f (Outside op y z) more = tt
led_has X f Shallow more = tt

-- what is so of a list is so where one form more enters, kept in front or left out
entering_has : (X : Type 0) (c : ℕ) (f : Linear ℕ) (rest : Entered) → ListHas (λ fs. X) rest → ListHas (λ fs. X) (entering c f rest)
entering_has X c f rest more = by (is_contradictory f) (has_no_part f.parts)
  where
    by : (b d : Bool) → ListHas (λ fs. X) (if b then Done c None else if d then rest else led f rest)
    by true d = tt
    by false true = more
    by false false = led_has X f rest more

-- what is so in any case is so of a list together with what is so of it
also_has : (X Y : Type 0) (rest : Entered) → X → ListHas (λ fs. Y) rest → ListHas (λ fs. X × Y) rest
also_has X Y (Done c None) first more = tt
also_has X Y (Done c (Some fs)) first more = (first, more)
also_has X Y Passed first more = tt
also_has X Y (Outside op y z) first more = tt
also_has X Y Shallow first more = tt

-- a list that entered has items that fit
entered_has_fitting : (limit : ℕ) (items : List Item) (c : ℕ) → ListHas (λ fs. EachOf Fitting items) (entered limit items c)
entered_has_fitting limit [] c = tt
entered_has_fitting limit (Stay f ∷ items) c =
    also_has (Unit {0}) (EachOf Fitting items) (led f (entered limit items c)) tt
    (led_has (EachOf Fitting items) f (entered limit items c) (entered_has_fitting limit items c))
entered_has_fitting limit (Enter f ∷ items) c =
    also_has (Unit {0}) (EachOf Fitting items) (entering c (tightened f) (entered limit items c)) tt
    (entering_has (EachOf Fitting items) c (tightened f) (entered limit items c) (entered_has_fitting limit items c))
entered_has_fitting limit (Count outcome ∷ items) c = by (nat_lt c limit) outcome (entered_has_fitting limit items (suc c))
  where
    by : (b : Bool) (o : Outcome (Linear ℕ)) → ListHas (λ fs. EachOf Fitting items) (entered limit items (suc c)) →
        ListHas (λ fs. ((h : Linear ℕ) × (o ≡ Fits h)) × EachOf Fitting items)
        (if b then with_result o (λ (f : Linear ℕ). entering (suc c) (tightened f) (entered limit items (suc c))) else Passed)
    by true (Fits h) more =
        also_has ((k : Linear ℕ) × (Fits h ≡ Fits k)) (EachOf Fitting items) (entering (suc c) (tightened h) (entered limit items (suc c)))
        (h, refl)
        (entering_has (EachOf Fitting items) (suc c) (tightened h) (entered limit items (suc c)) more)
    by true (Leaves op y z) more = tt
    by false o more = tt

-- where a list entered, all that was computed for it fits
pub entered_fitting : (limit : ℕ) (items : List Item) (c n : ℕ) (fs : List (Linear ℕ)) → entered limit items c ≡ Done n (Some fs) →
    EachOf Fitting items
entered_fitting limit items c n fs e = subst (ListHas (λ gs. EachOf Fitting items)) e (entered_has_fitting limit items c)

-- a form without parts holds, or is a contradiction
pub partless_holds : (v : Values) (f : Linear ℕ) → has_no_part f.parts ≡ true → is_contradictory f ≡ false → HoldsAt v f
partless_holds v f none fine = by f.parts f.kind f.constant none fine
  where
    by : (ps : List (ℕ × ℤ)) (kind : Kind) (c : ℤ) → has_no_part ps ≡ true → has_no_part ps && fails kind c ≡ false →
        Satisfies kind (sum_of_parts v ps +ℤ c)
    by [] Le (pos n) none fine = let least = ltb-false 0 n fine in omega (arith, sums, least)
    by [] Le (negsuc n) none fine = omega (arith, sums)
    by [] Eq c none fine =
        let zero : c ≡ pos 0 = (Decides-int_eq c (pos 0)).0 (not_false (int_eq c (pos 0)) fine) in
        omega (arith, sums, zero)
      where
        not_false : (b : Bool) → not b ≡ false → b ≡ true
        not_false true e = refl
        not_false false e = absurd cc
    by (p ∷ ps) kind c none fine = absurd cc

module _ (v : Values) where
  -- a list says what was said before, and a contradiction says that it is false
  abbrev Says : Type 0 → Entered → Type 0
  Says X (Done c None) = X → ⊥
  Says X (Done c (Some fs)) = X ↔ AllHold v fs
  Says X Passed = Unit {0}
  Says X (Outside op y z) = Unit {0}
  Says X Shallow = Unit {0}

  -- a form in front that says what an item says
  led_says : (X Y : Type 0) (f : Linear ℕ) (rest : Entered) → (X ↔ HoldsAt v f) → Says Y rest → Says (X × Y) (led f rest)
  led_says X Y f (Done c None) same more = λ both. more both.1
  led_says X Y f (Done c (Some fs)) same more =
      (λ (both : X × Y). (same.0 both.0, more.0 both.1), λ (both : HoldsAt v f × AllHold v fs). (same.1 both.0, more.1 both.1))
  led_says X Y f Passed same more = tt
  led_says X Y f (Outside op y z) same more = tt
  led_says X Y f Shallow same more = tt

  -- where the form holds anyway
  past_says : (X Y : Type 0) (rest : Entered) → X → Says Y rest → Says (X × Y) rest
  past_says X Y (Done c None) here more = λ both. more both.1
  past_says X Y (Done c (Some fs)) here more = (λ (both : X × Y). more.0 both.1, λ (all : AllHold v fs). (here, more.1 all))
  past_says X Y Passed here more = tt
  past_says X Y (Outside op y z) here more = tt
  past_says X Y Shallow here more = tt

  -- a form that enters
  entering_says : (X Y : Type 0) (c : ℕ) (f : Linear ℕ) (rest : Entered) → (X ↔ HoldsAt v f) → Says Y rest →
      Says (X × Y) (entering c f rest)
  entering_says X Y c f rest same more = by (is_contradictory f) (has_no_part f.parts) refl refl
    where
      by : (b d : Bool) → is_contradictory f ≡ b → has_no_part f.parts ≡ d →
          Says (X × Y) (if b then Done c None else if d then rest else led f rest)
      by true d never none = λ both. contradictory_never v f never (same.0 both.0)
      by false true fine none = past_says X Y rest (same.1 (partless_holds v f none fine)) more
      by false false fine some = led_says X Y f rest same more

  -- all that enters
  entered_tells : (limit : ℕ) (items : List Item) (c : ℕ) → Says (ItemsHold v items) (entered limit items c)
  entered_tells limit [] c = (λ all. tt, λ all. tt)
  entered_tells limit (Stay f ∷ items) c =
      led_says (HoldsAt v f) (ItemsHold v items) f (entered limit items c) (λ here. here, λ here. here) (entered_tells limit items c)
  entered_tells limit (Enter f ∷ items) c =
      entering_says (HoldsAt v f) (ItemsHold v items) c (tightened f) (entered limit items c) (tighten_means v f)
      (entered_tells limit items c)
  entered_tells limit (Count outcome ∷ items) c = by (nat_lt c limit) outcome (entered_tells limit items (suc c))
    where
      by : (b : Bool) (o : Outcome (Linear ℕ)) → Says (ItemsHold v items) (entered limit items (suc c)) →
          Says (Gives (HoldsAt v) o × ItemsHold v items)
          (if b then with_result o (λ (f : Linear ℕ). entering (suc c) (tightened f) (entered limit items (suc c))) else Passed)
      by true (Fits h) more =
          entering_says (HoldsAt v h) (ItemsHold v items) (suc c) (tightened h) (entered limit items (suc c)) (tighten_means v h) more
      by true (Leaves op y z) more = tt
      by false o more = tt

  -- what entered holds exactly where the items do
  pub entered_says : (limit : ℕ) (items : List Item) (c n : ℕ) (fs : List (Linear ℕ)) → entered limit items c ≡ Done n (Some fs) →
      ItemsHold v items ↔ AllHold v fs
  entered_says limit items c n fs e = subst (Says (ItemsHold v items)) e (entered_tells limit items c)

  -- where a contradiction was met, the items don't hold
  pub entered_refutes : (limit : ℕ) (items : List Item) (c n : ℕ) → entered limit items c ≡ Done n None → ItemsHold v items → ⊥
  entered_refutes limit items c n e = subst (Says (ItemsHold v items)) e (entered_tells limit items c)
