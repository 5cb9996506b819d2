-- What enters a list is good: forms as the program keeps them, with parts, over variables below a number.
use Rattle.sm_omega.proofs.Imports.{◌≡◌, ◌<◌, ◌≤◌, ◌==◌, nat_lt, ℕ, suc, ℤ, pos, negsuc, neg_ℤ, nat_abs, ◌-ℤ◌, Bool, true, false, not, if◌then◌else◌, IsTrue, Some, None, List, [], ◌∷◌, map, refl, subst, arith, eqb-true, ltb-true, ltb-false, fits_form, Linear, AreParts, IsKept, Kind, Le, Outcome, Fits, Leaves, computed, with_part, combined, Add, Mul, is_negative, eliminated, has_no_part, tightened, is_contradictory, Gives, gives_both, gives_more, then_gives, computed_gives, with_part_has, each_more, AreAmong, floor_fits, neg_fits, tightened_among, parts_from, combined_kept, combined_among, eliminated_kept, eliminated_among, tightened_kept, same_atom, Done, Passed, Outside, Shallow, with_result, Item, Stay, Enter, Count, Entered, led, entering, entered, at, has, others, lower_bounds, upper_bounds, bounds_below, bounds_above, eliminated_item, quotient, modular_parts, modular, modular_item, shadow, shadows, standing, splinter, above_parts, above_all, AllKept}
use Rattle.sm_num.specs.Range.{exact}
use Rattle.sm_omega.proofs.EachLemmas.{each_append, each_made, each_filter}
use Rattle.sm_omega.proofs.Predicates.{EachOf, IsGood, IsListed, AreListed, IsGoodItem, AreGoodItems}

-- of the bounds of a variable from below
pub each_lower : (P : Linear ℕ → Type 0) (t : ℕ) (fs : List (Linear ℕ)) → EachOf P fs → EachOf P (lower_bounds t fs)
each_lower P t fs each = each_filter P (bounds_below t) fs each

-- from above
pub each_upper : (P : Linear ℕ → Type 0) (t : ℕ) (fs : List (Linear ℕ)) → EachOf P fs → EachOf P (upper_bounds t fs)
each_upper P t fs each = each_filter P (bounds_above t) fs each

-- what is so of each form of a list is so of each of those without the variable
pub each_others : (P : Linear ℕ → Type 0) (t : ℕ) (fs : List (Linear ℕ)) → EachOf P fs → EachOf P (others t fs)
each_others P t fs each = each_filter P (λ f. not (has t f)) fs each

-- a good form made tight is good
pub tightened_good : (s : ℕ) (f : Linear ℕ) → IsGood s f → IsGood s (tightened f)
tightened_good s f good =
    record { kept = tightened_kept f good.kept; below = tightened_among (λ (a : ℕ). a < s) f good.below }

-- what is below a number is below the next
pub good_above : (s : ℕ) (f : Linear ℕ) → IsGood s f → IsGood (suc s) f
good_above s f good = record {
  kept = good.kept;
  below = each_more same_atom (λ r. r.0 < s) (λ r. r.0 < suc s) (λ r less. omega (arith, less)) f.parts good.below;
}

-- a form of a list over variables below a number is one over those below the next
pub listed_above : (s : ℕ) (f : Linear ℕ) → IsListed s f → IsListed (suc s) f
listed_above s f listed = record { good = good_above s f listed.good; some = listed.some }

-- something is so of the list that entered, if there is one
abbrev pub ListHas : (List (Linear ℕ) → Type 0) → Entered → Type 0
ListHas P (Done c None) = Unit {0}
ListHas P (Done c (Some fs)) = P fs
ListHas P Passed = Unit {0}
ListHas P (Outside op y z) = Unit {0}
ListHas P Shallow = Unit {0}

-- a form of a list in front of a list
led_listed : (s : ℕ) (f : Linear ℕ) (rest : Entered) → IsListed s f → ListHas (AreListed s) rest → ListHas (AreListed s) (led f rest)
led_listed s f (Done c None) first more = tt
led_listed s f (Done c (Some fs)) first more = (first, more)
led_listed s f Passed first more = tt
led_listed s f (Outside op y z) first more = tt
led_listed s f Shallow first more = tt

-- a good form that enters: it is left out where it has no parts
entering_listed : (s c : ℕ) (f : Linear ℕ) (rest : Entered) → IsGood s f → ListHas (AreListed s) rest →
    ListHas (AreListed s) (entering c f rest)
entering_listed s c f rest good more = by (is_contradictory f) (has_no_part f.parts) refl
  where
    by : (b d : Bool) → has_no_part f.parts ≡ d →
        ListHas (AreListed s) (if b then Done c None else if d then rest else led f rest)
    by true d e = tt
    by false true e = more
    by false false e = led_listed s f rest (record { good = good; some = e }) more

-- good items make a list of good forms with parts
pub entered_has : (s limit : ℕ) (items : List Item) (c : ℕ) → AreGoodItems s items → ListHas (AreListed s) (entered limit items c)
entered_has s limit [] c good = tt
entered_has s limit (Stay f ∷ items) c good = led_listed s f (entered limit items c) good.0 (entered_has s limit items c good.1)
entered_has s limit (Enter f ∷ items) c good =
    entering_listed s c (tightened f) (entered limit items c) (tightened_good s f good.0) (entered_has s limit items c good.1)
entered_has s limit (Count outcome ∷ items) c good = by (nat_lt c limit) outcome good.0 (entered_has s limit items (suc c) good.1)
  where
    by : (b : Bool) (o : Outcome (Linear ℕ)) → Gives (IsGood s) o → ListHas (AreListed s) (entered limit items (suc c)) →
        ListHas (AreListed s)
        (if b then with_result o (λ (f : Linear ℕ). entering (suc c) (tightened f) (entered limit items (suc c))) else Passed)
    by true (Fits f) first more = entering_listed s (suc c) (tightened f) (entered limit items (suc c)) (tightened_good s f first) more
    by true (Leaves op y z) first more = tt
    by false o first more = tt

-- so what entered is a list of listed forms
pub entered_listed : (s limit : ℕ) (items : List Item) (c n : ℕ) (fs : List (Linear ℕ)) → AreGoodItems s items →
    entered limit items c ≡ Done n (Some fs) → AreListed s fs
entered_listed s limit items c n fs good e = subst (ListHas (AreListed s)) e (entered_has s limit items c good)

-- forms of a list may stand in the next
pub standing_good : (s : ℕ) (fs : List (Linear ℕ)) → AreListed s fs → AreGoodItems s (standing fs)
standing_good s fs each = each_made (IsListed s) (IsGoodItem s) Stay (λ f listed. listed) fs each

-- a kept form over variables below a number
good_of : (s : ℕ) (o : Outcome (Linear ℕ)) → Gives IsKept o → Gives (λ (h : Linear ℕ). AreAmong (λ (a : ℕ). a < s) h.parts) o →
    Gives (IsGood s) o
good_of s o first second =
    gives_more (λ (h : Linear ℕ). IsKept h × AreAmong (λ (a : ℕ). a < s) h.parts) (IsGood s) o
    (gives_both IsKept (λ (h : Linear ℕ). AreAmong (λ (a : ℕ). a < s) h.parts) o first second)
    (λ (h : Linear ℕ) both. record { kept = both.0; below = both.1 })

-- a sum of good forms is good
pub combined_good : (s : ℕ) (f : Linear ℕ) (p : ℤ) (g : Linear ℕ) (q : ℤ) (kind : Kind) → IsGood s f → IsGood s g →
    Gives (IsGood s) (combined f p g q kind)
combined_good s f p g q kind first second =
    good_of s (combined f p g q kind) (combined_kept f g p q kind first.kept second.kept)
    (combined_among (λ (a : ℕ). a < s) f g p q kind first.below second.below)

-- the form in which a variable of two good forms cancels is good
pub eliminated_good : (s : ℕ) (f g : Linear ℕ) (t : ℕ) → IsGood s f → IsGood s g → Gives (IsGood s) (eliminated f g t)
eliminated_good s f g t first second =
    good_of s (eliminated f g t) (eliminated_kept f g t first.kept second.kept)
    (eliminated_among (λ (a : ℕ). a < s) f g t first.below second.below)

-- what becomes of forms by an equation with coefficient 1
pub eliminated_items_good : (s : ℕ) (e : Linear ℕ) (t : ℕ) (gs : List (Linear ℕ)) → IsGood s e → AreListed s gs →
    AreGoodItems s (map (eliminated_item e t) gs)
eliminated_items_good s e t gs good each =
    each_made (IsListed s) (IsGoodItem s) (eliminated_item e t) (λ f listed. item f listed (has t f)) gs each
  where
    item : (f : Linear ℕ) → IsListed s f → (b : Bool) → IsGoodItem s (if b then Count (eliminated f e t) else Stay f)
    item f listed true = eliminated_good s f e t listed.good good
    item f listed false = listed

-- by any other
pub modular_items_good : (s : ℕ) (d : Linear ℕ) (t : ℕ) (fs : List (Linear ℕ)) → IsGood (suc s) d → AreListed s fs →
    AreGoodItems (suc s) (map (modular_item d t) fs)
modular_items_good s d t fs good each =
    each_made (IsListed s) (IsGoodItem (suc s)) (modular_item d t) (λ f listed. item f listed (has t f)) fs each
  where
    item : (f : Linear ℕ) → IsListed s f → (b : Bool) →
        IsGoodItem (suc s) (if b then Count (combined f (pos 1) d (at t f) f.kind) else Stay f)
    item f listed true = combined_good (suc s) f (pos 1) d (at t f) f.kind (good_above s f listed.good) good
    item f listed false = listed_above s f listed

-- a quotient of a number in the range is in it
quotient_fits : (c a : ℤ) → IsTrue (fits_form c) → IsTrue (fits_form (neg_ℤ (quotient c a)))
quotient_fits c a inside =
    neg_fits (quotient c a) (floor_fits (if is_negative a then neg_ℤ c else c) (nat_abs a) (by (is_negative a)))
  where
    by : (b : Bool) → IsTrue (fits_form (if b then neg_ℤ c else c))
    by true = neg_fits c inside
    by false = inside

-- the parts of a modular step ascend
modular_are_parts : (t : ℕ) (a : ℤ) (s least : ℕ) (ps : List (ℕ × ℤ)) → AreParts least ps → AreAmong (λ (x : ℕ). x < s) ps → least ≤ s →
    AreParts least (modular_parts t a s ps)
modular_are_parts t a s least [] parts below less = (less, refl, λ e. absurd cc, tt)
modular_are_parts t a s least (p ∷ ps) parts below less =
    by (p.0 == t) refl (modular_are_parts t a s (suc p.0) ps parts.3 below.1 below.0)
  where
    by : (b : Bool) → (p.0 == t) ≡ b → AreParts (suc p.0) (modular_parts t a s ps) →
        AreParts least
        (if b then (t, negsuc 0) ∷ modular_parts t a s ps else with_part p.0 (neg_ℤ (quotient p.1 a)) (modular_parts t a s ps))
    by true e rest =
        let here = eqb-true p.0 t e in (
          subst (λ (x : ℕ). least ≤ x) here parts.0,
          refl,
          λ zero. absurd cc,
          subst (λ (x : ℕ). AreParts (suc x) (modular_parts t a s ps)) here rest,
        )
    by false e rest =
        with_part_has (AreParts least) p.0 (neg_ℤ (quotient p.1 a)) (modular_parts t a s ps)
        (λ none. parts_from (suc p.0) least (modular_parts t a s ps) (omega (arith, parts.0)) rest)
        (λ some. (parts.0, quotient_fits p.1 a parts.1, some, rest))

-- over the old variables and the new one
modular_among : (t : ℕ) (a : ℤ) (s : ℕ) (ps : List (ℕ × ℤ)) → AreAmong (λ (x : ℕ). x < s) ps →
    AreAmong (λ (x : ℕ). x < suc s) (modular_parts t a s ps)
modular_among t a s [] below = (omega arith, tt)
modular_among t a s (p ∷ ps) below = by (p.0 == t) refl (modular_among t a s ps below.1)
  where
    by : (b : Bool) → (p.0 == t) ≡ b → AreAmong (λ (x : ℕ). x < suc s) (modular_parts t a s ps) →
        AreAmong (λ (x : ℕ). x < suc s)
        (if b then (t, negsuc 0) ∷ modular_parts t a s ps else with_part p.0 (neg_ℤ (quotient p.1 a)) (modular_parts t a s ps))
    by true e rest = (subst (λ (x : ℕ). x < suc s) (eqb-true p.0 t e) (omega (arith, below.0)), rest)
    by false e rest =
        with_part_has (AreAmong (λ (x : ℕ). x < suc s)) p.0 (neg_ℤ (quotient p.1 a)) (modular_parts t a s ps) (λ none. rest)
        (λ some. (omega (arith, below.0), rest))

-- the equation of a modular step is good
pub modular_good : (s t : ℕ) (a : ℤ) (e : Linear ℕ) → IsGood s e → IsGood (suc s) (modular t a s e)
modular_good s t a e good = record {
  kept = record {
    parts = modular_are_parts t a s 0 e.parts good.kept.parts good.below (omega arith);
    constant = quotient_fits e.constant a good.kept.constant;
  };
  below = modular_among t a s e.parts good.below;
}

-- the form of a dark shadow is good
pub shadow_good : (s t : ℕ) (l u : Linear ℕ) → IsGood s l → IsGood s u → Gives (IsGood s) (shadow t l u)
shadow_good s t l u first second =
    then_gives (IsGood s) (IsGood s) (combined l (at t u) u (neg_ℤ (at t l)) Le) _
    (combined_good s l (at t u) u (neg_ℤ (at t l)) Le first second)
    (λ (h : Linear ℕ) (good : IsGood s h).
    then_gives (λ (y : ℤ). Unit {0}) (IsGood s) (computed Mul (at t u -ℤ pos 1) (neg_ℤ (at t l) -ℤ pos 1)) _ any
    (λ (y : ℤ) none.
    then_gives (λ (z : ℤ). (z ≡ exact Add y h.constant) × IsTrue (fits_form z)) (IsGood s) (computed Add y h.constant) _
    (computed_gives Add y h.constant)
    (λ (z : ℤ) number. record { kept = record { parts = good.kept.parts; constant = number.1 }; below = good.below })))
  where
    any : Gives (λ (y : ℤ). Unit {0}) (computed Mul (at t u -ℤ pos 1) (neg_ℤ (at t l) -ℤ pos 1))
    any = gives_more _ (λ (y : ℤ). Unit {0}) (computed Mul (at t u -ℤ pos 1) (neg_ℤ (at t l) -ℤ pos 1))
        (computed_gives Mul (at t u -ℤ pos 1) (neg_ℤ (at t l) -ℤ pos 1)) (λ y number. tt)

-- the forms of the dark shadows of all pairs of bounds are good
pub shadows_good : (s t : ℕ) (ls us : List (Linear ℕ)) → AreListed s ls → AreListed s us → AreGoodItems s (shadows t ls us)
shadows_good s t [] us lower upper = tt
shadows_good s t (l ∷ ls) us lower upper =
    each_append (IsGoodItem s) (map (λ u. Count (shadow t l u)) us) (shadows t ls us)
    (each_made (IsListed s) (IsGoodItem s) (λ u. Count (shadow t l u)) (λ u listed. shadow_good s t l u lower.0.good listed.good) us upper)
    (shadows_good s t ls us lower.1 upper)

-- a splinter is good
pub splinter_good : (s : ℕ) (l : Linear ℕ) (i : ℕ) → IsGood s l → Gives (IsGood s) (splinter l i)
splinter_good s l i good =
    then_gives (λ (z : ℤ). (z ≡ exact Add l.constant (pos i)) × IsTrue (fits_form z)) (IsGood s) (computed Add l.constant (pos i)) _
    (computed_gives Add l.constant (pos i))
    (λ (z : ℤ) number. record { kept = record { parts = good.kept.parts; constant = number.1 }; below = good.below })

-- a number above parts, from one on
parts_below : (ps : List (ℕ × ℤ)) (n s : ℕ) → above_parts ps n ≤ s → AreAmong (λ (a : ℕ). a < s) ps × (n ≤ s)
parts_below [] n s less = (tt, less)
parts_below (p ∷ ps) n s less =
    by (nat_lt p.0 n) refl (parts_below ps (if nat_lt p.0 n then n else suc p.0) s less)
  where
    by : (b : Bool) → nat_lt p.0 n ≡ b → AreAmong (λ (a : ℕ). a < s) ps × ((if b then n else suc p.0) ≤ s) →
        ((p.0 < s) × AreAmong (λ (a : ℕ). a < s) ps) × (n ≤ s)
    by true e both = ((omega (arith, ltb-true p.0 n e, both.1), both.0), both.1)
    by false e both = ((both.1, both.0), omega (arith, ltb-false p.0 n e, both.1))

-- kept forms below a number that is at least theirs
given_below : (s : ℕ) (fs : List (Linear ℕ)) → AllKept fs → above_all fs ≤ s → AreGoodItems s (map Enter fs)
given_below s [] kept less = tt
given_below s (f ∷ fs) kept less =
    let both = parts_below f.parts (above_all fs) s less in
    (record { kept = kept.0; below = both.0 }, given_below s fs kept.1 both.1)

-- given forms may enter
pub given_good : (fs : List (Linear ℕ)) → AllKept fs → AreGoodItems (above_all fs) (map Enter fs)
given_good fs kept = given_below (above_all fs) fs kept (omega arith)
