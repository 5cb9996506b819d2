-- Lists that are split by a variable, form by form.
use Rattle.sm_exact.proofs.Imports.{◌≡◌, ℕ, Bool, true, false, if◌then◌else◌, not, List, [], ◌∷◌, ◌++◌, refl, sym, ap, ◌∙◌, filter-append, Linear, has, bounds_below, bounds_above, others, lower_bounds, upper_bounds, Splits}
use Rattle.std.specs.List.{filter}
use Rattle.sm_exact.specs.declared.splitting.Sides.{Sides}

-- what a test keeps, behind what it kept
kept_more : (test : Linear ℕ → Bool) (fs : List (Linear ℕ)) (f : Linear ℕ) (old new : List (Linear ℕ)) → old ≡ filter test fs →
    new ≡ old ++ filter test (f ∷ []) → new ≡ filter test (fs ++ f ∷ [])
kept_more test fs f old new before after =
    after ∙ ap (λ l. l ++ filter test (f ∷ [])) before ∙ sym (filter-append test fs (f ∷ []))

-- a form more
pub splits_more : (t : ℕ) (fs : List (Linear ℕ)) (f : Linear ℕ) (old new : Sides) → Splits t fs old →
    new.others.items ≡ old.others.items ++ others t (f ∷ []) → new.lower.items ≡ old.lower.items ++ lower_bounds t (f ∷ []) →
    new.upper.items ≡ old.upper.items ++ upper_bounds t (f ∷ []) → Splits t (fs ++ f ∷ []) new
splits_more t fs f old new splits first second third = record {
  others = kept_more (λ g. not (has t g)) fs f old.others.items new.others.items splits.others first;
  lower = kept_more (bounds_below t) fs f old.lower.items new.lower.items splits.lower second;
  upper = kept_more (bounds_above t) fs f old.upper.items new.upper.items splits.upper third;
}

-- what is kept twice is kept once
pub filter_twice : (test : Linear ℕ → Bool) (fs : List (Linear ℕ)) → filter test (filter test fs) ≡ filter test fs
filter_twice test [] = refl
filter_twice test (f ∷ fs) = by (test f) refl (filter_twice test fs)
  where
    by : (b : Bool) → test f ≡ b → filter test (filter test fs) ≡ filter test fs →
        filter test (if b then f ∷ filter test fs else filter test fs) ≡ (if b then f ∷ filter test fs else filter test fs)
    by true e more =
        ap (λ (b : Bool). if b then f ∷ filter test (filter test fs) else filter test (filter test fs)) e
        ∙ ap (λ l. f ∷ l) more
    by false e more = more
