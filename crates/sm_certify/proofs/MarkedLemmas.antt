-- Marks go from a sum to the forms of which it is made, the last sum first.
use Rattle.sm_certify.proofs.Imports.{◌≡◌, ℕ, zero, suc, ◌<◌, ◌≤◌, ◌+◌, ◌-◌, Bool, IsTrue, List, [], ◌∷◌, length, drop, get_or, sym, subst, ◌∙◌, arith, drop_more, ElimLine, mark_at, AreMarked, ArePlaces, MarksSum}

-- the form that can't hold is among forms and sums
pub bad_below : (at : ℕ) (es : List ElimLine) (bad : ℕ) → ArePlaces at es bad → bad < at + length es
bad_below at [] bad h = omega (arith, h)
bad_below at (e ∷ es) bad h = let rest = bad_below (suc at) es bad h.2 in omega (arith, rest)

-- the forms of a sum stand before it
pub places_at : (at : ℕ) (es : List ElimLine) (bad : ℕ) → ArePlaces at es bad → (j : ℕ) (d : ElimLine) → j < length es →
    ((get_or es j d).f < at + j) × ((get_or es j d).g < at + j)
places_at at [] bad h j d less = absurd (omega (arith, less))
places_at at (e ∷ es) bad h zero d less = (omega (arith, h.0), omega (arith, h.1))
places_at at (e ∷ es) bad h (suc j) d less =
    let within : j < length es = omega (arith, less) in
    let rest = places_at (suc at) es bad h.2 j d within in
    (omega (arith, rest.0), omega (arith, rest.1))

-- the forms of the next sum are among marks
pub sum_below : (first : ℕ) (es : List ElimLine) (bad left n : ℕ) (d : ElimLine) → ArePlaces first es bad → 0 < left → left ≤ length es →
    n ≡ first + length es → ((get_or es (left - 1) d).f < n) × ((get_or es (left - 1) d).g < n)
sum_below first es bad left n d places some within count =
    let less : left - 1 < length es = omega (arith, some, within) in
    let p = places_at first es bad places (left - 1) d less in
    (omega (arith, p.0, less, count), omega (arith, p.1, less, count))

-- marks at earlier places
marked_more : (a c : List Bool) (least at : ℕ) (es : List ElimLine) (bad : ℕ) → ((k : ℕ) → IsTrue (mark_at a k) → IsTrue (mark_at c k)) →
    ((k : ℕ) → least ≤ k → mark_at c k ≡ mark_at a k) → least ≤ at → AreMarked (mark_at a) at es bad → AreMarked (mark_at c) at es bad
marked_more a c least at [] bad kept same low h = kept bad h
marked_more a c least at (e ∷ es) bad kept same low h = (
  λ here. let both = h.0 (sym (same at low) ∙ here) in (kept e.f both.0, kept e.g both.1),
  marked_more a c least (suc at) es bad kept same (omega (arith, low)) h.1,
)

-- a sum is marked before those behind it
marked_step : (a c : List Bool) (at : ℕ) (e : ElimLine) (es : List ElimLine) (bad : ℕ) → MarksSum a c at e → e.f < at → e.g < at →
    AreMarked (mark_at a) (suc at) es bad → AreMarked (mark_at c) at (e ∷ es) bad
marked_step a c at e es bad s f g h = (
  λ here. s.both (sym (s.above at f g) ∙ here),
  marked_more a c at (suc at) es bad s.kept (λ k low. s.above k (omega (arith, f, low)) (omega (arith, g, low))) (omega arith) h,
)

-- the next sum is marked
pub marked_next : (a c : List Bool) (first : ℕ) (es : List ElimLine) (bad left : ℕ) (d : ElimLine) → ArePlaces first es bad → 0 < left →
    left ≤ length es → MarksSum a c (first + (left - 1)) (get_or es (left - 1) d) →
    AreMarked (mark_at a) (first + left) (drop left es) bad →
    AreMarked (mark_at c) (first + (left - 1)) (drop (left - 1) es) bad
marked_next a c first es bad left d places some within s h =
    let j = left - 1 in
    let below : j < length es = omega (arith, some, within) in
    let p = places_at first es bad places j d below in
    let next : left ≡ j + 1 = omega (arith, some) in
    let at : first + left ≡ suc (first + j) = omega (arith, some) in
    let rest : AreMarked (mark_at a) (suc (first + j)) (drop (j + 1) es) bad =
    subst (λ (n : ℕ). AreMarked (mark_at a) n (drop (j + 1) es) bad) at
    (subst (λ (n : ℕ). AreMarked (mark_at a) (first + left) (drop n es) bad) next h) in
    subst (λ (l : List ElimLine). AreMarked (mark_at c) (first + j) l bad) (sym (drop_more es j d below))
    (marked_step a c (first + j) (get_or es j d) (drop (j + 1) es) bad s p.0 p.1 rest)
