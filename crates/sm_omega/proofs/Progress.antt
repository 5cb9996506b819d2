-- Each rule makes progress: what counts and forms are left gets less. Where a list of any forms would stay as it is, the depth ends.
use Rattle.sm_omega.proofs.Imports.{◌≡◌, ◌<◌, ◌≤◌, ◌==◌, nat_lt, ℕ, zero, suc, ◌+◌, ◌-◌, ℤ, pos, nat_abs, Bool, true, false, not, ◌&&◌, ◌||◌, if◌then◌else◌, Some, None, List, [], ◌∷◌, ◌++◌, map, length, refl, ap, subst, ◌∙◌, arith, list_any, int_eq, ltb-true, or_parts, Decides-int_eq, Linear, Outcome, Fits, Leaves, combined, eliminated, has_no_part, tightened, is_contradictory, Done, Passed, Outside, Shallow, go_on, with_result, Item, Stay, Enter, Count, Entered, led, entering, entered, at, has, others, lower_bounds, upper_bounds, bounds_below, least_variable, Answer, Solver, solved, or_refuted, giving, first_equation, least_part, eliminated_item, modular, modular_item, value_by, by_equation, shadow, shadows, standing, greatest_bound, by_bounds, by_variable, by_least, by_first, solved_within}

-- what is left of a list: two for each count that is left, and one for each form
abbrev pub left : ℕ → List (Linear ℕ) → ℕ → ℕ
left limit fs c = (limit - c) + (limit - c) + length fs

-- how many items are forms
abbrev pub forms_in : List Item → ℕ
forms_in [] = 0
forms_in (Stay f ∷ items) = suc (forms_in items)
forms_in (Enter f ∷ items) = suc (forms_in items)
forms_in (Count outcome ∷ items) = forms_in items

-- how many items are counted
abbrev pub counts_in : List Item → ℕ
counts_in [] = 0
counts_in (Stay f ∷ items) = counts_in items
counts_in (Enter f ∷ items) = counts_in items
counts_in (Count outcome ∷ items) = suc (counts_in items)

-- what is left of a list that entered, with a number, is at most another
abbrev LeavesAtMost : ℕ → ℕ → ℕ → Entered → Type 0
LeavesAtMost limit more most (Done n None) = Unit {0}
LeavesAtMost limit more most (Done n (Some gs)) = left limit gs n + more ≤ most
LeavesAtMost limit more most Passed = Unit {0}
LeavesAtMost limit more most (Outside op y z) = Unit {0}
LeavesAtMost limit more most Shallow = Unit {0}

-- a form in front is one more
led_left : (limit more most : ℕ) (f : Linear ℕ) (rest : Entered) → LeavesAtMost limit more most rest →
    LeavesAtMost limit more (suc most) (led f rest)
led_left limit more most f (Done n None) less = tt
led_left limit more most f (Done n (Some gs)) less = omega (arith, less)
led_left limit more most f Passed less = tt
led_left limit more most f (Outside op y z) less = tt
led_left limit more most f Shallow less = tt

-- other numbers
left_weaker : (limit more most many much : ℕ) (rest : Entered) → most + many ≤ much + more → LeavesAtMost limit more most rest →
    LeavesAtMost limit many much rest
left_weaker limit more most many much (Done n None) fewer less = tt
left_weaker limit more most many much (Done n (Some gs)) fewer less = omega (arith, less, fewer)
left_weaker limit more most many much Passed fewer less = tt
left_weaker limit more most many much (Outside op y z) fewer less = tt
left_weaker limit more most many much Shallow fewer less = tt

-- a form that enters leaves at most one more
entering_left : (limit more most c : ℕ) (f : Linear ℕ) (rest : Entered) → LeavesAtMost limit more most rest →
    LeavesAtMost limit more (suc most) (entering c f rest)
entering_left limit more most c f rest less = by (is_contradictory f) (has_no_part f.parts)
  where
    by : (b d : Bool) → LeavesAtMost limit more (suc most) (if b then Done c None else if d then rest else led f rest)
    by true d = tt
    by false true = left_weaker limit more most more (suc most) rest (omega arith) less
    by false false = led_left limit more most f rest less

-- a count is worth two forms
entered_leaves : (limit : ℕ) (items : List Item) (c : ℕ) →
    LeavesAtMost limit (counts_in items) ((limit - c) + (limit - c) + forms_in items) (entered limit items c)
entered_leaves limit [] c = omega arith
entered_leaves limit (Stay f ∷ items) c =
    left_weaker limit (counts_in items) (suc ((limit - c) + (limit - c) + forms_in items)) (counts_in items)
    ((limit - c) + (limit - c) + suc (forms_in items)) (led f (entered limit items c)) (omega arith)
    (led_left limit (counts_in items) ((limit - c) + (limit - c) + forms_in items) f (entered limit items c) (entered_leaves limit items c))
entered_leaves limit (Enter f ∷ items) c =
    left_weaker limit (counts_in items) (suc ((limit - c) + (limit - c) + forms_in items)) (counts_in items)
    ((limit - c) + (limit - c) + suc (forms_in items)) (entering c (tightened f) (entered limit items c)) (omega arith)
    (entering_left limit (counts_in items) ((limit - c) + (limit - c) + forms_in items) c (tightened f) (entered limit items c)
    (entered_leaves limit items c))
entered_leaves limit (Count outcome ∷ items) c = by (nat_lt c limit) refl outcome (entered_leaves limit items (suc c))
  where
    by : (b : Bool) → nat_lt c limit ≡ b → (o : Outcome (Linear ℕ)) →
        LeavesAtMost limit (counts_in items) ((limit - suc c) + (limit - suc c) + forms_in items) (entered limit items (suc c)) →
        LeavesAtMost limit (suc (counts_in items)) ((limit - c) + (limit - c) + forms_in items)
        (if b then with_result o (λ (f : Linear ℕ). entering (suc c) (tightened f) (entered limit items (suc c))) else Passed)
    by true below (Fits h) less =
        left_weaker limit (counts_in items) (suc ((limit - suc c) + (limit - suc c) + forms_in items)) (suc (counts_in items))
        ((limit - c) + (limit - c) + forms_in items) (entering (suc c) (tightened h) (entered limit items (suc c)))
        (omega (arith, ltb-true c limit below))
        (entering_left limit (counts_in items) ((limit - suc c) + (limit - suc c) + forms_in items) (suc c) (tightened h)
        (entered limit items (suc c)) less)
    by true below (Leaves op y z) less = tt
    by false below o less = tt

-- what is left of a list that entered, with the counts of its items, is at most what was left, with the forms among them
pub entered_left : (limit : ℕ) (items : List Item) (c n : ℕ) (gs : List (Linear ℕ)) → entered limit items c ≡ Done n (Some gs) →
    left limit gs n + counts_in items ≤ (limit - c) + (limit - c) + forms_in items
entered_left limit items c n gs e =
    subst (LeavesAtMost limit (counts_in items) ((limit - c) + (limit - c) + forms_in items)) e (entered_leaves limit items c)

-- items of the rules

-- forms among those of two lists
pub forms_append : (xs ys : List Item) → forms_in (xs ++ ys) ≡ forms_in xs + forms_in ys
forms_append [] ys = omega arith
forms_append (Stay f ∷ xs) ys = let rest = forms_append xs ys in omega arith
forms_append (Enter f ∷ xs) ys = let rest = forms_append xs ys in omega arith
forms_append (Count outcome ∷ xs) ys = forms_append xs ys

-- counts among those of two lists
pub counts_append : (xs ys : List Item) → counts_in (xs ++ ys) ≡ counts_in xs + counts_in ys
counts_append [] ys = omega arith
counts_append (Stay f ∷ xs) ys = counts_append xs ys
counts_append (Enter f ∷ xs) ys = counts_append xs ys
counts_append (Count outcome ∷ xs) ys = let rest = counts_append xs ys in omega arith

-- all that stand are forms
pub forms_standing : (fs : List (Linear ℕ)) → forms_in (standing fs) ≡ length fs
forms_standing [] = refl
forms_standing (f ∷ fs) = ap suc (forms_standing fs)

-- all that are given to enter are forms
pub forms_given : (fs : List (Linear ℕ)) → forms_in (map Enter fs) ≡ length fs
forms_given [] = refl
forms_given (f ∷ fs) = ap suc (forms_given fs)

-- without e there are fewer forms
pub eliminated_fewer : (e : Linear ℕ) (t : ℕ) (gs : List (Linear ℕ)) → forms_in (map (eliminated_item e t) gs) ≤ length gs
eliminated_fewer e t [] = omega arith
eliminated_fewer e t (f ∷ gs) = by (has t f) (eliminated_fewer e t gs)
  where
    by : (b : Bool) → forms_in (map (eliminated_item e t) gs) ≤ length gs →
        forms_in ((if b then Count (eliminated f e t) else Stay f) ∷ map (eliminated_item e t) gs) ≤ suc (length gs)
    by true less = omega (arith, less)
    by false less = omega (arith, less)

-- by a modular step each form stays or is counted
modular_most : (d : Linear ℕ) (t : ℕ) (fs : List (Linear ℕ)) →
    forms_in (map (modular_item d t) fs) ≤ length fs + counts_in (map (modular_item d t) fs)
modular_most d t [] = omega arith
modular_most d t (f ∷ fs) = by (has t f) (modular_most d t fs)
  where
    by : (b : Bool) → forms_in (map (modular_item d t) fs) ≤ length fs + counts_in (map (modular_item d t) fs) →
        forms_in ((if b then Count (combined f (pos 1) d (at t f) f.kind) else Stay f) ∷ map (modular_item d t) fs)
        ≤ suc (length fs) + counts_in ((if b then Count (combined f (pos 1) d (at t f) f.kind) else Stay f) ∷ map (modular_item d t) fs)
    by true less = omega (arith, less)
    by false less = omega (arith, less)

-- by a modular step at a variable that some form has, a form is counted
pub modular_fewer : (d : Linear ℕ) (t : ℕ) (fs : List (Linear ℕ)) → list_any (has t) fs ≡ true →
    forms_in (map (modular_item d t) fs) < length fs + counts_in (map (modular_item d t) fs)
modular_fewer d t [] some = absurd cc
modular_fewer d t (f ∷ fs) some =
    by (has t f) some (λ (more : list_any (has t) fs ≡ true). modular_fewer d t fs more) (modular_most d t fs)
  where
    by : (b : Bool) → (b || list_any (has t) fs) ≡ true →
        (list_any (has t) fs ≡ true → forms_in (map (modular_item d t) fs) < length fs + counts_in (map (modular_item d t) fs)) →
        forms_in (map (modular_item d t) fs) ≤ length fs + counts_in (map (modular_item d t) fs) →
        forms_in ((if b then Count (combined f (pos 1) d (at t f) f.kind) else Stay f) ∷ map (modular_item d t) fs)
        < suc (length fs) + counts_in ((if b then Count (combined f (pos 1) d (at t f) f.kind) else Stay f) ∷ map (modular_item d t) fs)
    by true e more least = omega (arith, least)
    by false e more least = let less = more e in omega (arith, less)

-- shadows are counted
counted_none : (t : ℕ) (l : Linear ℕ) (us : List (Linear ℕ)) (items : List Item) →
    forms_in (map (λ u. Count (shadow t l u)) us ++ items) ≡ forms_in items
counted_none t l [] items = refl
counted_none t l (u ∷ us) items = counted_none t l us items

-- so no shadow is a form that stands
pub shadows_none : (t : ℕ) (ls us : List (Linear ℕ)) → forms_in (shadows t ls us) ≡ 0
shadows_none t [] us = refl
shadows_none t (l ∷ ls) us = counted_none t l us (shadows t ls us) ∙ shadows_none t ls us

-- the dark list is shorter
pub dark_fewer : (t : ℕ) (fs gs ls us : List (Linear ℕ)) → length gs < length fs →
    forms_in (standing gs ++ shadows t ls us) < length fs + counts_in (standing gs ++ shadows t ls us)
dark_fewer t fs gs ls us less =
    let sum = forms_append (standing gs) (shadows t ls us) in
    let first = forms_standing gs in
    let second = shadows_none t ls us in
    omega (arith, less)

-- a splinter is counted
pub splinter_fewer : (fs : List (Linear ℕ)) (o : Outcome (Linear ℕ)) →
    forms_in (standing fs ++ Count o ∷ []) < length fs + counts_in (standing fs ++ Count o ∷ [])
splinter_fewer fs o =
    let sum = forms_append (standing fs) (Count o ∷ []) in
    let count = counts_append (standing fs) (Count o ∷ []) in
    let first = forms_standing fs in
    omega arith

-- lists without the variable

-- a form that hasn't it
pub without_it : (t : ℕ) (f : Linear ℕ) → has t f ≡ false → at t f ≡ pos 0
without_it t f e = (Decides-int_eq (at t f) (pos 0)).0 (turned (int_eq (at t f) (pos 0)) e)
  where
    turned : (b : Bool) → not b ≡ false → b ≡ true
    turned true e = refl
    turned false e = absurd cc

-- all forms are without it
others_all : (t : ℕ) (fs : List (Linear ℕ)) → list_any (has t) fs ≡ false → others t fs ≡ fs
others_all t [] none = refl
others_all t (f ∷ fs) none =
    let both = or_parts (has t f) (list_any (has t) fs) none in
    ap (λ (b : Bool). if not b then f ∷ others t fs else others t fs) both.0 ∙ ap (λ gs. f ∷ gs) (others_all t fs both.1)

-- so none bounds it from above
upper_none : (t : ℕ) (fs : List (Linear ℕ)) → list_any (has t) fs ≡ false → upper_bounds t fs ≡ []
upper_none t [] none = refl
upper_none t (f ∷ fs) none =
    let both = or_parts (has t f) (list_any (has t) fs) none in
    ap (λ (b : Bool). if b && not (bounds_below t f) then f ∷ upper_bounds t fs else upper_bounds t fs) both.0 ∙ upper_none t fs both.1

-- a modular step at a variable that no form has changes none
modular_stays : (d : Linear ℕ) (t : ℕ) (fs : List (Linear ℕ)) → list_any (has t) fs ≡ false → map (modular_item d t) fs ≡ standing fs
modular_stays d t [] none = refl
modular_stays d t (f ∷ fs) none =
    let both = or_parts (has t f) (list_any (has t) fs) none in
    ap (λ (b : Bool). (if b then Count (combined f (pos 1) d (at t f) f.kind) else Stay f) ∷ map (modular_item d t) fs) both.0
    ∙ ap (λ items. Stay f ∷ items) (modular_stays d t fs both.1)

-- forms that stand make the list that they are of
pub entered_standing : (limit : ℕ) (fs : List (Linear ℕ)) (c : ℕ) → entered limit (standing fs) c ≡ Done c (Some fs)
entered_standing limit [] c = refl
entered_standing limit (f ∷ fs) c = ap (led f) (entered_standing limit fs c)

-- a rule by a variable that no form has comes to the same list
pub stuck_variable : (limit : ℕ) (solve : List (Linear ℕ) → ℕ → Answer) (fs : List (Linear ℕ)) (c t : ℕ) →
    list_any (has t) fs ≡ false → solve fs c ≡ Shallow → by_variable limit solve fs c t ≡ Shallow
stuck_variable limit solve fs c t none shallow =
    ap (by_bounds limit solve fs c t (lower_bounds t fs)) (upper_none t fs none)
    ∙ ap (λ gs. giving t (greatest_bound t (lower_bounds t fs)) (solve gs c)) (others_all t fs none)
    ∙ ap (giving t (greatest_bound t (lower_bounds t fs))) shallow

-- a modular step at a variable that no form has comes to the same list
pub stuck_equation : (limit : ℕ) (solve : Solver) (s : ℕ) (fs : List (Linear ℕ)) (c : ℕ) (e : Linear ℕ) (gs : List (Linear ℕ))
    (part : ℕ × ℤ) → (nat_abs part.1 == 1) ≡ false → list_any (has part.0) fs ≡ false → solve (suc s) fs c ≡ Shallow →
    by_equation limit solve s fs c e gs part ≡ Shallow
stuck_equation limit solve s fs c e gs part more none shallow =
    let t = part.0 in
    let d = modular t part.1 s e in
    ap (λ (b : Bool). if b then giving t (value_by t e) (solved limit (solve s) (map (eliminated_item e t) gs) c)
    else giving t (value_by t d) (solved limit (solve (suc s)) (map (modular_item d t) fs) c)) more
    ∙ ap (λ items. giving t (value_by t d) (solved limit (solve (suc s)) items c)) (modular_stays d t fs none)
    ∙ ap (λ entry. giving t (value_by t d) (go_on entry (or_refuted (solve (suc s))))) (entered_standing limit fs c)
    ∙ ap (giving t (value_by t d)) shallow

-- so no depth is enough
pub shallow_variable : (limit depth s : ℕ) (fs : List (Linear ℕ)) (c t : ℕ) → first_equation fs ≡ None → least_variable fs ≡ Some t →
    list_any (has t) fs ≡ false → solved_within limit depth s fs c ≡ Shallow
shallow_variable limit zero s fs c t bounds least none = refl
shallow_variable limit (suc depth) s fs c t bounds least none =
    ap (by_first limit (solved_within limit depth) s fs c) bounds
    ∙ ap (by_least limit (solved_within limit depth s) fs c) least
    ∙ stuck_variable limit (solved_within limit depth s) fs c t none (shallow_variable limit depth s fs c t bounds least none)

-- no depth is enough for modular steps at a variable that no form has
pub shallow_equation : (limit depth s : ℕ) (fs : List (Linear ℕ)) (c : ℕ) (e : Linear ℕ) (gs : List (Linear ℕ)) →
    first_equation fs ≡ Some (e, gs) → (nat_abs (least_part e.parts).1 == 1) ≡ false → list_any (has (least_part e.parts).0) fs ≡ false →
    solved_within limit depth s fs c ≡ Shallow
shallow_equation limit zero s fs c e gs found more none = refl
shallow_equation limit (suc depth) s fs c e gs found more none =
    ap (by_first limit (solved_within limit depth) s fs c) found
    ∙ stuck_equation limit (solved_within limit depth) s fs c e gs (least_part e.parts) more none
    (shallow_equation limit depth (suc s) fs c e gs found more none)
