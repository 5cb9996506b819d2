-- The stack with a frame more, and the splinters of bounds one after the other.
use Rattle.sm_exact.proofs.Imports.{◌≡◌, ◌<◌, ◌≤◌, ◌+◌, ◌^◌, ℕ, suc, ℤ, pos, negsuc, neg_ℤ, nat_abs, int_lt, Bool, true, false, if◌then◌else◌, None, List, [], ◌∷◌, ◌++◌, length, get_or, drop, refl, sym, ap, subst, ◌∙◌, arith, add-one, le_refl, w128, Explains, Returns, NumError, AllocError, IfOk-weaker, get_or_default, Linear, floor_of, Outcome, Fits, then_with, computed, Mul, Sub, Done, Passed, Item, Count, go_on, with_result, entered, at, bounds_below, lower_bounds, upper_bounds, Answer, or_refuted, or_else, greatest_at, numbers_to, splinters_at, splinter, by_splinters, by_all_splinters, standing, solved_within, Entry, shown, before, going, TellsError, Awaits, Stands, answer_of, splinters_from, splinters_left, Frame, Splinters, explains_then}
use Rattle.std.proofs.Common.{ltb-true, drop-cons}
use Rattle.std.proofs.Common.{drop_of_length-le}
use mir.Val.{SFits}
use Rattle.sm_num.specs.declared.error.NumError.TheVariants as error
use Rattle.std.specs.Prelude.{Result, IfOk}
use Rattle.sm_exact.specs.declared.entry.Entry.TheVariants as entry
use Rattle.sm_exact.specs.declared.frame.Tried.{Tried}
use Rattle.sm_exact.proofs.EntryLemmas.{standing_before, going_ends}
use Rattle.sm_exact.proofs.StackLemmas.{awaits_more}
use Rattle.sm_exact.proofs.BoundsLemmas.{splinters_by}
use Rattle.sm_exact.proofs.ShadowsLemmas.{count_passes, SumEnters, sum_enters, goes_first}

-- there is no lower bound from a place on
pub none_left : (limit depth s t : ℕ) (fs : List (Linear ℕ)) (from place c : ℕ) →
    lower_bounds t (drop from fs) ≡ lower_bounds t (drop place fs) → length fs ≤ place →
    splinters_from limit depth s t fs from c ≡ Done c None
none_left limit depth s t fs from place c skips past =
    ap (λ ls. by_all_splinters limit (solved_within limit depth s) fs t (greatest_at t (upper_bounds t fs)) ls c)
    (skips ∙ ap (lower_bounds t) (drop_of_length-le fs past))

-- the first lower bound from a place on
pub first_left : (limit depth s t : ℕ) (fs : List (Linear ℕ)) (from place c : ℕ) (f : Linear ℕ) →
    lower_bounds t (drop from fs) ≡ lower_bounds t (drop place fs) → place < length fs → f ≡ get_or fs place f →
    bounds_below t f ≡ true →
    splinters_from limit depth s t fs from c
    ≡ with_result (splinters_at (greatest_at t (upper_bounds t fs)) (neg_ℤ (at t f))) (λ (n : ℕ).
    by_splinters limit (solved_within limit depth s) fs f n 0 (splinters_from limit depth s t fs (suc place)) c)
first_left limit depth s t fs from place c f skips within here below =
    ap (λ ls. by_all_splinters limit (solved_within limit depth s) fs t (greatest_at t (upper_bounds t fs)) ls c)
    (skips
    ∙ ap (lower_bounds t) (drop-cons fs place f within)
    ∙ ap (λ g. lower_bounds t (g ∷ drop (suc place) fs)) (sym here)
    ∙ ap (λ (b : Bool). if b then f ∷ lower_bounds t (drop (suc place) fs) else lower_bounds t (drop (suc place) fs)) below)

-- where there is none, the whole stands with a refutation
pub stands_none : (limit s t : ℕ) (frames : List Frame) (fs : List (Linear ℕ)) (from place c depth : ℕ) (whole : Answer) →
    lower_bounds t (drop from fs) ≡ lower_bounds t (drop place fs) → length fs ≤ place →
    Awaits limit frames (splinters_from limit depth s t fs from c) whole → Stands limit frames s (entry.Refuted c) whole
stands_none limit s t frames fs from place c depth whole skips past waits =
    (depth, subst (λ a. Awaits limit frames a whole) (none_left limit depth s t fs from place c skips past) waits)

-- the splinters of the first bound wait
pub stands_tried : (limit : ℕ) (frames new : List Frame) (r : Tried) (from place c depth : ℕ) (m b : ℤ) (whole : Answer) →
    new ≡ frames ++ Splinters r ∷ [] → lower_bounds r.t (drop from r.forms.items) ≡ lower_bounds r.t (drop place r.forms.items) →
    place < length r.forms.items →
    r.bound ≡ get_or r.forms.items place r.bound → bounds_below r.t r.bound ≡ true →
    m ≡ greatest_at r.t (upper_bounds r.t r.forms.items) → b ≡ neg_ℤ (at r.t r.bound) → splinters_at m b ≡ Fits r.left → r.next ≡ 0 →
    r.after ≡ suc place →
    Awaits limit frames (splinters_from limit depth r.s r.t r.forms.items from c) whole → Stands limit new r.s (entry.Refuted c) whole
stands_tried limit frames new r from place c depth m b whole pushed skips within here below first second number zeroth after waits = (
  depth,
  subst (λ l. Awaits limit l (Done c None) whole) (sym pushed)
      (awaits_more limit depth frames (Splinters r) (Done c None) whole
      (subst (λ a. Awaits limit frames a whole)
      (first_left limit depth r.s r.t r.forms.items from place c r.bound skips within here below
      ∙ ap (λ o. with_result o (λ (n : ℕ).
      by_splinters limit (solved_within limit depth r.s) r.forms.items r.bound n 0
      (splinters_from limit depth r.s r.t r.forms.items (suc place)) c))
      (ap (λ x. splinters_at x (neg_ℤ (at r.t r.bound))) (sym first) ∙ ap (splinters_at m) (sym second) ∙ number)
      ∙ ap (λ (i : ℕ). by_splinters limit (solved_within limit depth r.s) r.forms.items r.bound r.left i
      (splinters_from limit depth r.s r.t r.forms.items (suc place)) c) (sym zeroth)
      ∙ ap (λ (k : ℕ). by_splinters limit (solved_within limit depth r.s) r.forms.items r.bound r.left r.next
      (splinters_from limit depth r.s r.t r.forms.items k) c) (sym after))
      waits)),
)

-- the number of splinters leaves the range
pub stands_outside : (limit s t : ℕ) (frames : List Frame) (fs : List (Linear ℕ)) (from place c depth : ℕ) (f : Linear ℕ) (m b : ℤ)
    (e : NumError) (r : Entry) (whole : Answer) →
    lower_bounds t (drop from fs) ≡ lower_bounds t (drop place fs) → place < length fs → f ≡ get_or fs place f →
    bounds_below t f ≡ true → m ≡ greatest_at t (upper_bounds t fs) → b ≡ neg_ℤ (at t f) → Explains (splinters_at m b) e →
    TellsError e r → Awaits limit frames (splinters_from limit depth s t fs from c) whole → Stands limit frames s r whole
stands_outside limit s t frames fs from place c depth f m b (error.Beyond op y z) r whole skips within here below first second leaves
    tells waits = (
      depth,
      subst (λ a. Awaits limit frames a whole)
          (first_left limit depth s t fs from place c f skips within here below
          ∙ ap (λ o. with_result o (λ (n : ℕ).
          by_splinters limit (solved_within limit depth s) fs f n 0 (splinters_from limit depth s t fs (suc place)) c))
          (ap (λ x. splinters_at x (neg_ℤ (at t f))) (sym first) ∙ ap (splinters_at m) (sym second) ∙ leaves)
          ∙ ap (answer_of limit depth s) (sym tells))
          waits,
    )
stands_outside limit s t frames fs from place c depth f m b error.Memory r whole skips within here below first second leaves tells waits =
    absurd tells

-- no splinter of the bound is left
pub left_none : (limit depth : ℕ) (r : Tried) (c : ℕ) → r.left ≡ 0 →
    splinters_left limit depth r c ≡ splinters_from limit depth r.s r.t r.forms.items r.after c
left_none limit depth r c none =
    ap (λ (n : ℕ). by_splinters limit (solved_within limit depth r.s) r.forms.items r.bound n r.next
    (splinters_from limit depth r.s r.t r.forms.items r.after) c) none

-- those that are left, by their parts
abbrev left_by : ℕ → ℕ → ℕ → ℕ → List (Linear ℕ) → Linear ℕ → ℕ → ℕ → ℕ → ℕ → Answer
left_by limit depth s t fs l left i after =
    by_splinters limit (solved_within limit depth s) fs l left i (splinters_from limit depth s t fs after)

-- one is tried, and the others wait
pub stands_next : (limit : ℕ) (frames new : List Frame) (old r : Tried) (c depth : ℕ) (e : Entry) (whole : Answer) →
    new ≡ frames ++ Splinters r ∷ [] → r.s ≡ old.s → r.t ≡ old.t → r.forms.items ≡ old.forms.items → r.bound ≡ old.bound →
    old.left ≡ suc r.left → r.next ≡ suc old.next →
    r.after ≡ old.after →
    entered limit (standing old.forms.items ++ Count (splinter old.bound old.next) ∷ []) c ≡ shown e →
    Awaits limit frames (splinters_left limit depth old c) whole → Stands limit new old.s e whole
stands_next limit frames new old r c depth e whole pushed s t forms bound left next after is waits = (
  depth,
  subst (λ l. Awaits limit l (answer_of limit depth old.s e) whole) (sym pushed)
      (awaits_more limit depth frames (Splinters r) (answer_of limit depth old.s e) whole
      (subst (λ a. Awaits limit frames a whole)
      (ap (λ n. left_by limit depth old.s old.t old.forms.items old.bound n old.next old.after c) left
      ∙ ap (λ x. or_else (go_on x (or_refuted (solved_within limit depth old.s)))
      (left_by limit depth old.s old.t old.forms.items old.bound r.left (suc old.next) old.after)) is
      ∙ ap (or_else (answer_of limit depth old.s e))
      (ap (λ n. left_by limit depth old.s old.t old.forms.items old.bound r.left n old.after) (sym next)
      ∙ ap (λ x. left_by limit depth x old.t old.forms.items old.bound r.left r.next old.after) (sym s)
      ∙ ap (λ x. left_by limit depth r.s x old.forms.items old.bound r.left r.next old.after) (sym t)
      ∙ ap (λ x. left_by limit depth r.s r.t x old.bound r.left r.next old.after) (sym forms)
      ∙ ap (λ x. left_by limit depth r.s r.t r.forms.items x r.left r.next old.after) (sym bound)
      ∙ ap (left_by limit depth r.s r.t r.forms.items r.bound r.left r.next) (sym after)))
      waits)),
)

-- the list with a splinter, where the count has come to its limit
pub splinter_passes : (limit : ℕ) (fs : List (Linear ℕ)) (outcome : Outcome (Linear ℕ)) (c : ℕ) → limit ≤ c →
    entered limit (standing fs ++ Count outcome ∷ []) c ≡ Passed
splinter_passes limit fs outcome c past = standing_before limit fs (Count outcome ∷ []) c ∙ count_passes limit fs outcome [] c past

-- where it hasn't
pub splinter_enters : (limit c n : ℕ) (fs out : List (Linear ℕ)) (outcome : Outcome (Linear ℕ)) (sum : Result (Linear ℕ) NumError)
    (result : Result Entry AllocError) → out ≡ fs → c < limit → n ≡ suc c → Returns outcome sum → IfOk result (SumEnters n out sum) →
    IfOk result (λ e. entered limit (standing fs ++ Count outcome ∷ []) c ≡ shown e)
splinter_enters limit c n fs out outcome sum result same within next returns given =
    IfOk-weaker result (λ e. (rest : List Item) → before out (entered limit (Count outcome ∷ rest) c) ≡ going limit e rest)
    (λ e. entered limit (standing fs ++ Count outcome ∷ []) c ≡ shown e)
    (λ e enters. standing_before limit fs (Count outcome ∷ []) c
    ∙ ap (λ l. before l (entered limit (Count outcome ∷ []) c)) (sym same)
    ∙ enters []
    ∙ going_ends limit e)
    (sum_enters limit c n out outcome sum result within next returns given)

-- what comes behind the product, and behind the first difference
abbrev after_difference : ℤ → ℤ → ℤ → Outcome ℕ
after_difference m b y = then_with (computed Sub y b) (λ (z : ℤ). Fits (numbers_to (floor_of z (nat_abs m))))

abbrev after_product : ℤ → ℤ → ℤ → Outcome ℕ
after_product m b x = then_with (computed Sub x m) (after_difference m b)

-- how many splinters there are: an operation leaves the range
pub count_fails_first : (m b : ℤ) (e : NumError) → Explains (computed Mul m b) e → Explains (splinters_at m b) e
count_fails_first m b e fails = explains_then (computed Mul m b) (after_product m b) e fails

pub count_fails_second : (m b x x_passed : ℤ) (e : NumError) → computed Mul m b ≡ Fits x → x_passed ≡ x →
    Explains (computed Sub x_passed m) e →
    Explains (splinters_at m b) e
count_fails_second m b x x_passed e first same fails =
    subst (λ (o : Outcome ℕ). Explains o e) (sym (goes_first (computed Mul m b) (after_product m b) x first))
    (explains_then (computed Sub x m) (after_difference m b) e (subst (λ (n : ℤ). Explains (computed Sub n m) e) same fails))

pub count_fails_third : (m b x x_passed y y_passed : ℤ) (e : NumError) → computed Mul m b ≡ Fits x → x_passed ≡ x →
    computed Sub x_passed m ≡ Fits y →
    y_passed ≡ y → Explains (computed Sub y_passed b) e → Explains (splinters_at m b) e
count_fails_third m b x x_passed y y_passed e first same second alike fails =
    subst (λ (o : Outcome ℕ). Explains o e)
    (sym (goes_first (computed Mul m b) (after_product m b) x first
    ∙ goes_first (computed Sub x m) (after_difference m b) y (ap (λ (n : ℤ). computed Sub n m) (sym same) ∙ second)))
    (explains_then (computed Sub y b) (λ (z : ℤ). Fits (numbers_to (floor_of z (nat_abs m)))) e
    (subst (λ (n : ℤ). Explains (computed Sub n b) e) alike fails))

-- none does
pub count_is : (m b x x_passed y y_passed z z_passed last : ℤ) (d n : ℕ) → computed Mul m b ≡ Fits x → x_passed ≡ x →
    computed Sub x_passed m ≡ Fits y → y_passed ≡ y →
    computed Sub y_passed b ≡ Fits z → z_passed ≡ z → d ≡ nat_abs m → last ≡ floor_of z_passed d → numbers_to last ≡ n →
    splinters_at m b ≡ Fits n
count_is m b x x_passed y y_passed z z_passed last d n first same second alike third likewise size floor number =
    splinters_by m b x y z n first (ap (λ (k : ℤ). computed Sub k m) (sym same) ∙ second)
    (ap (λ (k : ℤ). computed Sub k b) (sym alike) ∙ third)
    (ap (λ (k : ℕ). numbers_to (floor_of z k)) (sym size)
    ∙ ap (λ (k : ℤ). numbers_to (floor_of k d)) (sym likewise)
    ∙ ap numbers_to (sym floor)
    ∙ number)

-- a number below 0, and one that isn't
pub numbers_below : (z : ℤ) → int_lt z (pos 0) ≡ true → numbers_to z ≡ 0
numbers_below (pos n) below = absurd (let none = ltb-true n 0 below in omega arith)
numbers_below (negsuc n) below = refl

pub numbers_above : (z : ℤ) → int_lt z (pos 0) ≡ false → numbers_to z ≡ nat_abs z + 1
numbers_above (pos n) above = sym (add-one n)
numbers_above (negsuc n) above = absurd cc

pub few_above : (z : ℤ) → int_lt z (pos 0) ≡ false → SFits w128 z → nat_abs z + 1 ≤ 2 ^ 127
few_above (pos n) above fits = let less : n < 2 ^ 127 = fits.sfits in omega arith
few_above (negsuc n) above fits = absurd cc

-- a form that isn't a lower bound is skipped
pub skips_one : (t place : ℕ) (fs : List (Linear ℕ)) (f : Linear ℕ) → place < length fs → f ≡ get_or fs place f →
    bounds_below t f ≡ false → lower_bounds t (drop place fs) ≡ lower_bounds t (drop (place + 1) fs)
skips_one t place fs f within here other =
    ap (lower_bounds t) (drop-cons fs place f within)
    ∙ ap (λ g. lower_bounds t (g ∷ drop (suc place) fs)) (sym here)
    ∙ ap (λ (b : Bool). if b then f ∷ lower_bounds t (drop (suc place) fs) else lower_bounds t (drop (suc place) fs)) other
    ∙ ap (λ (n : ℕ). lower_bounds t (drop n fs)) (sym (add-one place))

-- past the end there is nothing
pub skips_end : (t place : ℕ) (fs : List (Linear ℕ)) → length fs ≤ place → lower_bounds t (drop place fs)
    ≡ lower_bounds t (drop (length fs) fs)
skips_end t place fs past =
    ap (lower_bounds t) (drop_of_length-le fs past) ∙ sym (ap (lower_bounds t) (drop_of_length-le fs (le_refl (length fs))))

-- whichever form stands for what isn't there, the form at a place is the same
pub lower_here : (t place : ℕ) (fs : List (Linear ℕ)) (f g : Linear ℕ) → place < length fs → f ≡ get_or fs place f →
    bounds_below t f ≡ true → g ≡ get_or fs place g → bounds_below t g ≡ true
lower_here t place fs f g within here below is =
    ap (bounds_below t) (is ∙ get_or_default fs place g f within ∙ sym here) ∙ below
