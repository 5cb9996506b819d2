-- Forms that are made one after the other are those that are led by one another.
use Rattle.sm_judge.proofs.Imports.{◌≡◌, suc, Bool, true, false, if◌then◌else◌, Option, Some, None, List, [], ◌∷◌, ◌++◌, map, length, refl, sym, ap, subst, ◌∙◌, Linear, Outcome, Fits, Leaves, then_with, Seen, IsSource, AreSources, Source, Item, Made, with_form, collected, unless_zero, some_form, is_zero, led, led_unless_zero}
use Rattle.std.proofs.Common.{ℕ, append_assoc}
use Rattle.std.specs.Prelude.{ℤ}
use Rattle.sm_num.specs.declared.op.Op.{Op}

-- a form or none, for short
abbrev pub MaybeForm : Type 0
MaybeForm = Option (Linear ℕ)

-- forms, for short
abbrev pub FormList : Type 0
FormList = List (Linear ℕ)

-- a form as a list
abbrev pub listed : MaybeForm → FormList
listed None = []
listed (Some f) = f ∷ []

-- a form, if there is one, before others that are made after it
abbrev pub led_if : Outcome MaybeForm → Outcome FormList → Outcome FormList
led_if o rest = then_with o (λ (f : MaybeForm). then_with rest (λ (fs : FormList). Fits (listed f ++ fs)))

-- several forms, where there are such, before others that are made after them
abbrev pub all_led : List (Outcome MaybeForm) → Outcome FormList → Outcome FormList
all_led [] rest = rest
all_led (o ∷ os) rest = led_if o (all_led os rest)

-- what comes of items
abbrev pub outcomes : List Item → List (Outcome MaybeForm)
outcomes items = map (λ (i : Item). i.1) items

-- forms before others that are made after them
abbrev pub after : FormList → Outcome FormList → Outcome FormList
after fs rest = then_with rest (λ (gs : FormList). Fits (fs ++ gs))

-- nothing before others
pub after-none : (rest : Outcome FormList) → after [] rest ≡ rest
after-none (Fits gs) = refl
after-none (Leaves op y z) = refl

-- no form before others
pub led-none : (rest : Outcome FormList) → led_if (Fits None) rest ≡ rest
led-none (Fits gs) = refl
led-none (Leaves op y z) = refl

-- lists one after the other
pub all_led-append : (os ps : List (Outcome MaybeForm)) (rest : Outcome FormList) → all_led (os ++ ps) rest ≡ all_led os (all_led ps rest)
all_led-append [] ps rest = refl
all_led-append (o ∷ os) ps rest = ap (led_if o) (all_led-append os ps rest)

-- a form that is there
pub led_is : (o : Outcome (Linear ℕ)) (rest : Outcome FormList) → led o rest ≡ led_if (then_with o some_form) rest
led_is (Fits f) rest = refl
led_is (Leaves op y z) rest = refl

-- a form that isn't 0
zero_by : (b : Bool) (f : Linear ℕ) (rest : Outcome FormList) →
    then_with rest (λ (fs : FormList). Fits (if b then fs else f ∷ fs)) ≡ led_if (Fits (if b then None else Some f)) rest
zero_by true f (Fits fs) = refl
zero_by true f (Leaves op y z) = refl
zero_by false f (Fits fs) = refl
zero_by false f (Leaves op y z) = refl

pub zero_is : (o : Outcome (Linear ℕ)) (rest : Outcome FormList) →
    led_unless_zero o rest ≡ led_if (then_with o (λ (f : Linear ℕ). Fits (unless_zero f))) rest
zero_is (Fits f) rest = zero_by (is_zero f) f rest
zero_is (Leaves op y z) rest = refl

-- one form goes behind others
one_after : (made : Made) (s : Source) (o : MaybeForm) (rest : Outcome FormList) →
    after made.0 (led_if (Fits o) rest) ≡ after (with_form made s o).0 rest
one_after made s None (Fits gs) = refl
one_after made s None (Leaves op y z) = refl
one_after made s (Some f) (Fits gs) = ap (λ (l : FormList). Fits l) (sym (append_assoc made.0 (f ∷ []) gs))
one_after made s (Some f) (Leaves op y z) = refl

-- what fits, or another
made_or : Made → Outcome Made → Made
made_or d (Fits made) = made
made_or d (Leaves op y z) = d

collected_step : (o : Outcome MaybeForm) (s : Source) (items : List Item) (made all : Made) (rest : Outcome FormList) →
    ((m : Made) → collected items m ≡ Fits all → after m.0 (all_led (outcomes items) rest) ≡ after all.0 rest) →
    then_with o (λ (f : MaybeForm). collected items (with_form made s f)) ≡ Fits all →
    after made.0 (led_if o (all_led (outcomes items) rest)) ≡ after all.0 rest
collected_step (Fits f) s items made all rest others e = one_after made s f (all_led (outcomes items) rest) ∙ others (with_form made s f) e
collected_step (Leaves op y z) s items made all rest others e = absurd cc

-- forms that are collected are made one after the other
pub collected_led : (items : List Item) (made all : Made) (rest : Outcome FormList) → collected items made ≡ Fits all →
    after made.0 (all_led (outcomes items) rest) ≡ after all.0 rest
unfolding made_or
collected_led [] made all rest e = ap (λ (o : Outcome Made). after (made_or made o).0 rest) e
collected_led (i ∷ items) made all rest e =
    collected_step i.1 i.0 items made all rest (λ (m : Made) (h : collected items m ≡ Fits all). collected_led items m all rest h) e

leaves_step : (o : Outcome MaybeForm) (s : Source) (items : List Item) (made : Made) (rest : Outcome FormList) (op : Op) (y z : ℤ) →
    ((m : Made) → collected items m ≡ Leaves op y z → all_led (outcomes items) rest ≡ Leaves op y z) →
    then_with o (λ (f : MaybeForm). collected items (with_form made s f)) ≡ Leaves op y z →
    led_if o (all_led (outcomes items) rest) ≡ Leaves op y z
leaves_step (Fits f) s items made rest op y z others e = ap (led_if (Fits f)) (others (with_form made s f) e)
leaves_step (Leaves o v w) s items made rest op y z others e = ap (λ (o : Outcome Made). then_with o (λ (m : Made). Fits m.0)) e

-- the first operation that leaves the range is the same
pub collected_leaves : (items : List Item) (made : Made) (rest : Outcome FormList) (op : Op) (y z : ℤ) →
    collected items made ≡ Leaves op y z → all_led (outcomes items) rest ≡ Leaves op y z
collected_leaves [] made rest op y z e = absurd cc
collected_leaves (i ∷ items) made rest op y z e =
    leaves_step i.1 i.0 items made rest op y z
    (λ (m : Made) (h : collected items m ≡ Leaves op y z). collected_leaves items m rest op y z h) e

-- a source goes behind others with its form
pub sources_more : (b : Seen) (ss : List Source) (fs : FormList) (s : Source) (f : Linear ℕ) → AreSources b ss fs → IsSource b s f →
    AreSources b (ss ++ s ∷ []) (fs ++ f ∷ [])
sources_more b [] [] s f all one = (one, tt)
sources_more b (r ∷ ss) (g ∷ fs) s f all one = (all.0, sources_more b ss fs s f all.1 one)
sources_more b [] (g ∷ fs) s f all one = absurd all
sources_more b (r ∷ ss) [] s f all one = absurd all

-- there are as many sources as forms
pub sources_many : (b : Seen) (ss : List Source) (fs : FormList) → AreSources b ss fs → length ss ≡ length fs
sources_many b [] [] all = refl
sources_many b (r ∷ ss) (g ∷ fs) all = ap suc (sources_many b ss fs all.1)
sources_many b [] (g ∷ fs) all = absurd all
sources_many b (r ∷ ss) [] all = absurd all

-- the form that comes from a source, if one does, comes from there
abbrev pub IsItem : Seen → Item → Type 0
IsItem b i = (f : Linear ℕ) → i.1 ≡ Fits (Some f) → IsSource b i.0 f

-- each form that comes of one of several items comes from that item's source
abbrev pub AreItems : Seen → List Item → Type 0
AreItems b [] = Unit {0}
AreItems b (i ∷ items) = IsItem b i × AreItems b items

item_sources : (b : Seen) (made : Made) (s : Source) (o : Outcome MaybeForm) (f : MaybeForm) → o ≡ Fits f → AreSources b made.1 made.0 →
    ((g : Linear ℕ) → o ≡ Fits (Some g) → IsSource b s g) → AreSources b (with_form made s f).1 (with_form made s f).0
item_sources b made s o None e all one = all
item_sources b made s o (Some f) e all one = sources_more b made.1 made.0 s f all (one f e)

sources_step : (b : Seen) (o : Outcome MaybeForm) (s : Source) (items : List Item) (made all : Made) →
    ((m : Made) → collected items m ≡ Fits all → AreSources b m.1 m.0 → AreSources b all.1 all.0) → AreSources b made.1 made.0 →
    ((g : Linear ℕ) → o ≡ Fits (Some g) → IsSource b s g) →
    then_with o (λ (f : MaybeForm). collected items (with_form made s f)) ≡ Fits all → AreSources b all.1 all.0
sources_step b (Fits f) s items made all others before one e =
    others (with_form made s f) e (item_sources b made s (Fits f) f refl before one)
sources_step b (Leaves op y z) s items made all others before one e = absurd cc

-- forms that are collected have their sources
pub collected_sources : (b : Seen) (items : List Item) (made all : Made) → collected items made ≡ Fits all → AreSources b made.1 made.0 →
    AreItems b items → AreSources b all.1 all.0
unfolding made_or
collected_sources b [] made all e before each =
    subst (λ (m : Made). AreSources b m.1 m.0) (ap (made_or made) e) before
collected_sources b (i ∷ items) made all e before each =
    sources_step b i.1 i.0 items made all
    (λ (m : Made) (h : collected items m ≡ Fits all) (k : AreSources b m.1 m.0). collected_sources b items m all h k each.1) before each.0 e
