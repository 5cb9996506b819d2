-- The dark shadow and the splinter by sums of two forms, and shadows on their way into a list.
use Rattle.sm_exact.proofs.Imports.{◌≡◌, ◌+◌, ◌<◌, ◌≤◌, ℕ, suc, ℤ, pos, neg_ℤ, ◌-ℤ◌, Bool, if◌then◌else◌, IsTrue, Some, List, [], ◌∷◌, ◌++◌, map, length, get_or, drop, refl, sym, ap, subst, ◌∙◌, lt-ltb, le-ltb, add-one, Explains, Returns, NumError, AllocError, IfOk-weaker, fits_form, Linear, IsKept, AreParts, Kind, Le, Eq, tightened, Outcome, Fits, then_with, computed, combined_number, led_by, scaled, merged, formed, combined, Op, Add, Mul, gives_fits, computed_gives, Item, Count, Entered, Done, Passed, entered, with_result, entering, at, shadow, shadows, splinter, Entry, before, going, explains_then, merged_once}
use Rattle.std.proofs.Common.{drop-cons, drop_of_length-le}
use Rattle.sm_num.specs.declared.error.NumError.TheVariants as error
use Rattle.std.specs.Prelude.{Result, IfOk}
use Rattle.sm_num.specs.Range.{exact}
use Rattle.sm_num.proofs.KeptLemmas.{combined_is_kept}
use Rattle.sm_exact.specs.declared.entry.Entry.TheVariants as entry
use Rattle.sm_exact.proofs.EntryLemmas.{before_done, before_passed}
use Rattle.sm_exact.proofs.ModularLemmas.{times_one, part_stays}

-- a part in front of parts, each once
led_once : (least : ℕ) (p : ℕ × ℤ) (ps : List (ℕ × ℤ)) (rest : Outcome (List (ℕ × ℤ))) → AreParts least (p ∷ ps) → rest ≡ Fits ps →
    led_by p.0 (computed Mul (pos 1) p.1) rest ≡ Fits (p ∷ ps)
led_once least p ps rest parts is =
    ap (λ c. led_by p.0 c rest) (times_one p.1 parts.1) ∙ ap (led_by p.0 (Fits p.1)) is ∙ ap Fits (part_stays p.0 p.1 ps parts.2)

-- parts, each once
scaled_once : (least : ℕ) (ps : List (ℕ × ℤ)) → AreParts least ps → scaled (pos 1) ps ≡ Fits ps
scaled_once least [] parts = refl
scaled_once least (p ∷ ps) parts = led_once least p ps (scaled (pos 1) ps) parts (scaled_once (suc p.0) ps parts.3)

-- two numbers, each once
number_once : (y z : ℤ) → IsTrue (fits_form y) → IsTrue (fits_form z) → combined_number (pos 1) y (pos 1) z ≡ computed Add y z
number_once y z first second =
    ap (λ o. then_with o (λ (a : ℤ). then_with (computed Mul (pos 1) z) (λ (b : ℤ). computed Add a b))) (times_one y first)
    ∙ ap (λ o. then_with o (λ (b : ℤ). computed Add y b)) (times_one z second)

-- a form of a number alone
abbrev pub number_form : ℤ → Linear ℕ
number_form z = record { parts = []; constant = z; kind = Eq }

-- a number and a form, each once
pub dark_by_combine : (y : ℤ) (h : Linear ℕ) (kind : Kind) → IsTrue (fits_form y) → IsKept h →
    combined (number_form y) (pos 1) h (pos 1) kind
    ≡ then_with (computed Add y h.constant) (λ (z : ℤ). Fits (record { parts = h.parts; constant = z; kind = kind }))
dark_by_combine y h kind fits kept =
    ap (λ ps. formed ps (combined_number (pos 1) y (pos 1) h.constant) kind) (scaled_once 0 h.parts kept.parts)
    ∙ ap (λ c. formed (Fits h.parts) c kind) (number_once y h.constant fits kept.constant)

-- a form and a number, each once
pub case_by_combine : (l : Linear ℕ) (i : ℕ) → IsTrue (fits_form (pos i)) → IsKept l →
    combined l (pos 1) (number_form (pos i)) (pos 1) Eq ≡ splinter l i
case_by_combine l i fits kept =
    ap (λ ps. formed ps (combined_number (pos 1) l.constant (pos 1) (pos i)) Eq) (merged_once 0 l.parts kept.parts)
    ∙ ap (λ c. formed (Fits l.parts) c Eq) (number_once l.constant (pos i) kept.constant fits)

-- it doesn't
pub goes_first : {S T : Type 0} (outcome : Outcome S) (next : S → Outcome T) (s : S) → outcome ≡ Fits s → then_with outcome next ≡ next s
goes_first outcome next s fits = ap (λ o. then_with o next) fits

-- what an operation gives is in the range
pub computed_in_range : (op : Op) (y z w : ℤ) → computed op y z ≡ Fits w → IsTrue (fits_form w)
computed_in_range op y z w is =
    (gives_fits (λ (x : ℤ). (x ≡ exact op y z) × IsTrue (fits_form x)) (computed op y z) w (computed_gives op y z) is).1

-- what comes behind the product
abbrev behind_product : Linear ℕ → ℤ → Outcome (Linear ℕ)
behind_product h y =
    then_with (computed Add y h.constant) (λ (z : ℤ). Fits (record { parts = h.parts; constant = z; kind = Le }))

-- what comes behind a sum
abbrev behind_sum : ℤ → ℤ → Linear ℕ → Outcome (Linear ℕ)
behind_sum a b h = then_with (computed Mul (a -ℤ pos 1) (b -ℤ pos 1)) (behind_product h)

-- the shadow, by the sum
abbrev shadow_by : Linear ℕ → Linear ℕ → ℤ → ℤ → Outcome (Linear ℕ)
shadow_by l u a b = then_with (combined l a u b Le) (behind_sum a b)

-- the sum leaves the range
pub shadow_fails : (t : ℕ) (l u : Linear ℕ) (a b : ℤ) (e : NumError) → a ≡ at t u → b ≡ neg_ℤ (at t l) →
    Explains (combined l a u b Le) e → Explains (shadow t l u) e
shadow_fails t l u a b e first second fails =
    subst (λ (x : ℤ). Explains (shadow_by l u x (neg_ℤ (at t l))) e) first
    (subst (λ (x : ℤ). Explains (shadow_by l u a x) e) second (explains_then (combined l a u b Le) (behind_sum a b) e fails))

-- the shadow, by the product
pub shadow_is : (t : ℕ) (l u h : Linear ℕ) (a b : ℤ) → a ≡ at t u → b ≡ neg_ℤ (at t l) → combined l a u b Le ≡ Fits h →
    shadow t l u ≡ behind_sum a b h
shadow_is t l u h a b first second is =
    ap (λ (x : ℤ). shadow_by l u x (neg_ℤ (at t l))) (sym first)
    ∙ ap (λ (x : ℤ). shadow_by l u a x) (sym second)
    ∙ goes_first (combined l a u b Le) (behind_sum a b) h is

-- the product leaves the range
pub product_fails : (t : ℕ) (l u h : Linear ℕ) (a b x z : ℤ) (e : NumError) → a ≡ at t u → b ≡ neg_ℤ (at t l) → x ≡ a -ℤ pos 1 →
    z ≡ b -ℤ pos 1 → combined l a u b Le ≡ Fits h → Explains (computed Mul x z) e → Explains (shadow t l u) e
product_fails t l u h a b x z e first second third fourth is fails =
    subst (λ (o : Outcome (Linear ℕ)). Explains o e) (sym (shadow_is t l u h a b first second is))
    (explains_then (computed Mul (a -ℤ pos 1) (b -ℤ pos 1)) (behind_product h) e
    (subst (λ (n : ℤ). Explains (computed Mul n (b -ℤ pos 1)) e) third
    (subst (λ (n : ℤ). Explains (computed Mul x n) e) fourth fails)))

-- the last sum
pub shadow_ends : (t : ℕ) (l u h number : Linear ℕ) (a b x z y w : ℤ) → a ≡ at t u → b ≡ neg_ℤ (at t l) → x ≡ a -ℤ pos 1 →
    z ≡ b -ℤ pos 1 → combined l a u b Le ≡ Fits h → computed Mul x z ≡ Fits y → number ≡ number_form w → w ≡ y → IsKept l → IsKept u →
    shadow t l u ≡ combined number (pos 1) h (pos 1) Le
shadow_ends t l u h number a b x z y w first second third fourth is product made last one other =
    shadow_is t l u h a b first second is
    ∙ ap (λ (n : ℤ). then_with (computed Mul n (b -ℤ pos 1)) (behind_product h)) (sym third)
    ∙ ap (λ (n : ℤ). then_with (computed Mul x n) (behind_product h)) (sym fourth)
    ∙ goes_first (computed Mul x z) (behind_product h) y product
    ∙ sym (dark_by_combine y h Le (computed_in_range Mul x z y product) (combined_is_kept l u h a b Le one other is))
    ∙ ap (λ (n : ℤ). combined (number_form n) (pos 1) h (pos 1) Le) (sym last)
    ∙ ap (λ (f : Linear ℕ). combined f (pos 1) h (pos 1) Le) (sym made)

-- an entry that isn't a list is the same whatever comes behind it
pub going_same : (limit : ℕ) (e : Entry) (items more : List Item) → ((fs : _) (c : ℕ) → e ≡ entry.List fs c → ⊥) →
    going limit e items ≡ going limit e more
going_same limit (entry.List fs c) items more other = absurd (other fs c refl)
going_same limit (entry.Refuted c) items more other = refl
going_same limit entry.Steps items more other = refl
going_same limit (entry.Beyond op y z) items more other = refl

-- the next of a row
pub row_turn : (whole : Entered) (limit : ℕ) (item : Linear ℕ → Item) (i : ℕ) (us : List (Linear ℕ)) (u : Linear ℕ)
    (out : List (Linear ℕ))
    (c : ℕ) (e : Entry) (rest : List Item) → whole ≡ before out (entered limit (map item (drop i us) ++ rest) c) → i < length us →
    u ≡ get_or us i u →
    ((more : List Item) → before out (entered limit (item u ∷ more) c) ≡ going limit e more) →
    whole ≡ going limit e (map item (drop (i + 1) us) ++ rest)
row_turn whole limit item i us u out c e rest so_far within here goes =
    so_far
    ∙ ap (λ l. before out (entered limit (map item l ++ rest) c)) (drop-cons us i u within)
    ∙ ap (λ v. before out (entered limit (item v ∷ map item (drop (suc i) us) ++ rest) c)) (sym here)
    ∙ goes (map item (drop (suc i) us) ++ rest)
    ∙ ap (λ n. going limit e (map item (drop n us) ++ rest)) (sym (add-one i))

-- the end of a row
pub row_end : (whole : Entered) (limit : ℕ) (item : Linear ℕ → Item) (i : ℕ) (us : List (Linear ℕ)) (out : List (Linear ℕ)) (c : ℕ)
    (rest : List Item) → whole ≡ before out (entered limit (map item (drop i us) ++ rest) c) → length us ≤ i →
    whole ≡ before out (entered limit rest c)
row_end whole limit item i us out c rest so_far past =
    so_far ∙ ap (λ l. before out (entered limit (map item l ++ rest) c)) (drop_of_length-le us past)

-- the next row
pub rows_turn : (whole : Entered) (limit t i : ℕ) (ls us : List (Linear ℕ)) (l : Linear ℕ) (out : List (Linear ℕ)) (c : ℕ) (e : Entry) →
    whole ≡ before out (entered limit (shadows t (drop i ls) us) c) → i < length ls → l ≡ get_or ls i l →
    ((more : List Item) → before out (entered limit (map (λ u. Count (shadow t l u)) us ++ more) c) ≡ going limit e more) →
    whole ≡ going limit e (shadows t (drop (i + 1) ls) us)
rows_turn whole limit t i ls us l out c e so_far within here goes =
    so_far
    ∙ ap (λ k. before out (entered limit (shadows t k us) c)) (drop-cons ls i l within)
    ∙ ap (λ v. before out (entered limit (map (λ u. Count (shadow t v u)) us ++ shadows t (drop (suc i) ls) us) c)) (sym here)
    ∙ goes (shadows t (drop (suc i) ls) us)
    ∙ ap (λ n. going limit e (shadows t (drop n ls) us)) (sym (add-one i))

-- the end of all
pub rows_end : (whole : Entered) (limit t i : ℕ) (ls us : List (Linear ℕ)) (out : List (Linear ℕ)) (c : ℕ) →
    whole ≡ before out (entered limit (shadows t (drop i ls) us) c) → length ls ≤ i → whole ≡ Done c (Some out)
rows_end whole limit t i ls us out c so_far past =
    so_far
    ∙ ap (λ k. before out (entered limit (shadows t k us) c)) (drop_of_length-le ls past)
    ∙ before_done out c

-- the count has come to its limit
pub count_passes : (limit : ℕ) (out : List (Linear ℕ)) (outcome : Outcome (Linear ℕ)) (items : List Item) (c : ℕ) → limit ≤ c →
    before out (entered limit (Count outcome ∷ items) c) ≡ Passed
count_passes limit out outcome items c past =
    ap (λ (b : Bool). before out
    (if b then with_result outcome (λ (f : Linear ℕ). entering (suc c) (tightened f) (entered limit items (suc c))) else Passed))
    (le-ltb c limit past)
    ∙ before_passed out

-- it hasn't
pub count_goes : (limit : ℕ) (out : List (Linear ℕ)) (outcome : Outcome (Linear ℕ)) (items : List Item) (c n : ℕ) → c < limit → n ≡ suc c →
    before out (entered limit (Count outcome ∷ items) c)
    ≡ before out (with_result outcome (λ (f : Linear ℕ). entering n (tightened f) (entered limit items n)))
count_goes limit out outcome items c n within next =
    ap (λ (b : Bool). before out
    (if b then with_result outcome (λ (f : Linear ℕ). entering (suc c) (tightened f) (entered limit items (suc c))) else Passed))
    (lt-ltb c limit within)
    ∙ ap (λ (m : ℕ). before out (with_result outcome (λ (f : Linear ℕ). entering m (tightened f) (entered limit items m)))) (sym next)

-- what a sum that is made says of the entry that it comes to
abbrev pub SumEnters : ℕ → List (Linear ℕ) → Result (Linear ℕ) NumError → Entry → Type 0
SumEnters n out sum e =
    (limit : ℕ) (rest : List Item) (outcome : Outcome (Linear ℕ)) → Returns outcome sum →
    before out (with_result outcome (λ (f : Linear ℕ). entering n (tightened f) (entered limit rest n))) ≡ going limit e rest

-- a sum is counted and enters
pub sum_enters : (limit c n : ℕ) (out : List (Linear ℕ)) (outcome : Outcome (Linear ℕ)) (sum : Result (Linear ℕ) NumError)
    (result : Result Entry AllocError) → c < limit → n ≡ suc c → Returns outcome sum → IfOk result (SumEnters n out sum) →
    IfOk result (λ e. (rest : List Item) → before out (entered limit (Count outcome ∷ rest) c) ≡ going limit e rest)
sum_enters limit c n out outcome sum result within next returns given =
    IfOk-weaker result (SumEnters n out sum)
    (λ e. (rest : List Item) → before out (entered limit (Count outcome ∷ rest) c) ≡ going limit e rest)
    (λ e enters rest. count_goes limit out outcome rest c n within next ∙ enters limit rest outcome returns) given

-- the splinter, by the sum
pub splinter_ends : (l number : Linear ℕ) (i : ℕ) (z : ℤ) → number ≡ number_form z → z ≡ pos i → IsTrue (fits_form (pos i)) → IsKept l →
    combined l (pos 1) number (pos 1) Eq ≡ splinter l i
splinter_ends l number i z made is fits kept =
    ap (λ (f : Linear ℕ). combined l (pos 1) f (pos 1) Eq) made
    ∙ ap (λ (n : ℤ). combined l (pos 1) (number_form n) (pos 1) Eq) is
    ∙ case_by_combine l i fits kept
