-- What is computed of kept forms is kept, and which atoms stand in it.
use Rattle.sm_num.proofs.Imports.{◌≡◌, ◌≤◌, ◌<◌, ℕ, suc, ◌%◌, ◌==◌, nat_lt, ℤ, pos, nat_abs, ◌*ℤ◌, Bool, true, false, not, if◌then◌else◌, IsTrue, List, [], ◌∷◌, filter, refl, subst, arith, ltb-true, ltb-false, eqb-true, eqb-false, ne_eqb, dvd_refl, fits_form, Linear, coefficient, without, AreParts, IsKept, Kind, Le, Eq, Fits, computed, combined_number, with_part, led_by, scaled, merged, merged_part, combined, Mul, gcd, multipliers, kind_of_sum, floor_of, divisor_of_parts, divided_parts, divided, eliminated, has_no_part, one_is_zero, tightened_by, tightened, same_atom}
use Rattle.sm_num.proofs.OutcomeLemmas.{Gives, gives_fits, then_gives, IsSum, computed_gives, combined_number_gives, product_gives, led_gives, formed_gives, with_part_has}
use Rattle.sm_num.proofs.SameAtomLemmas.{IsApart, AreReduced, same_atom_sound, each_filter, without_apart, apart_zero, zero_apart}
use Rattle.sm_num.proofs.DivisionLemmas.{gcd_is, DividesEach, divisor_divides}
use Rattle.sm_num.proofs.ResultsReduced.{AreAmong, floor_fits, ceiling_fits, floor_some, scaled_among, divided_among}

-- ascending parts from a number on ascend from a lesser one on
pub parts_from : (least lower : ℕ) (ps : List (ℕ × ℤ)) → lower ≤ least → AreParts least ps → AreParts lower ps
parts_from least lower [] less parts = tt
parts_from least lower (p ∷ ps) less parts = (omega (arith, parts.0), parts.1, parts.2, parts.3)

-- a part before them
led_parts : (least a : ℕ) (z : ℤ) (ps : List (ℕ × ℤ)) → least ≤ a → IsTrue (fits_form z) → AreParts (suc a) ps →
    AreParts least (with_part a z ps)
led_parts least a z ps less inside parts =
    with_part_has (AreParts least) a z ps (λ (zero : z ≡ pos 0). parts_from (suc a) least ps (omega arith) parts)
    (λ (some : z ≡ pos 0 → ⊥). (less, inside, some, parts))

scaled_parts : (least : ℕ) (q : ℤ) (gs : List (ℕ × ℤ)) → AreParts least gs → Gives (AreParts least) (scaled q gs)
scaled_parts least q [] parts = tt
scaled_parts least q (g ∷ gs) parts =
    led_gives (λ (w : ℤ). (w ≡ q *ℤ g.1) × IsTrue (fits_form w)) (AreParts (suc g.0)) (AreParts least) g.0 (computed Mul q g.1)
    (scaled q gs)
    (computed_gives Mul q g.1) (scaled_parts (suc g.0) q gs parts.3) (λ z ps number rest. led_parts least g.0 z ps parts.0 number.1 rest)

merged_part_parts : (least : ℕ) (p q : ℤ) (f : ℕ × ℤ) (fs gs : List (ℕ × ℤ)) → least ≤ f.0 → AreParts least gs →
    ((rs : List (ℕ × ℤ)) → AreParts (suc f.0) rs → Gives (AreParts (suc f.0)) (merged p q fs rs)) →
    Gives (AreParts least) (merged_part p q f (merged p q fs) gs)
merged_part_parts least p q f fs [] less parts recurse =
    led_gives (IsSum p f.1 q (pos 0)) (AreParts (suc f.0)) (AreParts least) f.0 (computed Mul p f.1) (merged p q fs [])
    (product_gives p f.1 q) (recurse [] tt)
    (λ z ps number rest. led_parts least f.0 z ps less number.1 rest)
merged_part_parts least p q f fs (g ∷ gs) less parts recurse =
    by (nat_lt g.0 f.0) (g.0 == f.0) refl refl (λ (below : suc g.0 ≤ f.0). merged_part_parts (suc g.0) p q f fs gs below parts.3 recurse)
  where
    by : (b c : Bool) → nat_lt g.0 f.0 ≡ b → (g.0 == f.0) ≡ c →
        (suc g.0 ≤ f.0 → Gives (AreParts (suc g.0)) (merged_part p q f (merged p q fs) gs)) →
        Gives (AreParts least)
        (if b then led_by g.0 (computed Mul q g.1) (merged_part p q f (merged p q fs) gs)
        else if c then led_by f.0 (combined_number p f.1 q g.1) (merged p q fs gs)
        else led_by f.0 (computed Mul p f.1) (merged p q fs (g ∷ gs)))
    by true c below at rest =
        led_gives (λ (w : ℤ). (w ≡ q *ℤ g.1) × IsTrue (fits_form w)) (AreParts (suc g.0)) (AreParts least) g.0 (computed Mul q g.1)
        (merged_part p q f (merged p q fs) gs)
        (computed_gives Mul q g.1) (rest (ltb-true g.0 f.0 below)) (λ z ps number more. led_parts least g.0 z ps parts.0 number.1 more)
    by false true below at rest =
        led_gives (IsSum p f.1 q g.1) (AreParts (suc f.0)) (AreParts least) f.0 (combined_number p f.1 q g.1) (merged p q fs gs)
        (combined_number_gives p f.1 q g.1)
        (recurse gs (subst (λ (x : ℕ). AreParts (suc x) gs) (eqb-true g.0 f.0 at) parts.3))
        (λ z ps number more. led_parts least f.0 z ps less number.1 more)
    by false false below at rest =
        let above = ltb-false g.0 f.0 below in
        let other = eqb-false g.0 f.0 at in
        let next : suc f.0 ≤ g.0 = omega arith in
        led_gives (IsSum p f.1 q (pos 0)) (AreParts (suc f.0)) (AreParts least) f.0 (computed Mul p f.1) (merged p q fs (g ∷ gs))
        (product_gives p f.1 q)
        (recurse (g ∷ gs) (next, parts.1, parts.2, parts.3)) (λ z ps number more. led_parts least f.0 z ps less number.1 more)

pub merged_parts : (least : ℕ) (p q : ℤ) (fs gs : List (ℕ × ℤ)) → AreParts least fs → AreParts least gs →
    Gives (AreParts least) (merged p q fs gs)
merged_parts least p q [] gs first second = scaled_parts least q gs second
merged_parts least p q (f ∷ fs) gs first second =
    merged_part_parts least p q f fs gs first.0 second (λ (rs : List (ℕ × ℤ)). merged_parts (suc f.0) p q fs rs first.3)

-- the sum of kept forms is kept
pub combined_kept : (f g : Linear ℕ) (p q : ℤ) (kind : Kind) → IsKept f → IsKept g → Gives IsKept (combined f p g q kind)
combined_kept f g p q kind first second =
    formed_gives (AreParts 0) (IsSum p f.constant q g.constant) IsKept (merged p q f.parts g.parts)
    (combined_number p f.constant q g.constant) kind
    (merged_parts 0 p q f.parts g.parts first.parts second.parts) (combined_number_gives p f.constant q g.constant)
    (λ ps c parts number. record { parts = parts; constant = number.1 })

merged_part_among : (P : ℕ → Type 0) (p q : ℤ) (f : ℕ × ℤ) (fs gs : List (ℕ × ℤ)) → P f.0 → AreAmong P gs →
    ((rs : List (ℕ × ℤ)) → AreAmong P rs → Gives (AreAmong P) (merged p q fs rs)) →
    Gives (AreAmong P) (merged_part p q f (merged p q fs) gs)
merged_part_among P p q f fs [] here each recurse =
    led_gives (IsSum p f.1 q (pos 0)) (AreAmong P) (AreAmong P) f.0 (computed Mul p f.1) (merged p q fs []) (product_gives p f.1 q)
    (recurse [] tt)
    (λ z ps number rest. with_part_has (AreAmong P) f.0 z ps (λ (zero : z ≡ pos 0). rest) (λ (some : z ≡ pos 0 → ⊥). (here, rest)))
merged_part_among P p q f fs (g ∷ gs) here each recurse =
    by (nat_lt g.0 f.0) (g.0 == f.0) (merged_part_among P p q f fs gs here each.1 recurse)
  where
    by : (b c : Bool) → Gives (AreAmong P) (merged_part p q f (merged p q fs) gs) →
        Gives (AreAmong P)
        (if b then led_by g.0 (computed Mul q g.1) (merged_part p q f (merged p q fs) gs)
        else if c then led_by f.0 (combined_number p f.1 q g.1) (merged p q fs gs)
        else led_by f.0 (computed Mul p f.1) (merged p q fs (g ∷ gs)))
    by true c rest =
        led_gives (λ (w : ℤ). (w ≡ q *ℤ g.1) × IsTrue (fits_form w)) (AreAmong P) (AreAmong P) g.0 (computed Mul q g.1)
        (merged_part p q f (merged p q fs) gs) (computed_gives Mul q g.1) rest
        (λ z ps number more. with_part_has (AreAmong P) g.0 z ps (λ (zero : z ≡ pos 0). more) (λ (some : z ≡ pos 0 → ⊥). (each.0, more)))
    by false true rest =
        led_gives (IsSum p f.1 q g.1) (AreAmong P) (AreAmong P) f.0 (combined_number p f.1 q g.1) (merged p q fs gs)
        (combined_number_gives p f.1 q g.1) (recurse gs each.1)
        (λ z ps number more. with_part_has (AreAmong P) f.0 z ps (λ (zero : z ≡ pos 0). more) (λ (some : z ≡ pos 0 → ⊥). (here, more)))
    by false false rest =
        led_gives (IsSum p f.1 q (pos 0)) (AreAmong P) (AreAmong P) f.0 (computed Mul p f.1) (merged p q fs (g ∷ gs))
        (product_gives p f.1 q) (recurse (g ∷ gs) each)
        (λ z ps number more. with_part_has (AreAmong P) f.0 z ps (λ (zero : z ≡ pos 0). more) (λ (some : z ≡ pos 0 → ⊥). (here, more)))

merged_among : (P : ℕ → Type 0) (p q : ℤ) (fs gs : List (ℕ × ℤ)) → AreAmong P fs → AreAmong P gs → Gives (AreAmong P) (merged p q fs gs)
merged_among P p q [] gs first second = scaled_among P q gs second
merged_among P p q (f ∷ fs) gs first second =
    merged_part_among P p q f fs gs first.0 second (λ (rs : List (ℕ × ℤ)). merged_among P p q fs rs first.1)

-- its atoms are atoms of the forms
pub combined_among : (P : ℕ → Type 0) (f g : Linear ℕ) (p q : ℤ) (kind : Kind) → AreAmong P f.parts → AreAmong P g.parts →
    Gives (λ (h : Linear ℕ). AreAmong P h.parts) (combined f p g q kind)
combined_among P f g p q kind first second =
    formed_gives (AreAmong P) (IsSum p f.constant q g.constant) (λ (h : Linear ℕ). AreAmong P h.parts) (merged p q f.parts g.parts)
    (combined_number p f.constant q g.constant) kind
    (merged_among P p q f.parts g.parts first second) (combined_number_gives p f.constant q g.constant) (λ ps c among number. among)

-- parts that go leave ascending parts
pub filter_parts : (test : ℕ × ℤ → Bool) (least : ℕ) (ps : List (ℕ × ℤ)) → AreParts least ps → AreParts least (filter test ps)
filter_parts test least [] parts = tt
filter_parts test least (p ∷ ps) parts = by (test p) (filter_parts test (suc p.0) ps parts.3)
  where
    by : (b : Bool) → AreParts (suc p.0) (filter test ps) → AreParts least (if b then p ∷ filter test ps else filter test ps)
    by true rest = (parts.0, parts.1, parts.2, rest)
    by false rest = parts_from (suc p.0) least (filter test ps) (omega (arith, parts.0)) rest

pub divided_are_parts : (d least : ℕ) (ps : List (ℕ × ℤ)) → DividesEach d ps → AreParts least ps → AreParts least (divided_parts d ps)
divided_are_parts d least [] each parts = tt
divided_are_parts d least (p ∷ ps) each parts =
    (parts.0, floor_fits p.1 d parts.1, floor_some p.1 d each.0 parts.2, divided_are_parts d (suc p.0) ps each.1 parts.3)

-- a kept form divided is kept
pub divided_kept : (f : Linear ℕ) → IsKept f → IsKept (divided f)
divided_kept f kept =
    let is = gcd_is (nat_abs f.constant) (divisor_of_parts f.parts) in
    let d = gcd (nat_abs f.constant) (divisor_of_parts f.parts) in
    record {
      parts = divided_are_parts d 0 f.parts (divisor_divides d f.parts is.1) kept.parts;
      constant = floor_fits f.constant d
          kept.constant;
    }

-- a kept form without an atom is kept
pub without_kept : (t : ℕ) (f : Linear ℕ) → IsKept f → IsKept (without same_atom t f)
without_kept t f kept = record { parts = filter_parts (λ r. not (same_atom t r.0)) 0 f.parts kept.parts; constant = kept.constant }

-- the sum of kept forms in which an atom cancels is kept
pub eliminated_kept : (f g : Linear ℕ) (t : ℕ) → IsKept f → IsKept g → Gives IsKept (eliminated f g t)
eliminated_kept f g t first second =
    let m = multipliers (coefficient same_atom t f.parts) (coefficient same_atom t g.parts) g.kind in
    then_gives IsKept IsKept (combined (without same_atom t f) m.0 (without same_atom t g) m.1 (kind_of_sum f.kind g.kind))
    (λ h. Fits (divided h))
    (combined_kept (without same_atom t f) (without same_atom t g) m.0 m.1 (kind_of_sum f.kind g.kind) (without_kept t f first)
    (without_kept t g second))
    (λ (h : Linear ℕ) (kept : IsKept h). divided_kept h kept)

-- its atoms are atoms of the forms
pub eliminated_among : (P : ℕ → Type 0) (f g : Linear ℕ) (t : ℕ) → AreAmong P f.parts → AreAmong P g.parts →
    Gives (λ (h : Linear ℕ). AreAmong P h.parts) (eliminated f g t)
eliminated_among P f g t first second =
    let m = multipliers (coefficient same_atom t f.parts) (coefficient same_atom t g.parts) g.kind in
    then_gives (λ (h : Linear ℕ). AreAmong P h.parts) (λ (h : Linear ℕ). AreAmong P h.parts)
    (combined (without same_atom t f) m.0 (without same_atom t g) m.1 (kind_of_sum f.kind g.kind)) (λ h. Fits (divided h))
    (combined_among P (without same_atom t f) (without same_atom t g) m.0 m.1 (kind_of_sum f.kind g.kind)
    (each_filter same_atom (λ r. P r.0) (λ r. not (same_atom t r.0)) f.parts first)
    (each_filter same_atom (λ r. P r.0) (λ r. not (same_atom t r.0)) g.parts second))
    (λ (h : Linear ℕ) (among : AreAmong P h.parts). divided_among P (gcd (nat_abs h.constant) (divisor_of_parts h.parts)) h.parts among)

-- the atom that cancels isn't among the atoms of the sum
pub eliminated_apart : (f g : Linear ℕ) (t : ℕ) → Gives (λ (h : Linear ℕ). IsApart same_atom t h.parts) (eliminated f g t)
eliminated_apart f g t =
    let m = multipliers (coefficient same_atom t f.parts) (coefficient same_atom t g.parts) g.kind in
    then_gives (λ (h : Linear ℕ). IsApart same_atom t h.parts) (λ (h : Linear ℕ). IsApart same_atom t h.parts)
    (combined (without same_atom t f) m.0 (without same_atom t g) m.1 (kind_of_sum f.kind g.kind)) (λ h. Fits (divided h))
    (combined_among (λ (x : ℕ). same_atom t x ≡ false) (without same_atom t f) (without same_atom t g) m.0 m.1 (kind_of_sum f.kind g.kind)
    (without_apart same_atom t f.parts) (without_apart same_atom t g.parts))
    (λ (h : Linear ℕ) (apart : IsApart same_atom t h.parts). divided_among (λ (x : ℕ). same_atom t x ≡ false)
    (gcd (nat_abs h.constant) (divisor_of_parts h.parts)) h.parts apart)

tightened_by_kept : (d : ℕ) (ps : List (ℕ × ℤ)) (c : ℤ) (kind : Kind) → DividesEach d ps → AreParts 0 ps → IsTrue (fits_form c) →
    IsKept (tightened_by d ps c kind)
tightened_by_kept d ps c Le each parts constant =
    record { parts = divided_are_parts d 0 ps each parts; constant = ceiling_fits c d constant }
tightened_by_kept d ps c Eq each parts constant = by (nat_abs c % d == 0)
  where
    by : (b : Bool) → IsKept (if b then record { parts = divided_parts d ps; constant = floor_of c d; kind = Eq } else one_is_zero)
    by true = record { parts = divided_are_parts d 0 ps each parts; constant = floor_fits c d constant }
    by false = record { parts = tt; constant = refl }

-- a kept form made tight is kept
pub tightened_kept : (f : Linear ℕ) → IsKept f → IsKept (tightened f)
tightened_kept f kept = by f.parts f.constant f.kind kept.parts kept.constant
  where
    by : (ps : List (ℕ × ℤ)) (c : ℤ) (kind : Kind) → AreParts 0 ps → IsTrue (fits_form c) →
        IsKept (if has_no_part ps then record { parts = ps; constant = c; kind = kind } else tightened_by (divisor_of_parts ps) ps c kind)
    by [] c kind parts constant = record { parts = parts; constant = constant }
    by (p ∷ ps) c kind parts constant =
        tightened_by_kept (divisor_of_parts (p ∷ ps)) (p ∷ ps) c kind
        (divisor_divides (divisor_of_parts (p ∷ ps)) (p ∷ ps) (dvd_refl (divisor_of_parts (p ∷ ps)))) parts constant

-- ascending parts have nothing at a lesser atom
pub parts_apart : (t least : ℕ) (ps : List (ℕ × ℤ)) → t < least → AreParts least ps → IsApart same_atom t ps
parts_apart t least [] below parts = tt
parts_apart t least (p ∷ ps) below parts =
    (ne_eqb t p.0 (λ (e : t ≡ p.0). omega (arith, parts.0)), parts_apart t (suc p.0) ps (omega (arith, parts.0)) parts.3)

-- ascending parts have each atom once
pub parts_reduced : (least : ℕ) (ps : List (ℕ × ℤ)) → AreParts least ps → AreReduced same_atom ps
parts_reduced least [] parts = tt
parts_reduced least (p ∷ ps) parts = (parts.2, parts_apart p.0 (suc p.0) ps (omega arith) parts.3, parts_reduced (suc p.0) ps parts.3)

-- the sum of kept forms is kept
pub combined_is_kept : (f g h : Linear ℕ) (p q : ℤ) (kind : Kind) → IsKept f → IsKept g → combined f p g q kind ≡ Fits h → IsKept h
combined_is_kept f g h p q kind first second e = gives_fits IsKept (combined f p g q kind) h (combined_kept f g p q kind first second) e

-- where the sum of kept forms in which an atom cancels is computed, it is kept
pub eliminated_is_kept : (f g h : Linear ℕ) (t : ℕ) → IsKept f → IsKept g → eliminated f g t ≡ Fits h → IsKept h
eliminated_is_kept f g h t first second e = gives_fits IsKept (eliminated f g t) h (eliminated_kept f g t first second) e

-- the atom that cancels is gone
pub eliminated_takes_atom : (f g h : Linear ℕ) (t : ℕ) → eliminated f g t ≡ Fits h → coefficient same_atom t h.parts ≡ pos 0
eliminated_takes_atom f g h t e =
    apart_zero same_atom t h.parts
    (gives_fits (λ (k : Linear ℕ). IsApart same_atom t k.parts) (eliminated f g t) h (eliminated_apart f g t) e)

-- no atom comes that neither form has
pub eliminated_adds_no_atom : (f g h : Linear ℕ) (t a : ℕ) → IsKept f → IsKept g → eliminated f g t ≡ Fits h →
    coefficient same_atom a f.parts ≡ pos 0 → coefficient same_atom a g.parts ≡ pos 0 → coefficient same_atom a h.parts ≡ pos 0
eliminated_adds_no_atom f g h t a first second e one other =
    let here = zero_apart same_atom same_atom_sound a f.parts (parts_reduced 0 f.parts first.parts) one in
    let there = zero_apart same_atom same_atom_sound a g.parts (parts_reduced 0 g.parts second.parts) other in
    apart_zero same_atom a h.parts
    (gives_fits (λ (k : Linear ℕ). AreAmong (λ (x : ℕ). same_atom a x ≡ false) k.parts) (eliminated f g t) h
    (eliminated_among (λ (x : ℕ). same_atom a x ≡ false) f g t here there) e)
