-- The equation of the modular step, part by part.
use Rattle.sm_exact.proofs.Imports.{◌≡◌, ◌+◌, ◌<◌, ◌≤◌, ◌==◌, ◌^◌, ℕ, zero, suc, ℤ, pos, negsuc, neg_ℤ, ◌+ℤ◌, ◌*ℤ◌, nat_lt, Bool, true, false, if◌then◌else◌, IsTrue, Ok, Err, List, [], ◌∷◌, ◌++◌, length, get_or, take, drop, refl, sym, ap, subst, ◌∙◌, arith, add-one, to_z, of_z, take_more, append_assoc, append-nil, ints, to_z-of_z, Decides-int_eq, w128, int_eq, fits_form, Linear, AreParts, IsKept, Eq, Outcome, Fits, Leaves, then_with, computed, combined_number, with_part, led_by, merged, merged_part, formed, combined, Add, Mul, Returns, NumError, modular_parts, quotient}
use Rattle.std.proofs.Common.{Result, IfOk}
use Rattle.std.proofs.Math.Seq.{drop-cons}
use Rattle.std.proofs.lemmas.Bool.{ltb-true, eqb-true}
use mir.Val.{SFits}
use Rattle.sm_exact.specs.Rows.{AreBelow}

-- the first variable of parts, or one behind them
abbrev pub next_atom : ℕ → List (ℕ × ℤ) → ℕ
next_atom s [] = s
next_atom s (p ∷ ps) = p.0

-- a variable more that is below
pub below_more : (s : ℕ) (ps : List (ℕ × ℤ)) (p : ℕ × ℤ) → AreBelow s ps → p.0 < s → AreBelow s (ps ++ p ∷ [])
below_more s [] p below lt = (lt, tt)
below_more s (r ∷ rs) p below lt = (below.0, below_more s rs p below.1 lt)

pub below_take : (s i : ℕ) (ps : List (ℕ × ℤ)) (d : ℕ × ℤ) → AreBelow s (take i ps) → i < length ps → (get_or ps i d).0 < s →
    AreBelow s (take (i + 1) ps)
below_take s i ps d below within lt =
    subst (AreBelow s) (sym (take_more ps i d within)) (below_more s (take i ps) (get_or ps i d) below lt)

-- a greater number is above, too
below_from : (s t : ℕ) (ps : List (ℕ × ℤ)) → s ≤ t → AreBelow s ps → AreBelow t ps
below_from s t [] le below = tt
below_from s t (p ∷ ps) le below = let lt = below.0 in (omega arith, below_from s t ps le below.1)

-- 1 times a number
pub times_one : (c : ℤ) → IsTrue (fits_form c) → computed Mul (pos 1) c ≡ Fits c
times_one c fits =
    let same : pos 1 *ℤ c ≡ c = omega (arith, ints) in
    ap (λ (z : ℤ). if fits_form z then Fits z else Leaves Mul (pos 1) c) same ∙ ap
    (λ (b : Bool). if b then Fits c else Leaves Mul (pos 1) c) fits

by_one : (q : ℤ) → IsTrue (fits_form q) → computed Mul q (pos 1) ≡ Fits q
by_one q fits =
    let same : q *ℤ pos 1 ≡ q = omega (arith, ints) in
    ap (λ (z : ℤ). if fits_form z then Fits z else Leaves Mul q (pos 1)) same ∙ ap
    (λ (b : Bool). if b then Fits q else Leaves Mul q (pos 1)) fits

by_zero : (q : ℤ) → computed Mul q (pos 0) ≡ Fits (pos 0)
by_zero q =
    let same : q *ℤ pos 0 ≡ pos 0 = omega (arith, ints) in
    ap (λ (z : ℤ). if fits_form z then Fits z else Leaves Mul q (pos 0)) same

and_zero : (c : ℤ) → IsTrue (fits_form c) → computed Add c (pos 0) ≡ Fits c
and_zero c fits =
    let same : c +ℤ pos 0 ≡ c = omega (arith, ints) in
    ap (λ (z : ℤ). if fits_form z then Fits z else Leaves Add c (pos 0)) same ∙ ap
    (λ (b : Bool). if b then Fits c else Leaves Add c (pos 0)) fits

-- a number in the range has 128 bits
pub fits_bits : (z : ℤ) → IsTrue (fits_form z) → SFits w128 z
fits_bits (pos n) fits = record { sfits = ltb-true n (2 ^ 127) fits }
fits_bits (negsuc n) fits = let low = ltb-true (suc n) (2 ^ 127) fits in record { sfits = omega (arith, low) }

pub same_bits : (z : ℤ) → IsTrue (fits_form z) → to_z w128 (of_z w128 z) ≡ z
same_bits z fits = to_z-of_z w128 z (fits_bits z fits)

-- a number, and q times nothing
number_alone : (c q : ℤ) → IsTrue (fits_form c) → combined_number (pos 1) c q (pos 0) ≡ Fits c
number_alone c q fits =
    ap (λ o. then_with o (λ (a : ℤ). then_with (computed Mul q (pos 0)) (λ (b : ℤ). computed Add a b))) (times_one c fits)
    ∙ ap (λ o. then_with o (λ (b : ℤ). computed Add c b)) (by_zero q)
    ∙ and_zero c fits

-- a part that isn't 0
pub part_stays : (u : ℕ) (c : ℤ) (ps : List (ℕ × ℤ)) → (c ≡ pos 0 → ⊥) → with_part u c ps ≡ (u, c) ∷ ps
part_stays u c ps some = by (int_eq c (pos 0)) refl
  where
    by : (b : Bool) → int_eq c (pos 0) ≡ b → (if b then ps else (u, c) ∷ ps) ≡ (u, c) ∷ ps
    by true e = absurd (some ((Decides-int_eq c (pos 0)).0 e))
    by false e = refl

-- a part goes behind those of lesser variables
parts_then : (u : ℕ) (q : ℤ) (least : ℕ) (ps : List (ℕ × ℤ)) → IsTrue (fits_form q) → AreParts least ps → AreBelow u ps →
    merged (pos 1) q ps ((u, pos 1) ∷ []) ≡ Fits (ps ++ with_part u q [])
parts_then u q least [] fits parts below = ap (λ o. led_by u o (Fits [])) (by_one q fits)
parts_then u q least (p ∷ ps) fits parts below =
    by (nat_lt u p.0) (u == p.0) refl refl
    ∙ ap (λ o. led_by p.0 o (merged (pos 1) q ps ((u, pos 1) ∷ []))) (times_one p.1 parts.1)
    ∙ ap (λ o. led_by p.0 (Fits p.1) o) (parts_then u q (suc p.0) ps fits parts.3 below.1)
    ∙ ap Fits (part_stays p.0 p.1 (ps ++ with_part u q []) parts.2)
  where
    by : (a b : Bool) → nat_lt u p.0 ≡ a → (u == p.0) ≡ b →
        (if a then led_by u (computed Mul q (pos 1)) (merged_part (pos 1) q p (merged (pos 1) q ps) [])
        else if b then led_by p.0 (combined_number (pos 1) p.1 q (pos 1)) (merged (pos 1) q ps [])
        else led_by p.0 (computed Mul (pos 1) p.1) (merged (pos 1) q ps ((u, pos 1) ∷ [])))
        ≡ led_by p.0 (computed Mul (pos 1) p.1) (merged (pos 1) q ps ((u, pos 1) ∷ []))
    by true b e g = let above = ltb-true u p.0 e in let lt = below.0 in absurd (omega arith)
    by false true e g = let same = eqb-true u p.0 g in let lt = below.0 in absurd (omega arith)
    by false false e g = refl

-- an equation with a part behind
abbrev pub with_last : Linear ℕ → ℕ → ℤ → Linear ℕ
with_last d u q = record { parts = d.parts ++ with_part u q []; constant = d.constant; kind = Eq }

pub sum_behind : (d f : Linear ℕ) (u : ℕ) (q : ℤ) → IsKept d → AreBelow u d.parts → IsTrue (fits_form q) →
    f ≡ record { parts = (u, pos 1) ∷ []; constant = pos 0; kind = Eq } → combined d (pos 1) f q Eq ≡ Fits (with_last d u q)
sum_behind d f u q kept below fits is =
    ap (λ g. combined d (pos 1) g q Eq) is
    ∙ ap (λ o. formed o (combined_number (pos 1) d.constant q (pos 0)) Eq) (parts_then u q 0 d.parts fits kept.parts below)
    ∙ ap (λ o. formed (Fits (d.parts ++ with_part u q [])) o Eq) (number_alone d.constant q kept.constant)

-- what the sum gives is that equation
pub gives_behind : {E : Type 0} (h : Linear ℕ) (outcome : Outcome (Linear ℕ)) (sum : Result (Linear ℕ) NumError)
    (result : Result (Linear ℕ) E) → outcome ≡ Fits h → Returns outcome sum → IfOk result (λ f. sum ≡ Ok f) → IfOk result (λ f. f ≡ h)
gives_behind h outcome sum (Err e) fits returns is = tt
gives_behind h outcome sum (Ok f) fits returns is = fits_one f h (sym (subst (Returns outcome) is returns) ∙ fits)
  where
    fits_one : (f h : Linear ℕ) → Fits f ≡ Fits h → f ≡ h
    fits_one f h same = cc

-- the coefficient at a part's variable goes in front of the rest
pub modular_next : (t : ℕ) (a : ℤ) (s : ℕ) (p : ℕ × ℤ) (ps : List (ℕ × ℤ)) (q : ℤ) →
    q ≡ (if p.0 == t then negsuc 0 else neg_ℤ (quotient p.1 a)) →
    modular_parts t a s (p ∷ ps) ≡ with_part p.0 q [] ++ modular_parts t a s ps
modular_next t a s p ps q is = by (p.0 == t) refl ∙ ap (λ (z : ℤ). with_part p.0 z [] ++ modular_parts t a s ps) (sym is)
  where
    in_front : (z : ℤ) (b : Bool) → (if b then modular_parts t a s ps else (p.0, z) ∷ modular_parts t a s ps)
        ≡ (if b then [] else (p.0, z) ∷ []) ++ modular_parts t a s ps
    in_front z true = refl
    in_front z false = refl

    by : (b : Bool) → (p.0 == t) ≡ b →
        (if b then (t, negsuc 0) ∷ modular_parts t a s ps else with_part p.0 (neg_ℤ (quotient p.1 a)) (modular_parts t a s ps))
        ≡ with_part p.0 (if b then negsuc 0 else neg_ℤ (quotient p.1 a)) [] ++ modular_parts t a s ps
    by true e = ap (λ (u : ℕ). (u, negsuc 0) ∷ modular_parts t a s ps) (sym (eqb-true p.0 t e))
    by false e = in_front (neg_ℤ (quotient p.1 a)) (int_eq (neg_ℤ (quotient p.1 a)) (pos 0))

-- the next variable is greater
next_step : (least s i : ℕ) (ps : List (ℕ × ℤ)) → AreParts least ps → AreBelow s ps → i < length ps →
    (get_or ps i (0, pos 0)).0 < next_atom s (drop (suc i) ps)
next_step least s i [] kept below within = absurd (omega arith)
next_step least s zero (p ∷ []) kept below within = below.0
next_step least s zero (p ∷ r ∷ rs) kept below within = omega (arith, kept.3.0)
next_step least s (suc i) (p ∷ ps) kept below within = next_step (suc p.0) s i ps kept.3 below.1 (omega arith)

below_with : (s u : ℕ) (q : ℤ) (ps : List (ℕ × ℤ)) → u < s → AreBelow s ps → AreBelow s (ps ++ with_part u q [])
below_with s u q ps lt below = by (int_eq q (pos 0))
  where
    by : (b : Bool) → AreBelow s (ps ++ (if b then [] else (u, q) ∷ []))
    by true = subst (AreBelow s) (sym (append-nil ps)) below
    by false = below_more s ps (u, q) below lt

-- a turn: the part at a place
module _ (t : ℕ) (a : ℤ) (s i : ℕ) (ps : List (ℕ × ℤ)) (d new : Linear ℕ) (q : ℤ) (within : i < length ps)
    (is : new ≡ with_last d (get_or ps i (0, pos 0)).0 q) where
  pub turn_below : AreParts 0 ps → AreBelow s ps → AreBelow (next_atom s (drop i ps)) d.parts →
      AreBelow (next_atom s (drop (i + 1) ps)) new.parts
  turn_below kept above below =
      let p = get_or ps i (0, pos 0) in
      let next : p.0 < next_atom s (drop (suc i) ps) = next_step 0 s i ps kept above within in
      let here : AreBelow p.0 d.parts = subst (λ l. AreBelow (next_atom s l) d.parts) (drop-cons ps i (0, pos 0) within) below in
      subst (λ (f : Linear ℕ). AreBelow (next_atom s (drop (i + 1) ps)) f.parts) (sym is)
      (subst (λ (n : ℕ). AreBelow (next_atom s (drop n ps)) (d.parts ++ with_part p.0 q [])) (sym (add-one i))
      (below_with (next_atom s (drop (suc i) ps)) p.0 q d.parts next
      (below_from p.0 (next_atom s (drop (suc i) ps)) d.parts (omega (arith, next)) here)))

  pub turn_parts : q ≡ (if (get_or ps i (0, pos 0)).0 == t then negsuc 0 else neg_ℤ (quotient (get_or ps i (0, pos 0)).1 a)) →
      modular_parts t a s ps ≡ d.parts ++ modular_parts t a s (drop i ps) →
      modular_parts t a s ps ≡ new.parts ++ modular_parts t a s (drop (i + 1) ps)
  turn_parts value so_far =
      let p = get_or ps i (0, pos 0) in
      so_far ∙ ap (λ l. d.parts ++ modular_parts t a s l) (drop-cons ps i (0, pos 0) within)
      ∙ ap (λ l. d.parts ++ l) (modular_next t a s p (drop (suc i) ps) q value)
      ∙ sym (append_assoc d.parts (with_part p.0 q []) (modular_parts t a s (drop (suc i) ps)))
      ∙ ap (λ (f : Linear ℕ). f.parts ++ modular_parts t a s (drop (suc i) ps)) (sym is)
      ∙ ap (λ (n : ℕ). new.parts ++ modular_parts t a s (drop n ps)) (sym (add-one i))
