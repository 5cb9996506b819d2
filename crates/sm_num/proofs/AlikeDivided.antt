-- Forms that are alike are divided and made tight alike.
use Rattle.sm_num.proofs.Imports.{◌≡◌, ℕ, ◌==◌, ◌%◌, ◌/◌, ℤ, pos, nat_abs, ◌+ℤ◌, Bool, true, false, ◌&&◌, if◌then◌else◌, List, [], ◌∷◌, refl, sym, ap, subst, ◌∙◌, ⊎_elim, arith, cases_Bool, dvd-zero, dvd_antisymm, dvd_refl, Linear, coefficient, Kind, Le, Eq, Outcome, Fits, Leaves, gcd, floor_of, ceiling_of, divisor_of_parts, divided_parts, divided, then_divided, has_no_part, one_is_zero, tightened_by, tightened, fails, is_contradictory, AreAlike, ComeOutAlike}
use Prim.Native.Nat.{◌∣◌}
use native.Mathlib.Nat.{zero-div}
use Rattle.sm_num.proofs.RingLemmas.{sums}
use Rattle.sm_num.proofs.OutcomeLemmas.{Gives}
use Rattle.sm_num.proofs.SameAtomLemmas.{IsSound, IsReflexive, AreReduced, coefficient_here, coefficient_past, coefficient_one, apart_zero}
use Rattle.sm_num.proofs.DivisionLemmas.{DividesEach, divisor_divides, divides_divisor}

-- 0 divided
floor_zero : (d : ℕ) → floor_of (pos 0) d ≡ pos 0
floor_zero d = by (d == 0)
  where
    by : (b : Bool) → (if b then pos 0 else pos (0 / d)) ≡ pos 0
    by true = refl
    by false = ap pos (zero-div d)

module _ {A : Type 0} (same : A → A → Bool) where
  -- a number that divides each part divides each coefficient
  each_divides : IsSound same → (d : ℕ) (ps : List (A × ℤ)) → AreReduced same ps → DividesEach d ps → (t : A) →
      d ∣ nat_abs (coefficient same t ps)
  each_divides sound d [] reduced each t = dvd-zero d
  each_divides sound d (p ∷ ps) reduced each t =
      ⊎_elim
      (λ (e : same t p.0 ≡ true). subst (λ (z : ℤ). d ∣ nat_abs z) (sym (coefficient_one same t p ps sound reduced.1 e)) each.0)
      (λ (e : same t p.0 ≡ false). subst (λ (z : ℤ). d ∣ nat_abs z) (sym (coefficient_past same t p ps e))
      (each_divides sound d ps reduced.2 each.1 t))
      (cases_Bool (same t p.0))

  -- a number that divides each coefficient divides each part
  divides_each : IsSound same → IsReflexive same → (d : ℕ) (ps : List (A × ℤ)) → AreReduced same ps →
      ((t : A) → d ∣ nat_abs (coefficient same t ps)) → DividesEach d ps
  divides_each sound reflexive d [] reduced divides = tt
  divides_each sound reflexive d (p ∷ ps) reduced divides = (
    subst (λ (z : ℤ). d ∣ nat_abs z) (coefficient_one same p.0 p ps sound reduced.1 (reflexive p.0)) (divides p.0),
    divides_each sound reflexive d ps reduced.2
        (λ (t : A).
        ⊎_elim
        (λ (e : same t p.0 ≡ true). subst (λ (z : ℤ). d ∣ nat_abs z)
        (sym (ap (λ (x : A). coefficient same x ps) (sound t p.0 e) ∙ apart_zero same p.0 ps reduced.1)) (dvd-zero d))
        (λ (e : same t p.0 ≡ false). subst (λ (z : ℤ). d ∣ nat_abs z) (coefficient_past same t p ps e) (divides t))
        (cases_Bool (same t p.0))),
  )

  module _ (sound : IsSound same) (reflexive : IsReflexive same) where
    -- the coefficients tell their greatest common divisor
    pub divisor_alike : (ps qs : List (A × ℤ)) → AreReduced same ps → AreReduced same qs →
        ((t : A) → coefficient same t ps ≡ coefficient same t qs) → divisor_of_parts ps ≡ divisor_of_parts qs
    divisor_alike ps qs first second equal =
        dvd_antisymm (one_way ps qs first second equal) (one_way qs ps second first (λ (t : A). sym (equal t)))
      where
        one_way : (ps qs : List (A × ℤ)) → AreReduced same ps → AreReduced same qs →
            ((t : A) → coefficient same t ps ≡ coefficient same t qs) → divisor_of_parts ps ∣ divisor_of_parts qs
        one_way ps qs first second equal =
            let d = divisor_of_parts ps in
            divides_divisor d qs
            (divides_each sound reflexive d qs second
            (λ (t : A). subst (λ (z : ℤ). d ∣ nat_abs z) (equal t) (each_divides sound d ps first (divisor_divides d ps (dvd_refl d)) t)))

    -- coefficients divided
    pub coefficient_divided : (d : ℕ) (ps : List (A × ℤ)) → AreReduced same ps → (t : A) →
        coefficient same t (divided_parts d ps) ≡ floor_of (coefficient same t ps) d
    coefficient_divided d [] reduced t = sym (floor_zero d)
    coefficient_divided d (p ∷ ps) reduced t =
        ⊎_elim
        (λ (e : same t p.0 ≡ true).
        let none : coefficient same t ps ≡ pos 0 = ap (λ (x : A). coefficient same x ps) (sound t p.0 e)
        ∙ apart_zero same p.0 ps reduced.1 in
        let rest : coefficient same t (divided_parts d ps) ≡ pos 0 = coefficient_divided d ps reduced.2 t
        ∙ ap (λ (z : ℤ). floor_of z d) none ∙ floor_zero d in
        let here : coefficient same t (divided_parts d (p ∷ ps)) ≡ floor_of p.1 d +ℤ coefficient same t (divided_parts d ps) =
        coefficient_here same t (p.0, floor_of p.1 d) (divided_parts d ps) e in
        let only : coefficient same t (divided_parts d (p ∷ ps)) ≡ floor_of p.1 d = omega (arith, sums) in
        only ∙ ap (λ (z : ℤ). floor_of z d) (sym (coefficient_one same t p ps sound reduced.1 e)))
        (λ (e : same t p.0 ≡ false).
        coefficient_past same t (p.0, floor_of p.1 d) (divided_parts d ps) e ∙ coefficient_divided d ps reduced.2 t
        ∙ ap (λ (z : ℤ). floor_of z d) (sym (coefficient_past same t p ps e)))
        (cases_Bool (same t p.0))

    divided_coefficients : (d e : ℕ) (ps qs : List (A × ℤ)) → d ≡ e → AreReduced same ps → AreReduced same qs →
        ((t : A) → coefficient same t ps ≡ coefficient same t qs) →
        (t : A) → coefficient same t (divided_parts d ps) ≡ coefficient same t (divided_parts e qs)
    divided_coefficients d e ps qs equal first second alike t =
        coefficient_divided d ps first t ∙ ap (λ (z : ℤ). floor_of z d) (alike t) ∙ ap (λ (n : ℕ). floor_of (coefficient same t qs) n) equal
        ∙ sym (coefficient_divided e qs second t)

    -- forms that are alike are divided alike
    pub divided_alike : (f g : Linear A) → AreReduced same f.parts → AreReduced same g.parts → AreAlike same f g →
        AreAlike same (divided f) (divided g)
    divided_alike f g first second alike =
        let divisors : gcd (nat_abs f.constant) (divisor_of_parts f.parts) ≡ gcd (nat_abs g.constant) (divisor_of_parts g.parts) =
        ap (λ (z : ℤ). gcd (nat_abs z) (divisor_of_parts f.parts)) alike.constant
        ∙ ap (gcd (nat_abs g.constant)) (divisor_alike f.parts g.parts first second alike.coefficients) in
        record {
          kind = alike.kind;
          constant = ap (λ (z : ℤ). floor_of z (gcd (nat_abs f.constant) (divisor_of_parts f.parts))) alike.constant
              ∙ ap (floor_of g.constant) divisors;
          coefficients = divided_coefficients (gcd (nat_abs f.constant) (divisor_of_parts f.parts))
              (gcd (nat_abs g.constant) (divisor_of_parts g.parts)) f.parts g.parts divisors first second alike.coefficients;
        }

    -- results that are alike are divided alike
    pub then_divided_alike : (first second : Outcome (Linear A)) → Gives (λ (h : Linear A). AreReduced same h.parts) first →
        Gives (λ (h : Linear A). AreReduced same h.parts) second →
        ComeOutAlike same first second → ComeOutAlike same (then_divided first) (then_divided second)
    then_divided_alike (Fits f) (Fits g) one other alike = divided_alike f g one other alike
    then_divided_alike (Fits f) (Leaves op y z) one other alike = absurd alike
    then_divided_alike (Leaves op y z) (Fits g) one other alike = absurd alike
    then_divided_alike (Leaves op y z) (Leaves op' y' z') one other alike = tt

    -- a form without parts is alike with one without parts alone
    pub no_part_alike : (ps qs : List (A × ℤ)) → AreReduced same ps → AreReduced same qs →
        ((t : A) → coefficient same t ps ≡ coefficient same t qs) → has_no_part ps ≡ has_no_part qs
    no_part_alike [] [] first second equal = refl
    no_part_alike [] (q ∷ qs) first second equal =
        absurd (second.0 (sym (coefficient_one same q.0 q qs sound second.1 (reflexive q.0)) ∙ sym (equal q.0)))
    no_part_alike (p ∷ ps) [] first second equal =
        absurd (first.0 (sym (coefficient_one same p.0 p ps sound first.1 (reflexive p.0)) ∙ equal p.0))
    no_part_alike (p ∷ ps) (q ∷ qs) first second equal = refl

    -- a contradiction is alike with contradictions alone
    pub contradictory_alike : (f g : Linear A) → AreReduced same f.parts → AreReduced same g.parts → AreAlike same f g →
        is_contradictory f ≡ is_contradictory g
    contradictory_alike f g first second alike =
        ap (λ (b : Bool). b && fails f.kind f.constant) (no_part_alike f.parts g.parts first second alike.coefficients)
        ∙ ap (λ (k : Kind). has_no_part g.parts && fails k f.constant) alike.kind
        ∙ ap (λ (z : ℤ). has_no_part g.parts && fails g.kind z) alike.constant

    tightened_by_alike : (d e : ℕ) (ps qs : List (A × ℤ)) (c : ℤ) (kind : Kind) → d ≡ e → AreReduced same ps → AreReduced same qs →
        ((t : A) → coefficient same t ps ≡ coefficient same t qs) →
        AreAlike same (tightened_by d ps c kind) (tightened_by e qs c kind)
    tightened_by_alike d e ps qs c Le equal first second alike =
        record { kind = refl; constant = ap (ceiling_of c) equal; coefficients = divided_coefficients d e ps qs equal first second alike }
    tightened_by_alike d e ps qs c Eq equal first second alike =
        by (nat_abs c % d == 0) (nat_abs c % e == 0) (ap (λ (n : ℕ). nat_abs c % n == 0) equal)
      where
        by : (b b' : Bool) → b ≡ b' →
            AreAlike same (if b then record { parts = divided_parts d ps; constant = floor_of c d; kind = Eq } else one_is_zero)
            (if b' then record { parts = divided_parts e qs; constant = floor_of c e; kind = Eq } else one_is_zero)
        by true true one = record
            { kind = refl; constant = ap (floor_of c) equal; coefficients = divided_coefficients d e ps qs equal first second alike }
        by true false one = absurd cc
        by false true one = absurd cc
        by false false one = record { kind = refl; constant = refl; coefficients = λ (t : A). refl }

    -- forms that are alike are made tight alike
    pub tightened_alike : (f g : Linear A) → AreReduced same f.parts → AreReduced same g.parts → AreAlike same f g →
        AreAlike same (tightened f) (tightened g)
    tightened_alike f g first second alike =
        by f.parts g.parts f.constant g.constant f.kind g.kind first second alike.constant alike.kind alike.coefficients
      where
        by : (ps qs : List (A × ℤ)) (c d : ℤ) (kind other : Kind) → AreReduced same ps → AreReduced same qs → c ≡ d → kind ≡ other →
            ((t : A) → coefficient same t ps ≡ coefficient same t qs) →
            AreAlike same (if has_no_part ps then record { parts = ps; constant = c; kind = kind } else tightened_by (divisor_of_parts ps)
            ps c kind)
            (if has_no_part qs then record { parts = qs; constant = d; kind = other } else tightened_by (divisor_of_parts qs) qs d other)
        by [] [] c d kind other first second constants kinds equal = record { kind = kinds; constant = constants; coefficients = equal }
        by [] (q ∷ qs) c d kind other first second constants kinds equal =
            (let e : true ≡ false = no_part_alike [] (q ∷ qs) first second equal in absurd cc)
        by (p ∷ ps) [] c d kind other first second constants kinds equal =
            (let e : false ≡ true = no_part_alike (p ∷ ps) [] first second equal in absurd cc)
        by (p ∷ ps) (q ∷ qs) c d kind other first second constants kinds equal =
            subst (λ (z : ℤ). AreAlike same (tightened_by (divisor_of_parts (p ∷ ps)) (p ∷ ps) c kind)
            (tightened_by (divisor_of_parts (q ∷ qs)) (q ∷ qs) z other)) constants
            (subst (λ (k : Kind). AreAlike same (tightened_by (divisor_of_parts (p ∷ ps)) (p ∷ ps) c kind)
            (tightened_by (divisor_of_parts (q ∷ qs)) (q ∷ qs) c k)) kinds
            (tightened_by_alike (divisor_of_parts (p ∷ ps)) (divisor_of_parts (q ∷ qs)) (p ∷ ps) (q ∷ qs) c kind
            (divisor_alike (p ∷ ps) (q ∷ qs) first second equal) first second equal))
