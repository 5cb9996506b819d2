-- The worked plan: its obligations by computing, and that each holds.
use Rattle.sm_plan.proofs.Imports.{◌≡◌, ℤ, pos, ◌+ℤ◌, Ok, refl, ap, sym, ◌∙◌, arith, ◌≤ℤ◌, ◌<ℤ◌, ints, number, A, M, Start, Havoc, Structure, meaning, Assertion, Holds, AllHold, IsFresh, obligations, AllDischarged}
use Rattle.sm_deps.specs.Inputs.{inputs}
use Rattle.sm_term.specs.Assertions.{Le, Lt}
use Rattle.sm_plan.specs.Limits.{is_kept, is_shallow}
use Rattle.sm_plan.specs.Example.{i, n, x, example_task, example_plan, example_dues, loop_summary, head_with}

-- the obligations are computed
pub example_obligations : obligations example_task example_plan ≡ Ok example_dues
unfolding is_kept is_shallow inputs
example_obligations = refl

-- no number is below another and at least it
clash : (a m b : ℤ) → a ≡ m → a <ℤ b → b ≤ℤ m → ⊥
clash a m b same first second = omega (arith, ints)

-- of two equal numbers, the first isn't at least a number that the second is below
clash_back : (a m b : ℤ) → a ≡ m → b ≤ℤ a → m <ℤ b → ⊥
clash_back a m b same first second = omega (arith, ints)

-- what is kept of i and x
at_head : (m : Structure) (f g : Assertion) → AllHold m (head_with f g) →
    (number (m.havoc 2 A i) ≡ number (m.havoc 2 M i)) × (number (m.havoc 2 A x) ≡ number (m.havoc 2 M x)) × Holds m f × Holds m g
at_head m f g h = (h.1.1.0, h.1.1.1.0, h.1.1.1.1.0, h.1.1.1.1.1.0)

-- each obligation holds
pub example_discharged : AllDischarged example_dues
example_discharged = (
  (λ (m : Structure) h. refl, (λ (m : Structure) h. refl, tt)),
  (
    (
      λ (m : Structure) h. let p = at_head m (Lt (Havoc 2 A i) (Start n)) (Le (Start n) (Havoc 2 M i)) h in
          clash (number (m.havoc 2 A i)) (number (m.havoc 2 M i)) (number (m.start n)) p.0 p.2 p.3,
      tt,
    ),
    (
      (
        λ (m : Structure) h. let p = at_head m (Le (Start n) (Havoc 2 A i)) (Lt (Havoc 2 M i) (Start n)) h in
            clash_back (number (m.havoc 2 A i)) (number (m.havoc 2 M i)) (number (m.start n)) p.0 p.2 p.3,
        tt,
      ),
      (
        (
          λ (m : Structure) h. let p = at_head m (Lt (Havoc 2 A i) (Start n)) (Lt (Havoc 2 M i) (Start n)) h in
              ap (λ (z : ℤ). z +ℤ pos 1) p.0,
          (
            λ (m : Structure) h. let p = at_head m (Lt (Havoc 2 A i) (Start n)) (Lt (Havoc 2 M i) (Start n)) h in
                ap (λ (z : ℤ). z +ℤ pos 2) p.1,
            tt,
          ),
        ),
        (
          (
            λ (m : Structure) h. let p = at_head m (Le (Start n) (Havoc 2 A i)) (Le (Start n) (Havoc 2 M i)) h in
                λ first second. second (sym p.1),
            (
              λ (m : Structure) h. λ first second. first refl,
              (
                λ (m : Structure) h.
                    let p = at_head m (Le (Start n) (Havoc 2 A i)) (Le (Start n) (Havoc 2 M i)) h in
                    λ first second. first
                    (λ (e : number (meaning m (loop_summary x)) ≡ number (m.havoc 2 A x)).
                    second (λ left right. right (sym p.1 ∙ sym e))),
                tt,
              ),
            ),
          ),
          tt,
        ),
      ),
    ),
  ),
)

-- its kept formula names no new values
pub example_fresh : IsFresh 0 example_plan
example_fresh = (
  tt,
  (
    (
      tt,
      (
        (((tt, tt), (tt, tt)), ((tt, tt), ((tt, tt), ((tt, ((tt, ((tt, ((tt, ((tt, tt), tt)), tt)), tt)), tt)), ((tt, tt), tt))))),
        tt,
      ),
    ),
    tt,
  ),
)
