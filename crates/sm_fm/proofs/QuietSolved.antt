-- Where an elimination ends quietly its forms have a solution: at the end each form says something
-- true of no atom, and each atom before is given a value.
use Rattle.sm_fm.proofs.Imports.{◌≡◌, inl, inr, ℕ, zero, suc, ◌+◌, ◌<◌, ◌≤◌, ℤ, pos, true, false, not, List, [], ◌∷◌, length, refl, sym, ap, subst, ◌∙◌, arith, Linear, has_no_part, is_contradictory, AreAmong, Placed, has_atom, pairs, forms_without, taken_out, placed_from, EachForm, HoldsOver, AreBelow, IsGiven, AreQuiet, QuietHasSolution, not_true}
use Rattle.sm_fm.proofs.MembershipLemmas.{IsIn, in_filter, from_pairs}
use Rattle.sm_fm.proofs.ValueLemmas.{partless_holds}
use Rattle.sm_fm.proofs.BackSubstitution.{SolutionOf, AreApart, atom_solves}
use Rattle.sm_fm.proofs.SummedLemmas.{IsSane, IsState, AreSummed, summed, state_without}

-- forms over no atom have any solution
none_left : (t atoms : ℕ) (forms : List Placed) (count : ℕ) → t ≡ atoms → IsState t atoms forms count → SolutionOf forms
none_left t atoms forms count end state = record {
  denominator = 1;
  positive = omega arith;
  values = λ (s : ℕ). pos 0;
  each = λ (f : Placed) (is : IsIn f forms).
      let is_sane = state.sane f is in
      partless_holds 1 (λ (s : ℕ). pos 0) f.form (partless f.form.parts is_sane.among) is_sane.quiet;
}
  where
    partless : (ps : List (ℕ × ℤ)) → AreAmong (λ (s : ℕ). (t ≤ s) × (s < atoms)) ps → has_no_part ps ≡ true
    partless [] among = refl
    partless (p ∷ ps) among = let low = among.0.0 in let high = among.0.1 in absurd (omega arith)

-- the atoms from one on are given values
all_solved : (more t atoms : ℕ) (forms : List Placed) (count : ℕ) → t + more ≡ atoms → IsState t atoms forms count →
    AreQuiet (taken_out more t forms count) → SolutionOf forms
all_solved zero t atoms forms count end state quiet = none_left t atoms forms count (omega arith) state
all_solved (suc more) t atoms forms count end state quiet =
    step
    (summed t atoms (pairs t forms) (λ (left : List Placed) (n : ℕ). taken_out more (suc t) (forms_without t left) n) forms count state
    (λ (f g : Placed) (is : IsIn {X = Placed × Placed} (f, g) (pairs t forms)).
    let both = from_pairs t (f, g) forms is in (state.sane f both.0, state.sane g both.1))
    quiet)
    (λ (left : List Placed) (n : ℕ) (st : IsState (suc t) atoms left n) (q : AreQuiet (taken_out more (suc t) left n)).
    all_solved more (suc t) atoms left n (omega arith) st q)
  where
    step : AreSummed t atoms (pairs t forms) (λ (left : List Placed) (n : ℕ). taken_out more (suc t) (forms_without t left) n) forms →
        ((left : List Placed) (n : ℕ) → IsState (suc t) atoms left n → AreQuiet (taken_out more (suc t) left n) → SolutionOf left) →
        SolutionOf forms
    step after recurse =
        let found = recurse (forms_without t after.left) after.count (state_without t atoms after.left after.count after.state)
        after.goes_on in
        let others : (f : Placed) → IsIn f after.left → has_atom t f ≡ false → HoldsOver found.denominator found.values f.form =
        λ (f : Placed) (is : IsIn f after.left) (lacks : has_atom t f ≡ false).
        found.each f (in_filter (λ (g : Placed). not (has_atom t g)) f after.left is (ap not lacks)) in
        atom_solves t found.denominator found.values forms found.positive state.apart
        (λ (f : Placed) (is : IsIn f forms). others f (after.more f is))
        (λ (f g : Placed) (is : IsIn {X = Placed × Placed} (f, g) (pairs t forms)).
        let has = after.have f g is in
        record { sum = has.sum; is = has.is; holds = has.served found.denominator found.values others })

-- given forms with their places
given_sane : (atoms : ℕ) (f : Linear ℕ) → IsGiven atoms f → IsSane 0 atoms f
given_sane atoms f given = record {
  kept = given.kept;
  among = by f.parts given.below;
  quiet = not_true (is_contradictory f) given.quiet;
}
  where
    by : (ps : List (ℕ × ℤ)) → AreBelow atoms ps → AreAmong (λ (s : ℕ). (0 ≤ s) × (s < atoms)) ps
    by [] below = tt
    by (p ∷ ps) below = ((omega arith, below.0), by ps below.1)

placed_sane : (atoms n : ℕ) (forms : List (Linear ℕ)) → EachForm (IsGiven atoms) forms → (f : Placed) → IsIn f (placed_from n forms) →
    IsSane 0 atoms f.form
placed_sane atoms n [] given f is = absurd is
placed_sane atoms n (x ∷ xs) given f (inl same) =
    subst (λ (g : Placed). IsSane 0 atoms g.form) (sym same) (given_sane atoms x given.0)
placed_sane atoms n (x ∷ xs) given f (inr there) = placed_sane atoms (suc n) xs given.1 f there

placed_within : (n : ℕ) (forms : List (Linear ℕ)) (f : Placed) → IsIn f (placed_from n forms) → (n ≤ f.place) × (f.place < n + length forms)
placed_within n [] f is = absurd is
placed_within n (x ∷ xs) f (inl same) = let place : f.place ≡ n = ap (λ (g : Placed). g.place) same in (omega arith, omega arith)
placed_within n (x ∷ xs) f (inr there) = let rest = placed_within (suc n) xs f there in (omega (arith, rest.0), omega (arith, rest.1))

placed_apart : (n : ℕ) (forms : List (Linear ℕ)) → AreApart (placed_from n forms)
placed_apart n [] f g first second e = absurd first
placed_apart n (x ∷ xs) f g (inl same) (inl other) e = same ∙ sym other
placed_apart n (x ∷ xs) f g (inl same) (inr there) e =
    let place : f.place ≡ n = ap (λ (h : Placed). h.place) same in
    let rest = placed_within (suc n) xs g there in
    absurd (omega (arith, rest.0))
placed_apart n (x ∷ xs) f g (inr here) (inl same) e =
    let place : g.place ≡ n = ap (λ (h : Placed). h.place) same in
    let rest = placed_within (suc n) xs f here in
    absurd (omega (arith, rest.0))
placed_apart n (x ∷ xs) f g (inr here) (inr there) e = placed_apart (suc n) xs f g here there e

-- what is so of each form with its place is so of each form without it
each_placed : (P : Linear ℕ → Type 0) (n : ℕ) (forms : List (Linear ℕ)) → ((f : Placed) → IsIn f (placed_from n forms) → P f.form) →
    EachForm P forms
each_placed P n [] each = tt
each_placed P n (x ∷ xs) each = (
  each (record { place = n; form = x }) (inl refl),
  each_placed P (suc n) xs (λ (f : Placed) (is : IsIn f (placed_from (suc n) xs)).
      each f (inr is)),
)

-- an elimination that ends quietly
pub quiet_solved : QuietHasSolution
quiet_solved forms atoms given quiet =
    let found = all_solved atoms 0 atoms (placed_from 0 forms) (length forms) (omega arith)
    (record {
      sane = placed_sane atoms 0 forms given;
      below = λ (f : Placed) (is : IsIn f (placed_from 0 forms)). let within = placed_within 0 forms f is in omega (arith, within.1);
      apart = placed_apart 0 forms;
    })
    quiet in record {
      denominator = found.denominator;
      positive = found.positive;
      values = found.values;
      each = each_placed (HoldsOver found.denominator found.values) 0 forms found.each;
    }
