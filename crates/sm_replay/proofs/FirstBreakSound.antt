-- What is found at one output.
use Rattle.sm_replay.proofs.Imports.{◌≡◌, ◌⊎◌, ℕ, ℤ, pos, Some, None, refl, sym, ap, subst, ◌∙◌, ⊎_elim, arith, List, ◌<ℤ◌, ◌≤ℤ◌, ints, Sort, Num, Arr, Copy, O, A, B, M, Cell, Scalar, Element, content, variable, zero_value, Store, held, sort, stored_value_of, StoredValue, of_copy, PerCopy, end_in, HaveSort, IsBreakOf, NamesBreak, Finds, cell_of, IsBelow, FailsAt, KeepsAt}
use Rattle.sm_syntax.specs.claim.Stores.{number}
use Rattle.sm_eval.specs.declared.stored_value.StoredValue.TheVariants as stored
use Rattle.sm_eval.specs.declared.store.Store as code
use Rattle.sm_eval.specs.StoredValues.{meaning, sorts_of}
use Rattle.sm_replay.specs.declared.verdict.Verdict.{Verdict}
use Rattle.sm_replay.specs.declared.verdict.Verdict.TheVariants as verdict
use Rattle.sm_replay.proofs.FirstBreakLeast.{all_zero}
use Rattle.sm_replay.proofs.FirstBreakOutputs.{KeptBelow, first_at}
use Rattle.std.specs.List.{slice_get}

-- a name that isn't declared has 0
pub held_absent : (s : StoredValue) → sort s ≡ None → held s ≡ zero_value
held_absent stored.Absent is = refl
held_absent (stored.Number z) is = cc
held_absent (stored.Array cells) is = cc

pub absent : (s : code.Store) (x : ℕ) → sorts_of s x ≡ None → meaning s x ≡ zero_value
unfolding meaning sorts_of
absent s x is = held_absent (stored_value_of s.stored.items x) is

-- so Keeps holds there
pub undeclared_kept : (e : PerCopy code.Store) (x : ℕ) → HaveSort e x None → (c : Cell) → variable c ≡ (x, Num) → KeepsAt (end_in e) c
undeclared_kept e x none (Scalar y) own =
    let same : y ≡ x = ap (λ (v : ℕ × Sort). v.0) own in
    let nought : (c : Copy) → content (end_in e c) (Scalar y) ≡ pos 0 =
    λ (c : Copy). ap (λ (z : ℕ). number (meaning (of_copy e c) z)) same ∙ ap number (absent (of_copy e c) x (none c)) in
    all_zero _ _ _ _ (nought O) (nought A) (nought B) (nought M)
undeclared_kept e x none (Element a i) own = let differ : Arr ≡ Num = ap (λ (v : ℕ × Sort). v.1) own in cc

-- the only cell of a number variable
pub number_kept : (end : Copy → Store) (x : ℕ) → KeepsAt end (Scalar x) → (c : Cell) → variable c ≡ (x, Num) → KeepsAt end c
number_kept end x k (Scalar y) own = subst (λ (z : ℕ). KeepsAt end (Scalar z)) (sym (ap (λ (v : ℕ × Sort). v.0) own)) k
number_kept end x k (Element a i) own = let differ : Arr ≡ Num = ap (λ (v : ℕ × Sort). v.1) own in cc

-- no cell is below a number variable
none_below : (end : Copy → Store) (x : ℕ) (c : Cell) → IsBelow c (Scalar x) → KeepsAt end c
none_below end x (Scalar y) below = absurd below
none_below end x (Element a i) below = absurd below

-- a number variable at which it fails
pub breaks_number : (end : Copy → Store) (x part : ℕ) → FailsAt end (Scalar x) part → IsBreakOf (x, Num) end (Scalar x) part
breaks_number end x part broken = record { own = refl; indices_before = none_below end x; broken = broken }

-- the least index at which it fails
kept_below : (end : Copy → Store) (a : ℕ) (i : ℤ) → ((j : ℤ) → KeepsAt end (Element a j) ⊎ (i ≤ℤ j)) → (c : Cell) → IsBelow c (Element a i)
    → KeepsAt end c
kept_below end a i least (Scalar y) below = absurd below
kept_below end a i least (Element b j) below =
    subst (λ (z : ℕ). KeepsAt end (Element z j)) (sym below.0)
    (⊎_elim (λ (h : KeepsAt end (Element a j)). h) (λ (up : i ≤ℤ j). let lt : j <ℤ i = below.1 in absurd (omega (arith, ints))) (least j))

pub breaks_element : (end : Copy → Store) (a part : ℕ) (i : ℤ) → ((j : ℤ) → KeepsAt end (Element a j) ⊎ (i ≤ℤ j))
    → FailsAt end (Element a i) part
    → IsBreakOf (a, Arr) end (Element a i) part
breaks_element end a part i least broken = record { own = refl; indices_before = kept_below end a i least; broken = broken }

-- the first output at which it fails
pub found_at : (outputs : List (ℕ × Sort)) (end : Copy → Store) (n : ℕ) (o : ℕ × Sort) (v : Verdict) → slice_get outputs n ≡ Some o
    → KeptBelow outputs end n → NamesBreak o end v → Finds outputs end v
found_at outputs end n o verdict.Holds is before b = absurd b
found_at outputs end n o verdict.Unmet is before b = absurd b
found_at outputs end n o (verdict.Violates x i part) is before b = first_at outputs end n o (cell_of x.0 i) part is before b
