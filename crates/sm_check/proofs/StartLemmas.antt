-- The start of a proof, over a table of the declared names, which are numbered from 0 on.
use Rattle.sm_check.proofs.Imports.{◌≡◌, ℕ, zero, suc, ◌+◌, ◌-◌, ◌^◌, ◌<◌, ◌≤◌, ◌==◌, nat_lt, Bool, true, false, if◌then◌else◌, is_some, Some, List, [], ◌∷◌, length, map, get_or, refl, sym, ap, ◌∙◌, subst, arith, eq-eqb, nat_tests, length-map, slice_get_within, same_Some, Name, sort_of, Sorts, Sort, Assertion, Tree, RowsStand, AreRowsReady}
use Rattle.std.proofs.Common.{slice_get}
use Rattle.std.proofs.lemmas.List.FromFn.{get_or-range_with_len}
use Rattle.sm_plan.specs.Starts.{AreNumbered}
use Rattle.sm_plan.proofs.StartsMade.{pairs, declared_below}
use Rattle.sm_check.specs.FormRows.{FormRow}
use Rattle.sm_check.specs.Walks as walk

-- what stands in declarations is declared
stands : (ds : List (ℕ × Sort)) (i : ℕ) → i < length ds → is_some (sort_of ds (get_or (map (λ (d : ℕ × Sort). d.0) ds) i 0)) ≡ true
stands [] i h = absurd (omega arith)
stands (d ∷ ds) zero h = ap (λ (b : Bool). is_some (if b then Some d.1 else sort_of ds d.0)) (eq-eqb d.0 d.0 refl)
stands (d ∷ ds) (suc i) h =
    let less : i < length ds = omega arith in
    by (d.0 == get_or (map (λ (e : ℕ × Sort). e.0) ds) i 0) (stands ds i less)
  where
    by : (b : Bool) → is_some (sort_of ds (get_or (map (λ (e : ℕ × Sort). e.0) ds) i 0)) ≡ true →
        is_some (if b then Some d.1 else sort_of ds (get_or (map (λ (e : ℕ × Sort). e.0) ds) i 0)) ≡ true
    by true h = refl
    by false h = h

-- the declared names are those below their count
declared_exactly : (ds : List (ℕ × Sort)) → AreNumbered ds → (x : ℕ) → is_some (sort_of ds x) ≡ nat_lt x (length ds)
declared_exactly ds numbered x = by (nat_lt x (length ds)) refl
  where
    there : x < length ds → is_some (sort_of ds x) ≡ true
    there less =
        let place : get_or (map (λ (d : ℕ × Sort). d.0) ds) x 0 ≡ x =
        ap (λ (l : List ℕ). get_or l x 0) numbered ∙ get_or-range_with_len 0 (length ds) x 0 less ∙ omega arith in
        subst (λ (n : ℕ). is_some (sort_of ds n) ≡ true) place (stands ds x less)

    gone : (b : Bool) → is_some (sort_of ds x) ≡ b → nat_lt x (length ds) ≡ false → b ≡ false
    gone false e far = refl
    gone true e far = let less = declared_below ds numbered x e in absurd (grind (arith, nat_tests))

    by : (b : Bool) → nat_lt x (length ds) ≡ b → is_some (sort_of ds x) ≡ b
    by true e = there (grind (arith, nat_tests))
    by false e = gone (is_some (sort_of ds x)) refl e

pub numbered_walk : (ds : List (ℕ × Sort)) (declared : ℕ) → AreNumbered ds → declared ≡ length ds → declared ≤ 2 ^ 32 →
    walk.AreNumbered (sort_of ds) declared
numbered_walk ds declared numbered count fit = record {
  each = λ (x : ℕ). declared_exactly ds numbered x ∙ ap (nat_lt x) (sym count);
  fit = fit;
}

-- the number of the last name
pub last_number : (ds : List (ℕ × Sort)) (i : ℕ) → AreNumbered ds → i < length ds → get_or (map (λ (d : ℕ × Sort). d.0) ds) i 0 ≡ i
last_number ds i numbered less = ap (λ (l : List ℕ). get_or l i 0) numbered ∙ get_or-range_with_len 0 (length ds) i 0 less ∙ omega arith

number_at : (ds : List (Name × Sort)) (i : ℕ) (d : Name × Sort) → slice_get ds i ≡ Some d →
    get_or (map (λ (e : ℕ × Sort). e.0) (pairs ds)) i 0 ≡ d.0.0
number_at [] i d e = absurd cc
number_at (c ∷ ds) zero d e = ap (λ (b : Name × Sort). b.0.0) (same_Some c d e)
number_at (c ∷ ds) (suc i) d e = number_at ds i d e

pub counted : (ds : List (Name × Sort)) (d : Name × Sort) → AreNumbered (pairs ds) → slice_get ds (length ds - 1) ≡ Some d →
    d.0.0 + 1 ≡ length (pairs ds)
counted ds d numbered e =
    let inside = slice_get_within ds (length ds - 1) d e in
    let long : length (pairs ds) ≡ length ds = length-map ds (λ (e : Name × Sort). (e.0.0, e.1)) in
    let last = last_number (pairs ds) (length ds - 1) numbered (omega (arith, inside, long)) in
    let same : d.0.0 ≡ length ds - 1 = sym (number_at ds (length ds - 1) d e) ∙ last in
    omega (arith, same, inside, long)

-- no formula yet
pub no_rows : (sorts : Sorts) (trees : List Tree) → RowsStand sorts trees [] []
no_rows sorts trees = record {
  count = refl;
  each = λ (k : ℕ) (row : FormRow) (f : Assertion) (e : slice_get [] k ≡ Some row) (g : slice_get [] k ≡ Some f). absurd cc;
}

pub no_rows_ready : (sorts : Sorts) (trees : List Tree) → AreRowsReady sorts trees []
no_rows_ready sorts trees k row e = absurd cc
