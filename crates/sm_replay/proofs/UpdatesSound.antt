-- Stores that are filled name by name, and arrays element by element.
use Rattle.sm_replay.proofs.Imports.{◌≡◌, ◌≢◌, ◌⊎◌, ◌+◌, ◌<◌, ◌≤◌, ℕ, suc, ℤ, pos, Bool, true, false, if◌then◌else◌, Option, Some, None, List, [], ◌∷◌, length, map, drop, get_or, refl, sym, ap, subst, ◌∙◌, inl, inr, ⊎_elim, true≢false, add-one, drop-cons, arith, fun_ext, cases_eq, ne_eqb, Decides-int_eq, drop_all, Contains-get_or, Contains, int_eq, Name, sort_of, Sorts, Sort, Arr, Array, Store, held, sort, stored_value_of, with_cell, StoredValue, GivesValue, Lists, Overrides}
use Rattle.std.proofs.lemmas.Map.Made.{Contains-tail}
use Rattle.std.specs.Option.{unwrap_or}
use Rattle.sm_syntax.specs.claim.Stores.{Value, array, put}
use Rattle.sm_syntax.proofs.Puts.{put_at, put_past}
use Rattle.sm_eval.specs.declared.stored_value.StoredValue.TheVariants as stored
use Rattle.sm_eval.specs.declared.store.Store as code
use Rattle.sm_eval.specs.StoredValues.{meaning, sorts_of}

-- a name has its value, or else 0 and is still declared in the rest
pub record Filling (sorts : Sorts) (start goal : ℕ → Value) (rest : List (ℕ × Sort)) (s : Store) : Type 0 where
  pub each : (x : ℕ) → (s x ≡ goal x) ⊎ ((s x ≡ start x) × (sort_of rest x ≡ sorts x))

-- declarations of names as numbers
abbrev pub numbered : List (Name × Sort) → List (ℕ × Sort)
numbered list = map (λ (e : Name × Sort). (e.0.0, e.1)) list

-- the next name
step : (sorts : Sorts) (start goal : ℕ → Value) (d : ℕ × Sort) (rest : List (ℕ × Sort)) (old new : Store)
    → Filling sorts start goal (d ∷ rest) old → GivesValue (start d.0) (goal d.0) d.0 old new → Filling sorts start goal rest new
step sorts start goal d rest old new f g =
    let here : new d.0 ≡ goal d.0 =
    g.here (⊎_elim (λ (e : old d.0 ≡ goal d.0). inr e) (λ (e : (old d.0 ≡ start d.0) × (sort_of (d ∷ rest) d.0 ≡ sorts d.0)). inl e.0)
    (f.each d.0)) in
    record {
      each = λ (x : ℕ).
          ⊎_elim (λ (same : x ≡ d.0). inl (ap new same ∙ here ∙ sym (ap goal same)))
          (λ (other : x ≡ d.0 → ⊥).
          ⊎_elim (λ (e : old x ≡ goal x). inl (g.others x other ∙ e))
          (λ (e : (old x ≡ start x) × (sort_of (d ∷ rest) x ≡ sorts x)).
          inr (
            g.others x other ∙ e.0,
            sym (ap (λ (b : Bool). if b then Some d.1 else sort_of rest x) (ne_eqb d.0 x (λ (back : d.0 ≡ x). other (sym back)))) ∙ e.1,
          ))
          (f.each x))
          (cases_eq x d.0);
    }

-- one turn of a loop over declarations
pub turn : (sorts : Sorts) (start goal : ℕ → Value) (items : List (Name × Sort)) (i : ℕ) (d : Name × Sort) (old new : Store)
    → i < length items
    → Filling sorts start goal (numbered (drop i items)) old
    → (let x = (get_or items i d).0.0 in GivesValue (start x) (goal x) x old new)
    → Filling sorts start goal (numbered (drop (i + 1) items)) new
turn sorts start goal items i d old new here f g =
    subst (λ (k : ℕ). Filling sorts start goal (numbered (drop k items)) new) (sym (add-one i))
    (step sorts start goal ((get_or items i d).0.0, (get_or items i d).1) (numbered (drop (suc i) items)) old new
    (subst (λ (l : List (Name × Sort)). Filling sorts start goal (numbered l) old) (drop-cons items i d here) f) g)

-- at the end each name has its value
pub all_filled : (sorts : Sorts) (start goal : ℕ → Value) (s : Store) → Filling sorts start goal [] s
    → ((x : ℕ) → sorts x ≡ None → start x ≡ goal x) → s ≡ goal
all_filled sorts start goal s f undeclared =
    fun_ext (λ (x : ℕ).
    ⊎_elim (λ (e : s x ≡ goal x). e) (λ (e : (s x ≡ start x) × (sort_of [] x ≡ sorts x)). e.0 ∙ undeclared x (sym e.1)) (f.each x))

-- nothing is given to a name whose value is 0
pub nothing_given : (v : Value) (x : ℕ) (s : Store) → GivesValue v v x s s
nothing_given v x s = record {
  here = λ (h : (s x ≡ v) ⊎ (s x ≡ v)). ⊎_elim (λ (e : s x ≡ v). e) (λ (e : s x ≡ v). e) h;
  others = λ (y : ℕ) (other : y ≢ x). refl;
}

-- what is stored for an array is an array
held_array : (s : StoredValue) → sort s ≡ Some Arr → held s ≡ Array (array (held s))
held_array stored.Absent is = cc
held_array (stored.Number z) is = cc
held_array (stored.Array cells) is = refl

pub array_of : (s : code.Store) (a : ℕ) → sorts_of s a ≡ Some Arr → meaning s a ≡ Array (array (meaning s a))
unfolding meaning sorts_of
array_of s a is = held_array (stored_value_of s.stored.items a) is

-- what is given twice is given once
given_twice : (o : Option ℤ) (z : ℤ) → unwrap_or o (unwrap_or o z) ≡ unwrap_or o z
given_twice None z = refl
given_twice (Some y) z = refl

-- an array of 0 alone, or that has its elements already, gets its elements
pub overrides_give : (given : ℤ → Option ℤ) (a : ℕ) (old new : Store) → Overrides given a old new → new a ≡ Array (array (new a))
    → GivesValue (Array (λ (i : ℤ). pos 0)) (Array (λ (i : ℤ). unwrap_or (given i) (pos 0))) a old new
overrides_give given a old new o is = record {
  here = λ (h : (old a ≡ Array (λ (i : ℤ). pos 0)) ⊎ (old a ≡ Array (λ (i : ℤ). unwrap_or (given i) (pos 0)))).
      is ∙ ap Array (fun_ext (λ (i : ℤ).
      o.elements i ∙
      ⊎_elim (λ (e : old a ≡ Array (λ (i : ℤ). pos 0)). ap (λ (v : Value). unwrap_or (given i) (array v i)) e)
      (λ (e : old a ≡ Array (λ (i : ℤ). unwrap_or (given i) (pos 0))). ap (λ (v : Value). unwrap_or (given i) (array v i)) e ∙
      given_twice (given i) (pos 0)) h));
  others = o.others;
}

-- after all declarations each name has its value
pub end_filled : (sorts : Sorts) (start goal : ℕ → Value) (items : List (Name × Sort)) (i : ℕ) (s : Store) → length items ≤ i
    → Filling sorts start goal (numbered (drop i items)) s → ((x : ℕ) → sorts x ≡ None → start x ≡ goal x) → s ≡ goal
end_filled sorts start goal items i s past f undeclared =
    all_filled sorts start goal s
    (subst (λ (l : List (Name × Sort)). Filling sorts start goal (numbered l) s) (drop_all i items past) f) undeclared

-- the array has what is given at an index, or else what it had, and the index is still to come
pub record Overriding (given : ℤ → Option ℤ) (a : ℕ) (left : List (ℤ × ℤ)) (old new : Store) : Type 0 where
  pub each : (i : ℤ) → (array (new a) i ≡ unwrap_or (given i) (array (old a) i)) ⊎
      ((array (new a) i ≡ array (old a) i) × ((z : ℤ) → given i ≡ Some z → Contains left (i, z)))
  pub others : (y : ℕ) → y ≢ a → new y ≡ old y

-- the next cell
cell_step : (given : ℤ → Option ℤ) (a : ℕ) (cell : ℤ × ℤ) (rest : List (ℤ × ℤ)) (old mid new : Store) → given cell.0 ≡ Some cell.1
    → new ≡ with_cell mid a cell.0 cell.1
    → Overriding given a (cell ∷ rest) old mid → Overriding given a rest old new
cell_step given a cell rest old mid new is put o = record {
  each = λ (i : ℤ). by i (int_eq i cell.0) refl;
  others = λ (y : ℕ) (other : y ≢ a). ap (λ (t : Store). t y) put ∙ put_past mid a _ y other ∙ o.others y other;
}
  where
    at : (i : ℤ) → array (new a) i ≡ (if int_eq i cell.0 then cell.1 else array (mid a) i)
    at i = ap (λ (t : Store). array (t a) i) put ∙ ap (λ (v : Value). array v i) (put_at mid a _)

    by : (i : ℤ) (b : Bool) → int_eq i cell.0 ≡ b
        → (array (new a) i ≡ unwrap_or (given i) (array (old a) i)) ⊎
        ((array (new a) i ≡ array (old a) i) × ((z : ℤ) → given i ≡ Some z → Contains rest (i, z)))
    by i true same =
        let index : i ≡ cell.0 = (Decides-int_eq i cell.0).0 same in
        inl (at i ∙ ap (λ (b : Bool). if b then cell.1 else array (mid a) i) same ∙
        sym (ap (λ (o : Option ℤ). unwrap_or o (array (old a) i)) (ap given index ∙ is)))
    by i false same =
        let kept : array (new a) i ≡ array (mid a) i = at i ∙ ap (λ (b : Bool). if b then cell.1 else array (mid a) i) same in
        ⊎_elim (λ (done : array (mid a) i ≡ unwrap_or (given i) (array (old a) i)). inl (kept ∙ done))
        (λ (left : (array (mid a) i ≡ array (old a) i) × ((z : ℤ) → given i ≡ Some z → Contains (cell ∷ rest) (i, z))).
        inr (
          kept ∙ left.0,
          λ (z : ℤ) (e : given i ≡ Some z).
              Contains-tail cell rest (i, z)
              (λ (first : cell ≡ (i, z)). true≢false (sym ((Decides-int_eq i cell.0).1 (ap (λ (p : ℤ × ℤ). p.0) (sym first))) ∙ same))
              (left.1 z e),
        ))
        (o.each i)

-- one turn of a loop over a list of cells
pub cell_turn : (given : ℤ → Option ℤ) (a : ℕ) (list : List (ℤ × ℤ)) (k : ℕ) (d : ℤ × ℤ) (old mid new : Store) → Lists given list
    → k < length list
    → (let cell = get_or list k d in new ≡ with_cell mid a cell.0 cell.1)
    → Overriding given a (drop k list) old mid → Overriding given a (drop (k + 1) list) old new
cell_turn given a list k d old mid new lists here put o =
    let cell : ℤ × ℤ = get_or list k d in
    subst (λ (n : ℕ). Overriding given a (drop n list) old new) (sym (add-one k))
    (cell_step given a cell (drop (suc k) list) old mid new ((lists cell.0 cell.1).1 (Contains-get_or list k d here)) put
    (subst (λ (l : List (ℤ × ℤ)). Overriding given a l old mid) (drop-cons list k d here) o))

-- at the start the array has what it had
pub none_overridden : (given : ℤ → Option ℤ) (a : ℕ) (list : List (ℤ × ℤ)) (s : Store) → Lists given list → Overriding given a list s s
none_overridden given a list s lists = record {
  each = λ (i : ℤ). inr (refl, λ (z : ℤ) (is : given i ≡ Some z). (lists i z).0 is);
  others = λ (y : ℕ) (other : y ≢ a). refl;
}

-- at the end it has all that is given
pub all_overridden : (given : ℤ → Option ℤ) (a : ℕ) (list : List (ℤ × ℤ)) (k : ℕ) (old new : Store) → length list ≤ k
    → Overriding given a (drop k list) old new → Overrides given a old new
all_overridden given a list k old new past o = record {
  elements = λ (i : ℤ).
      ⊎_elim (λ (done : array (new a) i ≡ unwrap_or (given i) (array (old a) i)). done)
      (λ (left : (array (new a) i ≡ array (old a) i) × ((z : ℤ) → given i ≡ Some z → Contains (drop k list) (i, z))). left.0 ∙
      by i (given i) refl left.1)
      (o.each i);
  others = o.others;
}
  where
    by : (i : ℤ) (g : Option ℤ) → given i ≡ g → ((z : ℤ) → given i ≡ Some z → Contains (drop k list) (i, z))
        → array (old a) i ≡ unwrap_or g (array (old a) i)
    by i None is left = refl
    by i (Some z) is left = let found : Contains [] (i, z) =
        subst (λ (l : List (ℤ × ℤ)). Contains l (i, z)) (drop_all k list past) (left z is) in absurd (omega (arith, found.1))
