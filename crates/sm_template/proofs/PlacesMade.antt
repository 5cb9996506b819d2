-- The store in which each declared name has its place in a copy.
use Rattle.sm_template.proofs.Imports.{◌≡◌, ℕ, zero, suc, ◌+◌, ◌<◌, ◌≤◌, Bool, true, false, if◌then◌else◌, Option, Some, None, is_some, List, [], ◌∷◌, length, map, get_or, slice_get, refl, sym, ap, ◌∙◌, arith, length-map, get_or-map, slice_get_within, get_or_from_slice_get, fun_ext, Copy, Name, Sort, Num, sort_of, Tree, Start, Slot, Cell, tree_or_start, store_in, SymStore, tree_at, TermId, AreNumbered, trees_of, declared_at, declared_below, places_of}
use Rattle.std.proofs.lemmas.List.FromFn.{get_or-range_with_len}
use Rattle.sm_plan.proofs.StartsMade.{pairs}

-- the number of a declaration is its place
number_at : (ds : List (Name × Sort)) (i : ℕ) (d : Name × Sort) → AreNumbered (pairs ds) → i < length ds → (get_or ds i d).0.0 ≡ i
number_at ds i d numbered h =
    let named : Name × Sort → ℕ × Sort = λ (e : Name × Sort). (e.0.0, e.1) in
    let number : ℕ × Sort → ℕ = λ (e : ℕ × Sort). e.0 in
    let long = length-map ds named in
    let here : i < length (pairs ds) = omega (arith, long, h) in
    let same : 0 + i ≡ i = omega arith in
    ap number (sym (get_or-map named ds i d (named d) h))
    ∙ sym (get_or-map number (pairs ds) i (named d) 0 here)
    ∙ ap (λ (l : List ℕ). get_or l i 0) numbered
    ∙ get_or-range_with_len 0 (length (pairs ds)) i 0 here
    ∙ same

module _ (trees : List Tree) (c : Copy) (ids : List TermId) (ds : List (Name × Sort))
    (made : trees_of trees ids ≡ map (λ (d : Name × Sort). Slot c d.0.0) ds) (numbered : AreNumbered (pairs ds)) where
  long : length ids ≡ length ds
  long =
      sym (length-map ids (λ (t : TermId). tree_at trees t.0)) ∙ ap length made ∙ length-map ds (λ (d : Name × Sort). Slot c d.0.0)

  -- a term of the list is the place of its name, which is declared
  place_at : (x : ℕ) (t : TermId) (d : Name × Sort) → slice_get ids x ≡ Some t → x < length ds → tree_at trees t.0 ≡ Slot c x
  place_at x t d e h =
      let tree : TermId → Tree = λ (u : TermId). tree_at trees u.0 in
      let place : Name × Sort → Tree = λ (n : Name × Sort). Slot c n.0.0 in
      let inside = slice_get_within ids x t e in
      ap tree (sym (get_or_from_slice_get ids x t t e))
      ∙ sym (get_or-map tree ids x t Cell inside)
      ∙ ap (λ (l : List Tree). get_or l x Cell) made
      ∙ get_or-map place ds x d Cell h
      ∙ ap (Slot c) (number_at ds x d numbered h)

  known : (x : ℕ) (d : Name × Sort) → x < length ds → is_some (sort_of (pairs ds) x) ≡ true
  known x d h = ap (λ (n : ℕ). is_some (sort_of (pairs ds) n)) (sym (number_at ds x d numbered h)) ∙ declared_at ds x d h

  unknown : (x : ℕ) → length ds ≤ x → is_some (sort_of (pairs ds) x) ≡ false
  unknown x h = by (is_some (sort_of (pairs ds) x)) refl
    where
      by : (b : Bool) → is_some (sort_of (pairs ds) x) ≡ b → b ≡ false
      by true e =
          let named : Name × Sort → ℕ × Sort = λ (n : Name × Sort). (n.0.0, n.1) in
          let count = length-map ds named in
          let below = declared_below (pairs ds) numbered x e in
          absurd (omega (arith, count, below, h))
      by false e = refl

-- a place that has no term is past the list
past_none : (l : List TermId) (x : ℕ) → slice_get l x ≡ None → length l ≤ x
past_none [] x e = omega arith
past_none (t ∷ l) zero e = absurd cc
past_none (t ∷ l) (suc x) e = let rest = past_none l x e in omega (arith, rest)

-- the store of all places
pub places_made : (trees : List Tree) (c : Copy) (s : SymStore) (ds : List (Name × Sort)) →
    trees_of trees s.list.items ≡ map (λ (d : Name × Sort). Slot c d.0.0) ds → AreNumbered (pairs ds) →
    store_in trees s ≡ places_of (sort_of (pairs ds)) c
places_made trees c s ds made numbered = fun_ext (λ (x : ℕ). by x (slice_get s.list.items x) refl)
  where
    by : (x : ℕ) (o : Option TermId) → slice_get s.list.items x ≡ o →
        tree_or_start trees x o ≡ (if is_some (sort_of (pairs ds) x) then Slot c x else Start x)
    by x None e =
        let past : length ds ≤ x =
        let count = long trees c s.list.items ds made numbered in
        let no = past_none s.list.items x e in omega (arith, count, no) in
        ap (λ (b : Bool). if b then Slot c x else Start x) (sym (unknown trees c s.list.items ds made numbered x past))
    by x (Some t) e =
        let count = long trees c s.list.items ds made numbered in
        let inside = slice_get_within s.list.items x t e in
        let h : x < length ds = omega (arith, count, inside) in
        let d : Name × Sort = (record { 0 = x }, Num) in
        place_at trees c s.list.items ds made numbered x t d e h
        ∙ ap (λ (b : Bool). if b then Slot c x else Start x) (sym (known trees c s.list.items ds made numbered x d h))
