-- The turns of loops, one mask after the other.
use Rattle.sm_product.proofs.Imports.{◌≡◌, ℕ, zero, suc, ◌+◌, ◌-◌, ◌==◌, ◌<◌, ◌≤◌, bit_and, inl, inr, Bool, if◌then◌else◌, List, [], ◌∷◌, ◌++◌, map, refl, ap, sym, ◌∙◌, subst, arith, filter, range_with_len, map-append, Sorts, Tree, Copies, subsets, set_of, filter_push, masked, ProductError, sketch_size, IsSketchReady, AreSketchesReady, Room, TellsBeyond, TellAllBeyond, IsTaken}
use Rattle.std.proofs.Common.{append_assoc}
use Rattle.std.proofs.lemmas.List.Elements.{filter-append}
use Rattle.sm_sketch.specs.declared.error.ProductError.TheVariants as error
use Rattle.sm_sketch.specs.declared.sketch.Sketch as own
use Rattle.sm_sketch.specs.Sketches.{Sketch}
use Rattle.sm_product.proofs.RoomLemmas.{sizes_append, depth_append}

-- room that is taken twice
pub taken_more : (r s u : Room) (ps qs : List Sketch) → IsTaken r s ps → IsTaken s u qs → IsTaken r u (ps ++ qs)
taken_more r s u ps qs a b =
    let sizes = sizes_append ps qs in record { nodes = omega (arith, a.nodes, b.nodes, sizes); branches = b.branches ∙ a.branches }

-- no room for some of the sketches
pub some_beyond : (r s : Room) (ps qs rest : List Sketch) (e : ProductError) → IsTaken r s ps → TellAllBeyond s e qs →
    TellAllBeyond r e (ps ++ (qs ++ rest))
some_beyond r s ps qs rest error.TooMany taken (inl h) =
    let first = sizes_append ps (qs ++ rest) in
    let second = sizes_append qs rest in
    inl (omega (arith, taken.nodes, h, first, second))
some_beyond r s ps qs rest error.TooMany taken (inr h) =
    let first = (depth_append ps (qs ++ rest)).1 in
    let second = (depth_append qs rest).0 in
    inr (omega (arith, taken.branches, h, first, second))
some_beyond r s ps qs rest error.Memory taken h = tt

-- a range in two parts
range_split : (a m n : ℕ) → range_with_len a (m + n) ≡ range_with_len a m ++ range_with_len (a + m) n
range_split a zero n =
    let same : zero + n ≡ n = omega arith in
    let here : a ≡ a + zero = omega arith in
    ap (range_with_len a) same ∙ ap (λ (b : ℕ). range_with_len b n) here
range_split a (suc m) n =
    let same : suc m + n ≡ suc (m + n) = omega arith in
    let there : (a + 1) + m ≡ a + suc m = omega arith in
    ap (range_with_len a) same
    ∙ ap (λ (l : List ℕ). a ∷ l) (range_split (a + 1) m n)
    ∙ ap (λ (b : ℕ). a ∷ (range_with_len (a + 1) m ++ range_with_len b n)) there

-- the masks that pass: those before, one, and those behind
pub filter_split : (p : ℕ → Bool) (n k : ℕ) →
    filter p (range_with_len 1 ((n + 1) + k))
    ≡ filter p (range_with_len 1 n) ++ ((if p (n + 1) then (n + 1) ∷ [] else []) ++ filter p (range_with_len (1 + (n + 1)) k))
filter_split p n k =
    let rest = filter p (range_with_len (1 + (n + 1)) k) in
    ap (filter p) (range_split 1 (n + 1) k)
    ∙ filter-append p (range_with_len 1 (n + 1)) (range_with_len (1 + (n + 1)) k)
    ∙ ap (λ (l : List ℕ). l ++ rest) (filter_push p n)
    ∙ append_assoc (filter p (range_with_len 1 n)) (if p (n + 1) then (n + 1) ∷ [] else []) rest

-- what is drawn for the masks that pass: for those before, for one, and for those behind
pub drawn_split : (p : ℕ → Bool) (draw : ℕ → Sketch) (n : ℕ) → n < 15 →
    (rest : List Sketch)
    × (map draw (filter p (range_with_len 1 15))
    ≡ map draw (filter p (range_with_len 1 n)) ++ (map draw (if p (n + 1) then (n + 1) ∷ [] else []) ++ rest))
drawn_split p draw n h =
    let k = 14 - n in
    let one = (if p (n + 1) then (n + 1) ∷ [] else []) in
    let behind = filter p (range_with_len (1 + (n + 1)) k) in
    let whole : 15 ≡ (n + 1) + k = omega arith in (
      map draw behind,
      ap (λ (m : ℕ). map draw (filter p (range_with_len 1 m))) whole
          ∙ ap (map draw) (filter_split p n k)
          ∙ map-append draw (filter p (range_with_len 1 n)) (one ++ behind)
          ∙ ap (λ (l : List Sketch). map draw (filter p (range_with_len 1 n)) ++ l) (map-append draw one behind),
    )

-- one turn
pub one_told : (r : Room) (e : ProductError) (p : Sketch) → TellsBeyond r e p → TellAllBeyond r e (p ∷ [])
one_told r error.TooMany p (inl h) = inl (omega (arith, h))
one_told r error.TooMany p (inr h) = inr (omega (arith, h))
one_told r error.Memory p h = tt

pub none_left : (r : Room) (e : ProductError) (p : Sketch) → r.nodes < sketch_size p → TellAllBeyond r e (p ∷ [])
none_left r error.TooMany p h = inl (omega (arith, h))
none_left r error.Memory p h = tt

pub one_taken : (r s : Room) (p : Sketch) → s.nodes + sketch_size p ≡ r.nodes → s.branches ≡ r.branches → IsTaken r s (p ∷ [])
one_taken r s p nodes branches = record { nodes = omega (arith, nodes); branches = branches }

pub none_taken : (r : Room) → IsTaken r r []
none_taken r = record { nodes = omega arith; branches = refl }

pub sketches_push : (sorts : Sorts) (trees : List Tree) (ss : List own.Sketch) (s : own.Sketch) → AreSketchesReady sorts trees ss →
    IsSketchReady sorts trees s → AreSketchesReady sorts trees (ss ++ s ∷ [])
sketches_push sorts trees [] s ready new = (new, tt)
sketches_push sorts trees (u ∷ ss) s ready new = (ready.0, sketches_push sorts trees ss s ready.1 new)

-- what is drawn for the masks of a set's subsets
module _ (draw : Copies → Sketch) (set : ℕ) (within : set ≤ 15) where
  abbrev passes : ℕ → Bool
  passes m = bit_and m set == m

  abbrev one : ℕ → List Sketch
  one n = map (λ (m : ℕ). draw (set_of m)) (if passes n then n ∷ [] else [])

  abbrev up_to : ℕ → List Sketch
  up_to n = map (λ (m : ℕ). draw (set_of m)) (filter passes (range_with_len 1 n))

  pub up_to_more : (n : ℕ) → up_to (n + 1) ≡ up_to n ++ one (n + 1)
  up_to_more n =
      ap (map (λ (m : ℕ). draw (set_of m))) (filter_push passes n)
      ∙ map-append (λ (m : ℕ). draw (set_of m)) (filter passes (range_with_len 1 n)) (if passes (n + 1) then (n + 1) ∷ [] else [])

  pub up_to_last : (n : ℕ) → n ≡ 15 → up_to n ≡ map draw (subsets (set_of set))
  up_to_last n e = ap up_to e ∙ masked draw set within

  pub up_to_taken : (r s u : Room) (n : ℕ) → IsTaken r s (up_to n) → IsTaken s u (one (n + 1)) → IsTaken r u (up_to (n + 1))
  up_to_taken r s u n a b = subst (IsTaken r u) (sym (up_to_more n)) (taken_more r s u (up_to n) (one (n + 1)) a b)

  pub up_to_told : (r s : Room) (e : ProductError) (n : ℕ) → n < 15 → IsTaken r s (up_to n) → TellAllBeyond s e (one (n + 1)) →
      TellAllBeyond r e (map draw (subsets (set_of set)))
  up_to_told r s e n h a b =
      let split = drawn_split passes (λ (m : ℕ). draw (set_of m)) n h in
      subst (TellAllBeyond r e) (sym split.1 ∙ masked draw set within) (some_beyond r s (up_to n) (one (n + 1)) split.0 e a b)
