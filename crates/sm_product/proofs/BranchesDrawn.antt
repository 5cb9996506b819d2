-- Where there is no room for a part of a fork, or of loops, there is none for the mini-product.
use Rattle.sm_product.proofs.Imports.{◌≡◌, ℕ, zero, suc, ◌+◌, ◌<◌, ◌≤◌, inl, inr, map, refl, sym, arith, Code, Copy, Parts, Copies, subsets, with_copy, by_first_block, by_second_block, Forks, Loops, moved_on, loop_templates, ProductError, forking, sketch_size, Room, turn_of, drawn, side_by_side, TellsBeyond, TellAllBeyond, IsTaken}
use Rattle.sm_sketch.specs.declared.error.ProductError.TheVariants as error
use Rattle.sm_sketch.specs.Sketches.{Sketch}
use Rattle.sm_product.proofs.GrowthLemmas.{after_side}
use Rattle.sm_product.proofs.RoomLemmas.{one_beyond, other_beyond, turns_beyond, after_beyond}

-- no branching node may stand there
fork_deep : (room : Room) (c : Copy) (p q : Sketch) (e : ProductError) → room.branches ≡ 0 → TellsBeyond room e (forking c p q)
fork_deep room c p q error.TooMany none = inr (omega (arith, none))
fork_deep room c p q error.Memory none = tt

-- the sketches below a fork have more nodes than there is room for
fork_full : (room : Room) (c : Copy) (p q : Sketch) (e : ProductError) → room.nodes < sketch_size p + sketch_size q →
    TellsBeyond room e (forking c p q)
fork_full room c p q error.TooMany h = inl (omega (arith, h))
fork_full room c p q error.Memory h = tt

-- no branching node may stand there, or the sketches below a fork have more nodes than there is room for
fork_fails_at : (room : Room) (c : Copy) (p q : Sketch) (n b : ℕ) → b ≡ room.branches → n ≤ sketch_size p + sketch_size q →
    (1 ≤ room.branches → room.nodes < n) → TellsBeyond room error.TooMany (forking c p q)
fork_fails_at room c p q n zero is least h = fork_deep room c p q error.TooMany (sym is)
fork_fails_at room c p q n (suc b) is least h =
    let few = h (omega (arith, is)) in fork_full room c p q error.TooMany (omega (arith, least, few))

fork_fails : (room : Room) (c : Copy) (p q : Sketch) (e : ProductError) (n : ℕ) → n ≤ sketch_size p + sketch_size q →
    (1 ≤ room.branches → room.nodes < n) → TellsBeyond room e (forking c p q)
fork_fails room c p q error.TooMany n least h = fork_fails_at room c p q n room.branches refl least h
fork_fails room c p q error.Memory n least h = tt

module _ (t : Parts) (set : Copies) (r : Copy → Code) (next : Sketch) (c : Copy) (room : Room) (e : ProductError) where
  abbrev one : Sketch
  one = side_by_side t set (with_copy r c (by_first_block (r c))) next

  abbrev other : Sketch
  other = side_by_side t set (with_copy r c (by_second_block (r c))) next

  next_fits : sketch_size next ≤ sketch_size other
  next_fits = (after_side t set (with_copy r c (by_second_block (r c))) next).nodes

  pub no_room_for_next : (n : ℕ) → n ≡ sketch_size next → (1 ≤ room.branches → room.nodes < n) →
      TellsBeyond room e (drawn t set r next (side_by_side t) (Forks c))
  no_room_for_next n is h = fork_fails room c one other e n (omega (arith, is, next_fits)) h

  pub no_room_for_one : (s : Room) (n : ℕ) → n ≡ sketch_size next → s.nodes + n ≡ room.nodes → s.branches + 1 ≡ room.branches →
      TellsBeyond s e one → TellsBeyond room e (drawn t set r next (side_by_side t) (Forks c))
  no_room_for_one s n is left same h = one_beyond s room c one other e n (omega (arith, is, next_fits)) left same h

  pub no_room_beside : (n : ℕ) → n ≡ sketch_size one → (1 ≤ room.branches → room.nodes < n) →
      TellsBeyond room e (drawn t set r next (side_by_side t) (Forks c))
  no_room_beside n is h = fork_fails room c one other e n (omega (arith, is)) h

  pub no_room_for_other : (s : Room) (n : ℕ) → n ≡ sketch_size one → s.nodes + n ≡ room.nodes → s.branches + 1 ≡ room.branches →
      TellsBeyond s e other → TellsBeyond room e (drawn t set r next (side_by_side t) (Forks c))
  no_room_for_other s n is left same h = other_beyond s room c one other e (omega (arith, left, is)) same h

module _ (t : Parts) (set : Copies) (r : Copy → Code) (next : Sketch) (left : Copies) (room : Room) (e : ProductError) where
  pub none_loops : room.branches ≡ 0 → TellsBeyond room e (drawn t set r next (side_by_side t) (Loops left))
  none_loops none = by e
    where
      by : (f : ProductError) → TellsBeyond room f (drawn t set r next (side_by_side t) (Loops left))
      by error.TooMany = inr (omega (arith, none))
      by error.Memory = tt

  module _ (below : Room) (nodes : below.nodes ≡ room.nodes) (branches : below.branches + 1 ≡ room.branches) where
    pub no_room_for_turns : TellAllBeyond below e (map (turn_of t r) (subsets left)) →
        TellsBeyond room e (drawn t set r next (side_by_side t) (Loops left))
    no_room_for_turns h =
        turns_beyond below room (loop_templates t left r) left (turn_of t r) (side_by_side t set (moved_on left r) next) e nodes branches h

    pub no_room_after : (s : Room) → IsTaken below s (map (turn_of t r) (subsets left)) →
        TellsBeyond s e (side_by_side t set (moved_on left r) next) →
        TellsBeyond room e (drawn t set r next (side_by_side t) (Loops left))
    no_room_after s taken h =
        after_beyond below room s (loop_templates t left r) left (turn_of t r) (side_by_side t set (moved_on left r) next) e nodes branches
        taken h
