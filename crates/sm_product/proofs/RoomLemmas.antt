-- Where there is no room for a part, there is none for the whole.
use Rattle.sm_product.proofs.Imports.{◌≡◌, ℕ, ◌+◌, ◌<◌, ◌≤◌, inl, inr, List, [], ◌∷◌, ◌++◌, map, sym, subst, arith, Copy, Assertion, Copies, subsets, TellsSketch, ProductError, turns_then, forking, looped, sketch_size, sizes_below, sketch_depth, deepest_below, Room, IsRoom, TellsBeyond, all_below, TellAllBeyond, IsTaken}
use Rattle.std.specs.Prelude.{Result, Ok, Err, IfErr}
use Rattle.std.specs.Result.{IsErrAnd}
use Rattle.sm_sketch.specs.declared.error.ProductError.TheVariants as error
use Rattle.sm_sketch.specs.Sketches.{Sketch}

-- what is so of an error is so of that which is returned
pub err_is : {T E : Type 0} (P : E → Type 0) (r : Result T E) (x : E) → IsErrAnd r (λ (e : E). e ≡ x) → P x → IfErr r P
err_is P (Ok t) x h p = tt
err_is P (Err e) x h p = subst P (sym h) p

-- want of memory tells nothing
pub no_memory : {T : Type 0} (room : Room) (p : Sketch) (r : Result T ProductError) →
    IsErrAnd r (λ (e : ProductError). e ≡ error.Memory) → IfErr r (λ (e : ProductError). TellsBeyond room e p)
no_memory room p r h = err_is (λ (e : ProductError). TellsBeyond room e p) r error.Memory h tt

-- an error of a part is one of the whole
pub part_beyond : (r s : Room) (p q : Sketch) (e : ProductError) → (r.nodes < sketch_size p → s.nodes < sketch_size q) →
    (r.branches < sketch_depth p → s.branches < sketch_depth q) → TellsBeyond r e p → TellsBeyond s e q
part_beyond r s p q error.TooMany nodes branches (inl h) = inl (nodes h)
part_beyond r s p q error.TooMany nodes branches (inr h) = inr (branches h)
part_beyond r s p q error.Memory nodes branches h = tt

-- what is too large is larger than there is room for
pub limit_beyond : (r : Room) (p : Sketch) (e : ProductError) → IsRoom r → TellsSketch e p → TellsBeyond r e p
limit_beyond r p error.TooMany is (inl h) = inl (omega (arith, is.0, h))
limit_beyond r p error.TooMany is (inr h) = inr (omega (arith, is.1, h))
limit_beyond r p error.Memory is h = tt

-- a whole sketch's room is that of the limits
pub beyond_limit : (r : Room) (p : Sketch) (e : ProductError) → r.nodes ≡ 200000 → r.branches ≡ 1000 → TellsBeyond r e p → TellsSketch e p
beyond_limit r p error.TooMany nodes branches (inl h) = inl (omega (arith, nodes, h))
beyond_limit r p error.TooMany nodes branches (inr h) = inr (omega (arith, branches, h))
beyond_limit r p error.Memory nodes branches h = tt

-- the turns of loops and what follows
turns_sizes : (turn : Copies → Sketch) (vs : List Copies) (p : Sketch) →
    sizes_below (turns_then turn vs p) ≡ sizes_below (all_below (map turn vs)) + sketch_size p
turns_sizes turn [] p = omega arith
turns_sizes turn (v ∷ vs) p = let more = turns_sizes turn vs p in omega arith

turns_depth : (turn : Copies → Sketch) (vs : List Copies) (p : Sketch) →
    (deepest_below (all_below (map turn vs)) ≤ deepest_below (turns_then turn vs p))
    × (sketch_depth p ≤ deepest_below (turns_then turn vs p))
turns_depth turn [] p = (omega arith, omega arith)
turns_depth turn (v ∷ vs) p = let more = turns_depth turn vs p in (omega (arith, more.0), omega (arith, more.1))

-- no room for the turns
pub turns_beyond : (r s : Room) (ts : List Assertion) (set : Copies) (turn : Copies → Sketch) (p : Sketch) (e : ProductError) →
    r.nodes ≡ s.nodes → r.branches + 1 ≡ s.branches → TellAllBeyond r e (map turn (subsets set)) → TellsBeyond s e (looped ts set turn p)
turns_beyond r s ts set turn p error.TooMany nodes branches (inl h) =
    let sizes = turns_sizes turn (subsets set) p in inl (omega (arith, nodes, h, sizes))
turns_beyond r s ts set turn p error.TooMany nodes branches (inr h) =
    let depth = (turns_depth turn (subsets set) p).0 in inr (omega (arith, branches, h, depth))
turns_beyond r s ts set turn p error.Memory nodes branches h = tt

-- no room for what follows them
pub after_beyond : (r s u : Room) (ts : List Assertion) (set : Copies) (turn : Copies → Sketch) (p : Sketch) (e : ProductError) →
    r.nodes ≡ s.nodes → r.branches + 1 ≡ s.branches → IsTaken r u (map turn (subsets set)) → TellsBeyond u e p →
    TellsBeyond s e (looped ts set turn p)
after_beyond r s u ts set turn p error.TooMany nodes branches taken (inl h) =
    let sizes = turns_sizes turn (subsets set) p in inl (omega (arith, nodes, h, sizes, taken.nodes))
after_beyond r s u ts set turn p error.TooMany nodes branches taken (inr h) =
    let depth = (turns_depth turn (subsets set) p).1 in inr (omega (arith, branches, h, depth, taken.branches))
after_beyond r s u ts set turn p error.Memory nodes branches taken h = tt

-- the blocks of a fork
pub one_beyond : (r s : Room) (c : Copy) (p q : Sketch) (e : ProductError) (n : ℕ) → n ≤ sketch_size q → r.nodes + n ≡ s.nodes →
    r.branches + 1 ≡ s.branches → TellsBeyond r e p → TellsBeyond s e (forking c p q)
one_beyond r s c p q error.TooMany n least nodes branches (inl h) = inl (omega (arith, least, nodes, h))
one_beyond r s c p q error.TooMany n least nodes branches (inr h) = inr (omega (arith, branches, h))
one_beyond r s c p q error.Memory n least nodes branches h = tt

pub other_beyond : (r s : Room) (c : Copy) (p q : Sketch) (e : ProductError) → r.nodes + sketch_size p ≡ s.nodes →
    r.branches + 1 ≡ s.branches → TellsBeyond r e q → TellsBeyond s e (forking c p q)
other_beyond r s c p q error.TooMany nodes branches (inl h) = inl (omega (arith, nodes, h))
other_beyond r s c p q error.TooMany nodes branches (inr h) = inr (omega (arith, branches, h))
other_beyond r s c p q error.Memory nodes branches h = tt

-- sketches behind others
pub sizes_append : (ps qs : List Sketch) →
    sizes_below (all_below (ps ++ qs)) ≡ sizes_below (all_below ps) + sizes_below (all_below qs)
sizes_append [] qs = omega arith
sizes_append (p ∷ ps) qs = let more = sizes_append ps qs in omega arith

pub depth_append : (ps qs : List Sketch) →
    (deepest_below (all_below ps) ≤ deepest_below (all_below (ps ++ qs)))
    × (deepest_below (all_below qs) ≤ deepest_below (all_below (ps ++ qs)))
depth_append [] qs = (omega arith, omega arith)
depth_append (p ∷ ps) qs = let more = depth_append ps qs in (omega (arith, more.0), omega (arith, more.1))
