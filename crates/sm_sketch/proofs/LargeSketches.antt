-- What is too large stays so with nodes before it; and the nodes of a set, one copy after the other.
use Rattle.sm_sketch.proofs.Imports.{◌≡◌, Result, Err, ℕ, suc, ◌+◌, ◌≤◌, inl, inr, max, Bool, true, false, if◌then◌else◌, refl, sym, ap, ◌∙◌, subst, arith, Copy, O, A, B, M, Copies, has, Node, is_branching, members, TellsSketch, TellsExtent, drawn_where, then_draw, each_of, sketch_size, sketch_depth, IsTooLarge}
use Rattle.std.proofs.Common.{IfErr}
use Rattle.sm_sketch.specs.declared.error.ProductError.TheVariants as error
use Rattle.sm_sketch.specs.Errors.{ProductError}
use Rattle.sm_sketch.specs.Sketches.{Sketch}

-- a sketch with at least as many nodes, that branches at least as deep
larger : (p q : Sketch) → sketch_size p ≤ sketch_size q → sketch_depth p ≤ sketch_depth q → IsTooLarge p → IsTooLarge q
larger p q nodes branches (inl h) = inl (omega (arith, nodes, h))
larger p q nodes branches (inr h) = inr (omega (arith, branches, h))

-- an extent that is too large is that of a sketch that is
pub tells_sketch : (e : ProductError) (n b : ℕ) (p : Sketch) → n ≤ sketch_size p → b ≤ sketch_depth p → TellsExtent e n b → TellsSketch e p
tells_sketch error.TooMany n b p nodes branches (inl h) = inl (omega (arith, nodes, h))
tells_sketch error.TooMany n b p nodes branches (inr h) = inr (omega (arith, branches, h))
tells_sketch error.Memory n b p nodes branches h = tt

-- one node that doesn't branch
pub drawn_size : (node : Node) (p : Sketch) → sketch_size (then_draw node p) ≡ sketch_size p + 1
drawn_size node p = omega arith

pub drawn_depth : (node : Node) (p : Sketch) → is_branching node ≡ false → sketch_depth (then_draw node p) ≡ sketch_depth p
drawn_depth node p flat =
    let none : max (sketch_depth p) 0 ≡ sketch_depth p = omega arith in
    ap (λ (b : Bool). if b then suc (max (sketch_depth p) 0) else max (sketch_depth p) 0) flat ∙ none

-- a node for each copy of a set, by the copies
set_drawn : (o a b m : Bool) (node : Copy → Node) (p : Sketch) →
    each_of node (members (record { base = o; variant_a = a; variant_b = b; candidate = m })) p
    ≡ drawn_where o (node O) (drawn_where a (node A) (drawn_where b (node B) (drawn_where m (node M) p)))
set_drawn true true true true node p = refl
set_drawn true true true false node p = refl
set_drawn true true false true node p = refl
set_drawn true true false false node p = refl
set_drawn true false true true node p = refl
set_drawn true false true false node p = refl
set_drawn true false false true node p = refl
set_drawn true false false false node p = refl
set_drawn false true true true node p = refl
set_drawn false true true false node p = refl
set_drawn false true false true node p = refl
set_drawn false true false false node p = refl
set_drawn false false true true node p = refl
set_drawn false false true false node p = refl
set_drawn false false false true node p = refl
set_drawn false false false false node p = refl

pub members_drawn : (set : Copies) (node : Copy → Node) (p : Sketch) →
    each_of node (members set) p
    ≡ drawn_where (has set O) (node O) (drawn_where (has set A) (node A)
    (drawn_where (has set B) (node B) (drawn_where (has set M) (node M) p)))
members_drawn set node p = set_drawn set.base set.variant_a set.variant_b set.candidate node p

-- the nodes of a set drawn one after the other, that of the last copy first
pub each_drawn : (set : Copies) (node : Copy → Node) (p q r s t : Sketch) → q ≡ drawn_where (has set M) (node M) p →
    r ≡ drawn_where (has set B) (node B) q → s ≡ drawn_where (has set A) (node A) r → t ≡ drawn_where (has set O) (node O) s →
    t ≡ each_of node (members set) p
each_drawn set node p q r s t four three two one =
    one
    ∙ ap (drawn_where (has set O) (node O))
    (two ∙ ap (drawn_where (has set A) (node A)) (three ∙ ap (drawn_where (has set B) (node B)) four))
    ∙ sym (members_drawn set node p)

-- a sketch that is too large is so with nodes before it
deeper : (b : Bool) (d : ℕ) → d ≤ (if b then suc (max d 0) else max d 0)
deeper true d = omega arith
deeper false d = omega arith

where_tells : (b : Bool) (node : Node) (p : Sketch) (e : ProductError) → TellsSketch e p → TellsSketch e (drawn_where b node p)
where_tells false node p e h = h
where_tells true node p error.Memory h = tt
where_tells true node p error.TooMany h =
    let size = drawn_size node p in
    let more : sketch_size p ≤ sketch_size (then_draw node p) = omega (arith, size) in
    larger p (then_draw node p) more (deeper (is_branching node) (sketch_depth p)) h

module _ (set : Copies) (node : Copy → Node) (p : Sketch) (e : ProductError) where
  abbrev in_place : Copy → Sketch → Sketch
  in_place c q = drawn_where (has set c) (node c) q

  pub fourth_tells : TellsSketch e (in_place M p) → TellsSketch e (each_of node (members set) p)
  fourth_tells h =
      subst (TellsSketch e) (sym (members_drawn set node p))
      (where_tells (has set O) (node O) (in_place A (in_place B (in_place M p))) e
      (where_tells (has set A) (node A) (in_place B (in_place M p)) e (where_tells (has set B) (node B) (in_place M p) e h)))

  pub third_tells : (q : Sketch) → q ≡ drawn_where (has set M) (node M) p → TellsSketch e (drawn_where (has set B) (node B) q) →
      TellsSketch e (each_of node (members set) p)
  third_tells q is h =
      subst (TellsSketch e) (sym (members_drawn set node p))
      (where_tells (has set O) (node O) (in_place A (in_place B (in_place M p))) e
      (where_tells (has set A) (node A) (in_place B (in_place M p)) e (subst (λ (x : Sketch). TellsSketch e (in_place B x)) is h)))

  pub second_tells : (q r : Sketch) → q ≡ drawn_where (has set M) (node M) p → r ≡ drawn_where (has set B) (node B) q →
      TellsSketch e (drawn_where (has set A) (node A) r) → TellsSketch e (each_of node (members set) p)
  second_tells q r four three h =
      subst (TellsSketch e) (sym (members_drawn set node p))
      (where_tells (has set O) (node O) (in_place A (in_place B (in_place M p))) e
      (subst (λ (x : Sketch). TellsSketch e (in_place A x)) (three ∙ ap (in_place B) four) h))

-- an answer that is an error
pub err_tells : {T : Type 0} (r : Result T ProductError) (e : ProductError) (p : Sketch) → r ≡ Err e → TellsSketch e p →
    IfErr r (λ (x : ProductError). TellsSketch x p)
err_tells {T} r e p is h = subst (λ (q : Result T ProductError). IfErr q (λ (x : ProductError). TellsSketch x p)) (sym is) h

pub each_err : (set : Copies) (node : Copy → Node) (p q r s : Sketch) → q ≡ drawn_where (has set M) (node M) p →
    r ≡ drawn_where (has set B) (node B) q → s ≡ drawn_where (has set A) (node A) r → {T : Type 0} (done : Result T ProductError) →
    IfErr done (λ (e : ProductError). TellsSketch e (drawn_where (has set O) (node O) s)) →
    IfErr done (λ (e : ProductError). TellsSketch e (each_of node (members set) p))
each_err set node p q r s four three two done h =
    subst (λ (t : Sketch). IfErr done (λ (e : ProductError). TellsSketch e t))
    (each_drawn set node p q r s (drawn_where (has set O) (node O) s) four three two refl) h
