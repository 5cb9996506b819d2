-- What is drawn for an if and for a while of the shared code, put together of its parts.
use Rattle.sm_product.proofs.Imports.{◌≡◌, ◌<◌, ◌+◌, ◌||◌, ℕ, Bool, true, false, if◌then◌else◌, List, drop, sym, ap, ◌∙◌, subst, filter, Copy, copy_of, Code, Parts, Assertion, TableValue, trees_in, sorts_in, Copies, copies, has, no_copies, has_hole, only_in, members, with_member, without, block_templates, loop_templates, TellsSketch, ProductError, sketch_in, IsSketchReady, IsDrawn, product, product_if, product_while, branched, forked, where_any}
use Rattle.std.proofs.Common.{Result}
use Rattle.std.specs.Prelude.{IfOk, IfErr, IsErrAnd}
use Rattle.sm_sketch.specs.Sketches as plain
use Rattle.sm_sketch.specs.declared.sketch.Sketch.{Sketch}
use Rattle.sm_product.proofs.BlocksDrawn.{forks_out, forks_in}
use Rattle.sm_product.proofs.DrawnLemmas.{tells_whole, drawn_by, drawn_same, drawn_fault, apart_drawn, looped_drawn, forking_drawn}
use Rattle.sm_product.proofs.GrowthLemmas.{after_any, first_of_fork, second_of_fork}

-- a call draws a sketch over a table, clause by clause
pub record Draws (v : TableValue) (p : plain.Sketch) (r : Result Sketch ProductError) : Type 0 where
  pub made : IfOk r (λ (s : Sketch). sketch_in (sorts_in v) (trees_in v) s ≡ p)
  pub ready : IfOk r (IsSketchReady (sorts_in v) (trees_in v))
  pub told : IfErr r (λ (e : ProductError). TellsSketch e p)

-- forks of copies from the n-th on
module _ (inner : Copies → plain.Sketch) (set taken : Copies) (n : ℕ) (less : n < 4) (w : TableValue) (r : Result Sketch ProductError) where
  abbrev later : List Copy
  later = filter (has set) (drop (n + 1) copies)

  abbrev one : plain.Sketch
  one = forked inner later (with_member taken (copy_of n))

  abbrev other : plain.Sketch
  other = forked inner later taken

  abbrev whole : plain.Sketch
  whole = forked inner (filter (has set) (drop n copies)) taken

  -- the n-th isn't in the set
  pub fork_out : has set (copy_of n) ≡ false → IsDrawn w other r → IsDrawn w whole r
  fork_out out h = drawn_same w other whole r (forks_out inner set taken n less out) h

  -- an error of either side is one of the whole
  pub one_fails : has set (copy_of n) ≡ true → (more : Copies) (x : ProductError) → more ≡ with_member taken (copy_of n) →
      IsErrAnd r (λ (e : ProductError). e ≡ x) → TellsSketch x (forked inner later more) → IsDrawn w whole r
  one_fails here more x is h told =
      drawn_fault w whole r x h
      (subst (λ (q : plain.Sketch). TellsSketch x q) (forks_in inner set taken n less here)
      (tells_whole x one (plain.forking (copy_of n) one other) (first_of_fork (copy_of n) one other)
      (subst (λ (u : Copies). TellsSketch x (forked inner later u)) is told)))

  pub other_fails : has set (copy_of n) ≡ true → (x : ProductError) → IsErrAnd r (λ (e : ProductError). e ≡ x) → TellsSketch x other →
      IsDrawn w whole r
  other_fails here x h told =
      drawn_fault w whole r x h
      (subst (λ (q : plain.Sketch). TellsSketch x q) (forks_in inner set taken n less here)
      (tells_whole x other (plain.forking (copy_of n) one other) (second_of_fork (copy_of n) one other) told))

  -- both sides
  pub both_forked : has set (copy_of n) ≡ true → (c : Copy) (more : Copies) (p q : plain.Sketch) → c ≡ copy_of n →
      more ≡ with_member taken (copy_of n) → p ≡ forked inner later more → q ≡ other → Draws w (plain.forking c p q) r → IsDrawn w whole r
  both_forked here c more p q copy is first second h =
      drawn_same w (plain.forking c one other) whole r
      (ap (λ (d : Copy). plain.forking d one other) copy ∙ forks_in inner set taken n less here)
      (forking_drawn w c p q one other r (first ∙ ap (forked inner later) is) second h.made h.ready h.told)

-- both blocks of an if
module _ (t : Parts) (first second : Code) (set taken : Copies) where
  abbrev last : plain.Sketch
  last = where_any (without set taken) (product t second) plain.ends

  -- what is drawn for those that took the second
  pub last_is : (others : Copies) (p : plain.Sketch) → others ≡ without set taken → p ≡ plain.ends →
      where_any others (product t second) p ≡ last
  last_is others p is end =
      ap (λ (u : Copies). where_any u (product t second) p) is ∙ ap (where_any (without set taken) (product t second)) end

  pub branches_fail : (w : TableValue) (r : Result Sketch ProductError) (x : ProductError) (q : plain.Sketch) → q ≡ last →
      IsErrAnd r (λ (e : ProductError). e ≡ x) → TellsSketch x q → IsDrawn w (branched (product t first) (product t second) set taken) r
  branches_fail w r x q is h told =
      drawn_fault w (branched (product t first) (product t second) set taken) r x h
      (tells_whole x last (where_any taken (product t first) last) (after_any t first taken last)
      (subst (λ (p : plain.Sketch). TellsSketch x p) is told))

-- an if, where its test is known
module _ (t : Parts) (first second : Code) (code : Copy → Code) (set : Copies) (p : plain.Sketch) (w : TableValue)
    (r : Result Sketch ProductError) where
  abbrev if_at : Bool → plain.Sketch
  if_at b = product_if t b code (product t first) (product t second) set p

  pub if_summed : (has_hole first || has_hole second) ≡ false → Draws w (if_at false) r →
      IsDrawn w (if_at (has_hole first || has_hole second)) r
  if_summed e h =
      drawn_same w (if_at false) (if_at (has_hole first || has_hole second)) r (ap if_at (sym e))
      (drawn_by w (if_at false) r h.made h.ready h.told)

  pub if_apart : (ts : List Assertion) (ks : Copy → ℕ) (a b : plain.Sketch) → (has_hole first || has_hole second) ≡ true →
      ts ≡ block_templates t (only_in set code) → ((c : Copy) → ks c ≡ (if has set c then 1 else 0)) →
      a ≡ forked (branched (product t first) (product t second) set) (members set) no_copies → b ≡ p → Draws w (plain.apart ts ks a b) r →
      IsDrawn w (if_at (has_hole first || has_hole second)) r
  if_apart ts ks a b e templates counts inner after h =
      drawn_same w (if_at true) (if_at (has_hole first || has_hole second)) r (ap if_at (sym e))
      (apart_drawn w ts (block_templates t (only_in set code)) ks (λ (c : Copy). if has set c then 1 else 0) a b
      (forked (branched (product t first) (product t second) set) (members set) no_copies) p r templates counts inner after
      h.made h.ready h.told)

-- a while, where its test is known
module _ (t : Parts) (body : Code) (code : Copy → Code) (set : Copies) (p : plain.Sketch) (w : TableValue)
    (r : Result Sketch ProductError) where
  abbrev while_at : Bool → plain.Sketch
  while_at b = product_while t b code (product t body) set p

  pub while_summed : has_hole body ≡ false → Draws w (while_at false) r → IsDrawn w (while_at (has_hole body)) r
  while_summed e h =
      drawn_same w (while_at false) (while_at (has_hole body)) r (ap while_at (sym e)) (drawn_by w (while_at false) r h.made h.ready h.told)

  pub while_looped : (ts : List Assertion) (b : plain.Sketch) → has_hole body ≡ true → ts ≡ loop_templates t set code → b ≡ p →
      Draws w (plain.looped ts set (λ (v : Copies). product t body v plain.ends) b) r → IsDrawn w (while_at (has_hole body)) r
  while_looped ts b e templates after h =
      drawn_same w (while_at true) (while_at (has_hole body)) r (ap while_at (sym e))
      (looped_drawn w ts (loop_templates t set code) set (λ (v : Copies). product t body v plain.ends) b p r templates after
      h.made h.ready h.told)
