-- What a hole draws, by its two cases.
use Rattle.sm_product.proofs.Imports.{◌≡◌, Bool, true, false, not, ◌&&◌, if◌then◌else◌, sym, ap, subst, list_any, Copy, Code, Parts, TableValue, Copies, has_fork, own_statements, members, is_shared, block_templates, ProductError, IsDrawn, side_by_side, filled}
use Rattle.std.proofs.Common.{Result}
use Rattle.sm_sketch.specs.declared.sketch.Sketch.{Sketch}
use Rattle.sm_sketch.specs.Sketches as plain
use Rattle.sm_product.proofs.DrawnLemmas.{drawn_same}

module _ (t : Parts) (w : TableValue) (set : Copies) (given code : Copy → Code) (same : given ≡ code) (p : plain.Sketch)
    (r : Result Sketch ProductError) where
  abbrev apart_of : plain.Sketch
  apart_of =
      plain.apart (block_templates t given) (λ (c : Copy). own_statements (given c)) (side_by_side t set given plain.ends) p

  abbrev is_apart : Bool
  is_apart = not (is_shared set given) && list_any (λ (c : Copy). has_fork (given c)) (members set)

  by_test : (b : Bool) → is_apart ≡ b → IsDrawn w (if b then apart_of else side_by_side t set given p) r → IsDrawn w (filled t set code p) r
  by_test b e h =
      subst (λ (f : Copy → Code). IsDrawn w (filled t set f p) r) same
      (drawn_same w (if b then apart_of else side_by_side t set given p) (filled t set given p) r
      (sym (ap (λ (x : Bool). if x then apart_of else side_by_side t set given p) e)) h)

  pub hole_apart : is_apart ≡ true → IsDrawn w apart_of r → IsDrawn w (filled t set code p) r
  hole_apart e h = by_test true e h

  pub hole_beside : is_apart ≡ false → IsDrawn w (side_by_side t set given p) r → IsDrawn w (filled t set code p) r
  hole_beside e h = by_test false e h
