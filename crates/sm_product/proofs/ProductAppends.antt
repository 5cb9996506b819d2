-- The product of code after code.
use Rattle.sm_product.proofs.Imports.{◌≡◌, ◌||◌, refl, ap, Copy, filling, fill, Code, End, Skip, Assign, Write, If, While, Hole, append, Parts, Copies, Step, has_hole, members, only_in, each_of, product_if, product_while, filled, product}
use Rattle.sm_sketch.specs.Sketches.{Sketch}

-- the product of code after code
pub product-append : (t : Parts) (c d : Code) (set : Copies) (next : Sketch) →
    product t (append c d) set next ≡ product t c set (product t d set next)
product-append t End d set next = refl
product-append t (Skip k) d set next = ap (each_of Step (members set)) (product-append t k d set next)
product-append t (Assign x e k) d set next = ap (each_of Step (members set)) (product-append t k d set next)
product-append t (Write a i e k) d set next = ap (each_of Step (members set)) (product-append t k d set next)
product-append t (If b c e k) d set next =
    ap (product_if t (has_hole c || has_hole e) (λ (p : Copy). fill (t.fillings p) (If b c e End)) (product t c) (product t e) set)
    (product-append t k d set next)
product-append t (While b c k) d set next =
    ap (product_while t (has_hole c) (λ (p : Copy). fill (t.fillings p) (While b c End)) (product t c) set)
    (product-append t k d set next)
product-append t (Hole h k) d set next =
    ap (filled t set (only_in set (λ (c : Copy). filling (t.fillings c) h))) (product-append t k d set next)
