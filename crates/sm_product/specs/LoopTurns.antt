-- Private: the turns of loops in a mini-product.
use Rattle.std.specs.Prelude.{◌≡◌, true}
use Rattle.sm_syntax.specs.claim.Syntax.{Code}
use Rattle.sm_syntax.specs.claim.ConflictFree.{Copy}
use Rattle.sm_syntax.specs.text.Parts.{Parts}
use Rattle.sm_plan.specs.Copies.{Copies, has}
use Rattle.sm_plan.specs.Statements.{is_loop, loop_body}
use Rattle.sm_moves.specs.CopySets.{only_in}
use Rattle.sm_sketch.specs.Sketches.{Sketch, ends}
use Rattle.sm_product.specs.MiniProducts.{side_by_side}

-- what is drawn for a turn of the loops of a set
abbrev pub turn_of : Parts → (Copy → Code) → Copies → Sketch
turn_of t code v = side_by_side t v (only_in v (λ (c : Copy). loop_body (code c))) ends

-- the code of each copy of a set begins with a loop
abbrev pub HaveLoops : Copies → (Copy → Code) → Type 0
HaveLoops set code = (c : Copy) → has set c ≡ true → is_loop (code c) ≡ true
