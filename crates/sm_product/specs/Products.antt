-- Cited by public clauses: the product of the copies of a set, by the shared code.
-- After Sousa, Dillig and Lahiri, "Verified Three-Way Program Merge" (OOPSLA 2018).
use Rattle.std.specs.Prelude.{Bool, false, true, not, ◌&&◌, ◌||◌, if◌then◌else◌, List, [], ◌∷◌}
use Rattle.std.specs.List.{list_any}
use Rattle.sm_syntax.specs.claim.Syntax.{Code, End, Skip, Assign, Write, If, While, Hole}
use Rattle.sm_syntax.specs.claim.Fill.{filling, fill}
use Rattle.sm_syntax.specs.claim.ConflictFree.{Copy}
use Rattle.sm_syntax.specs.text.Parts.{Parts}
use Rattle.sm_plan.specs.Copies.{Copies, has, no_copies, is_inhabited}
use Rattle.sm_plan.specs.Nodes.{Step, Abs}
use Rattle.sm_moves.specs.CodeShapes.{has_hole, has_fork, own_statements}
use Rattle.sm_moves.specs.CopySets.{all_copies, members, with_member, without, only_in}
use Rattle.sm_moves.specs.Moves.{is_shared}
use Rattle.sm_template.specs.Templates.{block_templates, loop_templates}
use Rattle.sm_sketch.specs.Sketches.{Sketch, ends, each_of, forking, looped, apart}
use Rattle.sm_product.specs.MiniProducts.{side_by_side}

-- the product of a set, nothing where no copy is in it
abbrev pub where_any : Copies → (Copies → Sketch → Sketch) → Sketch → Sketch
where_any set draw next = if is_inhabited set then draw set next else next

-- forks of copies, and then what is drawn for those that took the first block
abbrev pub forked : (Copies → Sketch) → List Copy → Copies → Sketch
forked inner [] taken = inner taken
forked inner (c ∷ rest) taken =
    let one = forked inner rest (with_member taken c) in
    let other = forked inner rest taken in
    forking c one other

-- the first block of those that took it, the second block of the others, and then the end
abbrev pub branched : (Copies → Sketch → Sketch) → (Copies → Sketch → Sketch) → Copies → Copies →
    Sketch
branched first second set taken =
    where_any taken first (where_any (without set taken) second ends)

-- an if of the shared code: one with a hole is a block in which each copy forks, any other is
-- summarized
abbrev pub product_if : Parts → Bool → (Copy → Code) → (Copies → Sketch → Sketch) →
    (Copies → Sketch → Sketch) → Copies → Sketch → Sketch
product_if t false code first second set next = each_of (λ (c : Copy). Abs c 1) (members set) next
product_if t true code first second set next =
    apart (block_templates t (only_in set code)) (λ (c : Copy). if has set c then 1 else 0)
    (forked (branched first second set) (members set) no_copies) next

-- a while of the shared code: loops with a hole run together, any other is summarized
abbrev pub product_while : Parts → Bool → (Copy → Code) → (Copies → Sketch → Sketch) → Copies →
    Sketch → Sketch
product_while t false code body set next = each_of (λ (c : Copy). Abs c 1) (members set) next
product_while t true code body set next =
    looped (loop_templates t set code) set (λ (v : Copies). body v ends) next

-- a hole with these fillings: where they differ and one may fork they are a block
abbrev pub filled : Parts → Copies → (Copy → Code) → Sketch → Sketch
filled t set code next =
    let may_fork = list_any (λ (c : Copy). has_fork (code c)) (members set) in
    if not (is_shared set code) && may_fork
    then
    apart (block_templates t code) (λ (c : Copy). own_statements (code c))
    (side_by_side t set code ends) next
    else side_by_side t set code next

-- the product of a set that has a copy, and what follows
abbrev pub product : Parts → Code → Copies → Sketch → Sketch
product t End set next = next
product t (Skip k) set next = each_of Step (members set) (product t k set next)
product t (Assign x e k) set next = each_of Step (members set) (product t k set next)
product t (Write a i e k) set next = each_of Step (members set) (product t k set next)
product t (If b c d k) set next =
    product_if t (has_hole c || has_hole d) (λ (p : Copy). fill (t.fillings p) (If b c d End))
    (product t c) (product t d) set (product t k set next)
product t (While b c k) set next =
    product_while t (has_hole c) (λ (p : Copy). fill (t.fillings p) (While b c End))
    (product t c) set (product t k set next)
product t (Hole h k) set next =
    filled t set (only_in set (λ (c : Copy). filling (t.fillings c) h)) (product t k set next)

-- the sketch of a task
abbrev pub sketch_of : Parts → Sketch
sketch_of t = product t t.shared all_copies ends
