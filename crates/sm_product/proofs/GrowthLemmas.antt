-- A sketch is no larger than one that it is a part of, nor than the product before which it stands.
use Rattle.sm_product.proofs.Imports.{◌≤◌, ℕ, zero, suc, Bool, true, false, not, ◌&&◌, ◌||◌, if◌then◌else◌, List, [], ◌∷◌, inl, inr, subst, arith, list_any, Code, End, Skip, Assign, Write, If, While, Hole, filling, fill, Copy, Parts, Assertion, Copies, with_copy, no_copies, is_inhabited, has, subsets, Node, Step, Abs, Fork, rest_after, loop_body, In, by_first_block, by_second_block, has_hole, has_fork, own_statements, members, only_in, Done, Steps, Summaries, Forks, Loops, move_of, moved_on, is_shared, block_templates, loop_templates, sketch_size, sizes_below, sketch_depth, deepest_below, is_branching_node, IsTooLarge, SketchNode, Plain, LoopSite, BlockSite, Draw, Sketches, Over, More, ends, then_draw, each_of, forking, turns_then, looped, apart, drawn, mini_product, side_by_side, statements_left, where_any, forked, branched, product_if, product_while, filled, product}
use Rattle.sm_moves.specs.Moves.{Move}
use Rattle.sm_sketch.specs.Sketches.{Sketch}

-- a sketch has at most the nodes of another, and branches no deeper
pub record IsNoLarger (p whole : Sketch) : Type 0 where
  pub nodes : sketch_size p ≤ sketch_size whole
  pub branches : sketch_depth p ≤ sketch_depth whole

-- a sketch has at most the nodes of some sketches together, and branches no deeper than they do
record IsBelow (p : Sketch) (ps : Sketches) : Type 0 where
  pub nodes : sketch_size p ≤ sizes_below ps
  pub branches : sketch_depth p ≤ deepest_below ps

pub itself : (p : Sketch) → IsNoLarger p p
itself p = record { nodes = omega arith; branches = omega arith }

pub through : (p q r : Sketch) → IsNoLarger p q → IsNoLarger q r → IsNoLarger p r
through p q r a b = record { nodes = omega (arith, a.nodes, b.nodes); branches = omega (arith, a.branches, b.branches) }

-- what has a part that is too large is too large
pub part_large : (p whole : Sketch) → IsNoLarger p whole → IsTooLarge p → IsTooLarge whole
part_large p whole a (inl h) = inl (omega (arith, a.nodes, h))
part_large p whole a (inr h) = inr (omega (arith, a.branches, h))

-- a sketch is below the node that it is drawn under
deeper : (b : Bool) (m n : ℕ) → m ≤ n → m ≤ (if b then suc n else n)
deeper true m n h = omega (arith, h)
deeper false m n h = h

drawn_under : (node : SketchNode) (ps : Sketches) (p : Sketch) → IsBelow p ps → IsNoLarger p (Draw node ps)
drawn_under node ps p h = record {
  nodes = omega (arith, h.nodes);
  branches = deeper (is_branching_node node) (sketch_depth p) (deepest_below ps) h.branches;
}

here : (p : Sketch) (ps : Sketches) → IsBelow p (More p ps)
here p ps = record { nodes = omega arith; branches = omega arith }

there : (p q : Sketch) (ps : Sketches) → IsBelow p ps → IsBelow p (More q ps)
there p q ps h = record { nodes = omega (arith, h.nodes); branches = omega (arith, h.branches) }

-- nodes one under another
pub under_node : (node : Node) (next : Sketch) → IsNoLarger next (then_draw node next)
under_node node next = drawn_under (Plain node) (More next Over) next (here next Over)

pub under_each : (node : Copy → Node) (list : List Copy) (next : Sketch) → IsNoLarger next (each_of node list next)
under_each node [] next = itself next
under_each node (c ∷ rest) next =
    through next (each_of node rest next) (then_draw (node c) (each_of node rest next)) (under_each node rest next)
    (under_node (node c) (each_of node rest next))

-- forks
pub first_of_fork : (c : Copy) (one other : Sketch) → IsNoLarger one (forking c one other)
first_of_fork c one other = drawn_under (Plain (Fork c)) (More one (More other Over)) one (here one (More other Over))

pub second_of_fork : (c : Copy) (one other : Sketch) → IsNoLarger other (forking c one other)
second_of_fork c one other =
    drawn_under (Plain (Fork c)) (More one (More other Over)) other (there other one (More other Over) (here other Over))

-- turns of loops, and what follows them
after_turns : (turn : Copies → Sketch) (list : List Copies) (next : Sketch) → IsBelow next (turns_then turn list next)
after_turns turn [] next = here next Over
after_turns turn (v ∷ rest) next = there next (turn v) (turns_then turn rest next) (after_turns turn rest next)

one_turn : (turn : Copies → Sketch) (list : List Copies) (v : Copies) (next : Sketch) → In v list →
    IsBelow (turn v) (turns_then turn list next)
one_turn turn [] v next h = elim h [ ]
one_turn turn (w ∷ rest) v next (inl e) =
    subst (λ (u : Copies). IsBelow (turn u) (More (turn w) (turns_then turn rest next))) e (here (turn w) (turns_then turn rest next))
one_turn turn (w ∷ rest) v next (inr h) =
    there (turn v) (turn w) (turns_then turn rest next) (one_turn turn rest v next h)

pub turn_of_loop : (ts : List Assertion) (set : Copies) (turn : Copies → Sketch) (next : Sketch) (v : Copies) → In v (subsets set) →
    IsNoLarger (turn v) (looped ts set turn next)
turn_of_loop ts set turn next v h =
    drawn_under (LoopSite set ts) (turns_then turn (subsets set) next) (turn v) (one_turn turn (subsets set) v next h)

pub after_loop : (ts : List Assertion) (set : Copies) (turn : Copies → Sketch) (next : Sketch) → IsNoLarger next (looped ts set turn next)
after_loop ts set turn next =
    drawn_under (LoopSite set ts) (turns_then turn (subsets set) next) next (after_turns turn (subsets set) next)

-- blocks
pub inside_block : (ts : List Assertion) (counts : Copy → ℕ) (inner next : Sketch) → IsNoLarger inner (apart ts counts inner next)
inside_block ts counts inner next =
    drawn_under (BlockSite counts ts) (More inner (More next Over)) inner (here inner (More next Over))

pub after_block : (ts : List Assertion) (counts : Copy → ℕ) (inner next : Sketch) → IsNoLarger next (apart ts counts inner next)
after_block ts counts inner next =
    drawn_under (BlockSite counts ts) (More inner (More next Over)) next (there next inner (More next Over) (here next Over))

-- what follows a mini-product
abbrev Follows : (Copies → (Copy → Code) → Sketch → Sketch) → Type 0
Follows go = (set : Copies) (rest : Copy → Code) (next : Sketch) → IsNoLarger next (go set rest next)

after_move : (t : Parts) (set : Copies) (rest : Copy → Code) (next : Sketch) (go : Copies → (Copy → Code) → Sketch → Sketch) →
    Follows go → (move : Move) → IsNoLarger next (drawn t set rest next go move)
after_move t set rest next go follows Done = itself next
after_move t set rest next go follows (Steps c) =
    let later = go set (with_copy rest c (rest_after 1 (rest c))) next in
    through next later (then_draw (Step c) later) (follows set (with_copy rest c (rest_after 1 (rest c))) next) (under_node (Step c) later)
after_move t set rest next go follows (Summaries left) =
    let later = go set (moved_on left rest) next in
    through next later (each_of (λ (c : Copy). Abs c 1) (members left) later) (follows set (moved_on left rest) next)
    (under_each (λ (c : Copy). Abs c 1) (members left) later)
after_move t set rest next go follows (Forks c) =
    let one = go set (with_copy rest c (by_first_block (rest c))) next in
    let other = go set (with_copy rest c (by_second_block (rest c))) next in
    through next one (forking c one other) (follows set (with_copy rest c (by_first_block (rest c))) next) (first_of_fork c one other)
after_move t set rest next go follows (Loops left) =
    let later = go set (moved_on left rest) next in
    let turn = λ (v : Copies). go v (only_in v (λ (c : Copy). loop_body (rest c))) ends in
    through next later (looped (loop_templates t left rest) left turn later) (follows set (moved_on left rest) next)
    (after_loop (loop_templates t left rest) left turn later)

pub after_mini : (t : Parts) (n : ℕ) → Follows (mini_product t n)
after_mini t zero set rest next = itself next
after_mini t (suc n) set rest next = after_move t set rest next (mini_product t n) (after_mini t n) (move_of set rest)

pub after_side : (t : Parts) → Follows (side_by_side t)
after_side t set rest next = after_mini t (statements_left rest) set rest next

-- what follows a product
pub after_hole : (t : Parts) (set : Copies) (code : Copy → Code) (next : Sketch) → IsNoLarger next (filled t set code next)
after_hole t set code next = by (not (is_shared set code) && list_any (λ (c : Copy). has_fork (code c)) (members set))
  where
    by : (b : Bool) → IsNoLarger next (if b
        then apart (block_templates t code) (λ (c : Copy). own_statements (code c)) (side_by_side t set code ends) next
        else side_by_side t set code next)
    by true = after_block (block_templates t code) (λ (c : Copy). own_statements (code c)) (side_by_side t set code ends) next
    by false = after_side t set code next

after_if : (t : Parts) (b : Bool) (code : Copy → Code) (first second : Copies → Sketch → Sketch) (set : Copies) (next : Sketch) →
    IsNoLarger next (product_if t b code first second set next)
after_if t false code first second set next = under_each (λ (c : Copy). Abs c 1) (members set) next
after_if t true code first second set next =
    after_block (block_templates t (only_in set code)) (λ (c : Copy). if has set c then 1 else 0)
    (forked (branched first second set) (members set) no_copies) next

after_while : (t : Parts) (b : Bool) (code : Copy → Code) (body : Copies → Sketch → Sketch) (set : Copies) (next : Sketch) →
    IsNoLarger next (product_while t b code body set next)
after_while t false code body set next = under_each (λ (c : Copy). Abs c 1) (members set) next
after_while t true code body set next = after_loop (loop_templates t set code) set (λ (v : Copies). body v ends) next

pub after_product : (t : Parts) (c : Code) (set : Copies) (next : Sketch) → IsNoLarger next (product t c set next)
after_product t End set next = itself next
after_product t (Skip k) set next =
    through next (product t k set next) (product t (Skip k) set next) (after_product t k set next)
    (under_each Step (members set) (product t k set next))
after_product t (Assign x e k) set next =
    through next (product t k set next) (product t (Assign x e k) set next) (after_product t k set next)
    (under_each Step (members set) (product t k set next))
after_product t (Write a i e k) set next =
    through next (product t k set next) (product t (Write a i e k) set next) (after_product t k set next)
    (under_each Step (members set) (product t k set next))
after_product t (If b c d k) set next =
    through next (product t k set next) (product t (If b c d k) set next) (after_product t k set next)
    (after_if t (has_hole c || has_hole d) (λ (p : Copy). fill (t.fillings p) (If b c d End)) (product t c) (product t d) set
    (product t k set next))
after_product t (While b c k) set next =
    through next (product t k set next) (product t (While b c k) set next) (after_product t k set next)
    (after_while t (has_hole c) (λ (p : Copy). fill (t.fillings p) (While b c End)) (product t c) set (product t k set next))
after_product t (Hole h k) set next =
    through next (product t k set next) (product t (Hole h k) set next) (after_product t k set next)
    (after_hole t set (only_in set (λ (c : Copy). filling (t.fillings c) h)) (product t k set next))

-- what is drawn for a set that may have no copy
pub after_any : (t : Parts) (c : Code) (set : Copies) (next : Sketch) → IsNoLarger next (where_any set (product t c) next)
after_any t c set next = by (is_inhabited set)
  where
    by : (b : Bool) → IsNoLarger next (if b then product t c set next else next)
    by true = after_product t c set next
    by false = itself next
