-- Fillings that differ and may fork are a block, others stand side by side.
use Rattle.sm_product.proofs.Imports.{◌≡◌, Bool, true, false, refl, sym, ap, ◌∙◌, subst, if◌then◌else◌, fun_ext, Copy, filling, Code, End, IsWellSorted, trees_in, sorts_in, parts_of, has, set_of, has_hole, only_in, block_codes, sketch_in}
use Rattle.sm_product.proofs.HoleDrawn.{hole_apart, hole_beside}
use Rattle.sm_product.proofs.hole.product_hole.Goals as goal

-- what holds of the fillings and of no code holds of the code of a set's copies
in_set : (P : Code → Type 0) (b : Bool) (x y : Code) → x ≡ (if b then y else End) → P y → P End → P x
in_set P true x y e h g = subst P (sym e) h
in_set P false x y e h g = subst P (sym e) g

not_in : (b : Bool) (x y : Code) → x ≡ (if b then y else End) → b ≡ false → x ≡ End
not_in b x y e out = e ∙ ap (λ (v : Bool). if v then y else End) out

pub apart_blocks-requires-clause-sorted : goal.apart_blocks-requires-clause-sorted
apart_blocks-requires-clause-sorted c = λ (d : Copy).
    in_set (λ (k : Code). IsWellSorted (sorts_in c.args.table.now) k) (has (set_of c.args.set) d)
    (block_codes c.fillings_in-blocks.result d)
    (filling ((parts_of c.args.cx.now.task.now).fillings d) c.args.hole) (c.fillings_in-blocks.ensures d) (c.requires.sorted d) tt

pub apart_blocks-requires-clause-no_hole : goal.apart_blocks-requires-clause-no_hole
apart_blocks-requires-clause-no_hole c = λ (d : Copy).
    in_set (λ (k : Code). has_hole k ≡ false) (has (set_of c.args.set) d) (block_codes c.fillings_in-blocks.result d)
    (filling ((parts_of c.args.cx.now.task.now).fillings d) c.args.hole) (c.fillings_in-blocks.ensures d)
    (c.requires.context.no_hole d c.args.hole) refl

pub apart_blocks-requires-clause-outside : goal.apart_blocks-requires-clause-outside
apart_blocks-requires-clause-outside c = λ (d : Copy) out.
    not_in (has (set_of c.args.set) d) (block_codes c.fillings_in-blocks.result d)
    (filling ((parts_of c.args.cx.now.task.now).fillings d) c.args.hole) (c.fillings_in-blocks.ensures d) out

pub blocks_beside-requires-clause-sorted : goal.blocks_beside-requires-clause-sorted
blocks_beside-requires-clause-sorted c = λ (d : Copy).
    in_set (λ (k : Code). IsWellSorted (sorts_in c.args.table.now) k) (has (set_of c.args.set) d)
    (block_codes c.fillings_in-blocks.result d)
    (filling ((parts_of c.args.cx.now.task.now).fillings d) c.args.hole) (c.fillings_in-blocks.ensures d) (c.requires.sorted d) tt

pub blocks_beside-requires-clause-no_hole : goal.blocks_beside-requires-clause-no_hole
blocks_beside-requires-clause-no_hole c = λ (d : Copy).
    in_set (λ (k : Code). has_hole k ≡ false) (has (set_of c.args.set) d) (block_codes c.fillings_in-blocks.result d)
    (filling ((parts_of c.args.cx.now.task.now).fillings d) c.args.hole) (c.fillings_in-blocks.ensures d)
    (c.requires.context.no_hole d c.args.hole) refl

pub blocks_beside-requires-clause-outside : goal.blocks_beside-requires-clause-outside
blocks_beside-requires-clause-outside c = λ (d : Copy) out.
    not_in (has (set_of c.args.set) d) (block_codes c.fillings_in-blocks.result d)
    (filling ((parts_of c.args.cx.now.task.now).fillings d) c.args.hole) (c.fillings_in-blocks.ensures d) out

pub returns-then-is_apart-clause-drawn : goal.returns-then-is_apart-clause-drawn
returns-then-is_apart-clause-drawn c =
    let v = c.args.table.now in
    let parts = parts_of c.args.cx.now.task.now in
    let set = set_of c.args.set in
    let given = block_codes c.fillings_in-blocks.result in
    let code = only_in set (λ (d : Copy). filling (parts.fillings d) c.args.hole) in
    let same : given ≡ code = fun_ext c.fillings_in-blocks.ensures in
    hole_apart parts c.apart_blocks.new.table set given code same (sketch_in (sorts_in v) (trees_in v) c.args.next) c.apart_blocks.result
    (sym c.is_apart.ensures ∙ c.if-is_apart.true) c.apart_blocks.ensures.drawn

pub returns-clause-drawn : goal.returns-clause-drawn
returns-clause-drawn c =
    let v = c.args.table.now in
    let parts = parts_of c.args.cx.now.task.now in
    let set = set_of c.args.set in
    let given = block_codes c.fillings_in-blocks.result in
    let code = only_in set (λ (d : Copy). filling (parts.fillings d) c.args.hole) in
    let same : given ≡ code = fun_ext c.fillings_in-blocks.ensures in
    hole_beside parts c.blocks_beside.new.table set given code same (sketch_in (sorts_in v) (trees_in v) c.args.next)
    c.blocks_beside.result (sym c.is_apart.ensures ∙ c.if-is_apart.false) c.blocks_beside.ensures.drawn
