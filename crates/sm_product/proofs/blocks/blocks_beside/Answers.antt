-- The code of the blocks side by side.
use Rattle.sm_product.proofs.Imports.{◌≡◌, sym, ap, ◌∙◌, subst, fun_ext, Copy, Code, IsWellSorted, of_copy, trees_in, sorts_in, parts_of, set_of, rest_code, has_hole, block_codes, sketch_in, IsDrawn, side_by_side}
use Rattle.sm_product.proofs.DrawnLemmas.{drawn_by}
use Rattle.sm_product.proofs.blocks.blocks_beside.Goals as goal

pub side_by_side-requires-clause-sorted : goal.side_by_side-requires-clause-sorted
side_by_side-requires-clause-sorted c = λ (d : Copy).
    subst (λ (k : Code). IsWellSorted (sorts_in c.args.table.now) k) (sym (c.in_ok-rests.ensures d)) (c.requires.sorted d)

pub side_by_side-requires-clause-no_hole : goal.side_by_side-requires-clause-no_hole
side_by_side-requires-clause-no_hole c = λ (d : Copy). ap has_hole (c.in_ok-rests.ensures d) ∙ c.requires.no_hole d

pub side_by_side-requires-clause-outside : goal.side_by_side-requires-clause-outside
side_by_side-requires-clause-outside c = λ (d : Copy) out. c.in_ok-rests.ensures d ∙ c.requires.outside d out

pub returns-clause-drawn : goal.returns-clause-drawn
returns-clause-drawn c =
    let v = c.args.table.now in
    let w = c.side_by_side.new.table in
    let t = parts_of c.args.cx.now.task.now in
    let set = set_of c.args.set in
    let p = sketch_in (sorts_in v) (trees_in v) c.args.next in
    let rests : Copy → Code = λ (d : Copy). rest_code (of_copy c.in_ok-rests.rests d) in
    let left : rests ≡ block_codes c.args.blocks.now = fun_ext c.in_ok-rests.ensures in
    let r = c.side_by_side.result in
    subst (λ (f : Copy → Code). IsDrawn w (side_by_side t set f p) r) left
    (drawn_by w (side_by_side t set rests p) r (c.side_by_side.ensures.drawn t c.requires.context.site) c.side_by_side.ensures.ready
    (c.side_by_side.ensures.err t c.requires.context.site))
