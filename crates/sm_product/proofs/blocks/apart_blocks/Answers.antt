-- The fillings side by side are drawn first, then their templates.
use Rattle.sm_product.proofs.Imports.{sym, ap, ◌∙◌, subst, Copy, Sorts, of_copy, trees_in, sorts_in, parts_of, set_of, forms_in, widens_twice, own_statements, block_codes, block_templates, TellsSketch, sketch_in, sketch_stays, sketch_ready, side_by_side, IsContextReady}
use Rattle.sm_sketch.specs.Sketches as plain
use Rattle.sm_product.proofs.DrawnLemmas.{tells_whole, drawn_fault, apart_drawn}
use Rattle.sm_product.proofs.GrowthLemmas.{inside_block}
use Rattle.sm_product.proofs.blocks.apart_blocks.Goals as goal

pub blocks_beside-requires-clause-next : goal.blocks_beside-requires-clause-next
blocks_beside-requires-clause-next c = let v = c.args.table.now in c.ends.ensures.ready (sorts_in v) (trees_in v)

pub templates_of_blocks-requires : goal.templates_of_blocks-requires
templates_of_blocks-requires c = record {
  context = subst (λ (s : Sorts). IsContextReady s c.args.cx.now) (sym c.in_ok-inner.ensures.widens.sorts) c.requires.context;
}

pub returns-in_err-templates-clause-widens : goal.returns-in_err-templates-clause-widens
returns-in_err-templates-clause-widens c =
    widens_twice c.args.table.now c.blocks_beside.new.table c.templates_of_blocks.new.table c.in_ok-inner.ensures.widens
    c.in_err-templates.ensures.widens

pub returns-in_err-inner-clause-drawn : goal.returns-in_err-inner-clause-drawn
returns-in_err-inner-clause-drawn c =
    let v = c.args.table.now in
    let parts = parts_of c.args.cx.now.task.now in
    let code = block_codes c.args.blocks.now in
    let p = sketch_in (sorts_in v) (trees_in v) c.args.next in
    let inner = side_by_side parts (set_of c.args.set) code plain.ends in
    let counts = λ (d : Copy). own_statements (code d) in
    let whole = plain.apart (block_templates parts code) counts inner p in
    let x = c.in_err-inner.field-0.0 in
    let told = subst (λ (q : plain.Sketch). TellsSketch x (side_by_side parts (set_of c.args.set) code q))
    (c.ends.ensures.drawn (sorts_in v) (trees_in v)) c.in_err-inner.ensures.drawn in
    drawn_fault c.blocks_beside.new.table whole c.from_residual.result x c.from_residual.ensures.1
    (tells_whole x inner whole (inside_block (block_templates parts code) counts inner p) told)

pub returns-clause-drawn : goal.returns-clause-drawn
returns-clause-drawn c =
    let v = c.args.table.now in
    let u = c.blocks_beside.new.table in
    let w = c.templates_of_blocks.new.table in
    let more = c.in_ok-templates.ensures.widens in
    let wider = widens_twice v u w c.in_ok-inner.ensures.widens more in
    let parts = parts_of c.args.cx.now.task.now in
    let set = set_of c.args.set in
    let code = block_codes c.args.blocks.now in
    let p = sketch_in (sorts_in v) (trees_in v) c.args.next in
    let inner = side_by_side parts set code plain.ends in
    let counts = λ (d : Copy). own_statements (code d) in
    let drawn = c.in_ok-inner.ensures.drawn in
    let drawn_inner = drawn.0 ∙ ap (side_by_side parts set code) (c.ends.ensures.drawn (sorts_in v) (trees_in v)) in
    let ready_inner = sketch_ready u w more c.in_ok-inner.inner drawn.1 in
    let ready_next = sketch_ready v w wider c.args.next c.requires.next in
    apart_drawn w (forms_in (sorts_in w) (trees_in w) c.in_ok-templates.templates.list.items) (block_templates parts code)
    (of_copy c.counts.result) counts (sketch_in (sorts_in w) (trees_in w) c.in_ok-inner.inner)
    (sketch_in (sorts_in w) (trees_in w) c.args.next) inner p c.apart.result c.in_ok-templates.ensures.made c.counts.ensures
    (sketch_stays u w more c.in_ok-inner.inner drawn.1 ∙ drawn_inner) (sketch_stays v w wider c.args.next c.requires.next)
    (c.apart.ensures.drawn (sorts_in w) (trees_in w))
    (c.apart.ensures.ready (sorts_in w) (trees_in w) c.in_ok-templates.ensures.ready ready_inner ready_next)
    (c.apart.ensures.err (sorts_in w) (trees_in w) ready_inner ready_next)

pub returns-clause-widens : goal.returns-clause-widens
returns-clause-widens c =
    widens_twice c.args.table.now c.blocks_beside.new.table c.templates_of_blocks.new.table c.in_ok-inner.ensures.widens
    c.in_ok-templates.ensures.widens
