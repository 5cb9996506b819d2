-- The product of all copies, over the shared code, before the end.
use Rattle.sm_product.proofs.Imports.{refl, ap, Copy, trees_in, sorts_in, parts_of, set_of, sketch_in, product, sketch_of}
use Rattle.sm_product.proofs.DrawnLemmas.{drawn_same}
use Rattle.sm_product.proofs.sketching.drawn_product.Goals as goal

pub product_block-requires-clause-context : goal.product_block-requires-clause-context
product_block-requires-clause-context c = record {
  site = c.in_ok-site.ensures.of (parts_of c.args.task.now) refl (λ (d : Copy). refl);
  ready = c.in_ok-site.ensures.ready (sorts_in c.args.table.now) c.requires.declared c.requires.numbered;
  no_hole = c.requires.no_hole;
}

pub returns-clause-drawn : goal.returns-clause-drawn
returns-clause-drawn c =
    let v = c.args.table.now in
    let t = parts_of c.args.task.now in
    let q = sketch_in (sorts_in v) (trees_in v) c.ends.result in
    drawn_same c.product_block.new.table (product t t.shared (set_of 15) q) (sketch_of t) c.product_block.result
    (ap (product t t.shared (set_of 15)) (c.ends.ensures.drawn (sorts_in v) (trees_in v))) c.product_block.ensures.drawn
