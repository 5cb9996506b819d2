-- The room is that of the limits.
use Rattle.sm_product.proofs.Imports.{IfErr-weaker, Parts, trees_in, sorts_in, set_of, codes_in, IsSiteOf, TellsSketch, ProductError, sketch_in, side_by_side, TellsBeyond}
use Rattle.sm_product.proofs.RoomLemmas.{beyond_limit}
use Rattle.sm_product.proofs.beside.side_by_side.Goals as goal

pub draw-requires-clause-filled : goal.draw-requires-clause-filled
draw-requires-clause-filled c = record { no_hole = c.requires.no_hole; outside = c.requires.outside }

pub returns-clause-err : goal.returns-clause-err
returns-clause-err c = λ (p : Parts) (site : IsSiteOf p c.args.site.now).
    let v = c.args.table.now in
    let whole = side_by_side p (set_of c.args.set) (codes_in c.args.code) (sketch_in (sorts_in v) (trees_in v) c.args.next) in
    IfErr-weaker c.draw.result (λ (e : ProductError). TellsBeyond c.whole.result e whole) (λ (e : ProductError). TellsSketch e whole)
    (λ (e : ProductError) (h : TellsBeyond c.whole.result e whole).
    beyond_limit c.whole.result whole e c.whole.ensures.nodes c.whole.ensures.branches h)
    (c.draw.ensures.err p site)
