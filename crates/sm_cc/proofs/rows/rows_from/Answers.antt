-- One row more, with what was numbered for it.
use Rattle.sm_cc.proofs.Imports.{◌≡◌, ◌∙◌, sym, ap, subst, length, [], ◌∷◌, ◌++◌, arith, slice_get, length_push, slice_get-get_or, slice_get-map, trees_in, tree_at, TermId, part_before, AreRowsFrom}
use Rattle.std.specs.Option.{option_map}
use Rattle.sm_cc.specs.Views.{trees_of}
use Rattle.sm_cc.proofs.RowsLemmas.{rows_more, further_twice}
use Rattle.sm_cc.proofs.rows.rows_from.Goals as goal

pub row-requires-clause-there : goal.row-requires-clause-there
row-requires-clause-there c =
    let terms = c.args.terms.now in
    part_before _ terms c.loop-i.i _ c.requires.before (slice_get-get_or terms c.loop-i.i (record { 0 = 0 }) c.loop-i-test.true)

pub returns-in_err-row-clause-further : goal.returns-in_err-row-clause-further
returns-in_err-row-clause-further c =
    further_twice c.args.numbering.now c.loop-i.numbering c.row.new.numbering c.loop-i.invariant.further c.in_err-row.ensures.further

pub returns-in_err-push-clause-further : goal.returns-in_err-push-clause-further
returns-in_err-push-clause-further c =
    further_twice c.args.numbering.now c.loop-i.numbering c.row.new.numbering c.loop-i.invariant.further c.in_ok-row.ensures.further

pub loop-i-preserved : goal.loop-i-preserved
loop-i-preserved c =
    let table = c.args.table.now in
    let trees = trees_in table in
    let ids = c.args.terms.now in
    let terms = trees_of trees ids in
    let i = c.loop-i.i in
    let none : TermId = record { 0 = 0 } in
    let rows = c.loop-i.rows.items in
    let made = c.in_ok-row.ensures in
    let kept = c.loop-i.invariant in
    let items : c.push.new.self.items ≡ rows ++ c.in_ok-row.row ∷ [] = c.in_ok-push.ensures.items in
    let there =
    ap (slice_get terms) kept.count
    ∙ slice_get-map (λ (x : TermId). tree_at trees x.0) ids i
    ∙ ap (option_map (λ (x : TermId). tree_at trees x.0)) (slice_get-get_or ids i none c.loop-i-test.true) in
    let more = rows_more table terms c.loop-i.numbering c.row.new.numbering made.further c.args.from rows c.in_ok-row.row kept.rows _ there
    (made.row terms c.requires.positions) in
    let count = ap length items ∙ length_push rows c.in_ok-row.row in
    record {
      further = further_twice c.args.numbering.now c.loop-i.numbering c.row.new.numbering kept.further made.further;
      count = omega (arith, count, kept.count);
      rows = subst (AreRowsFrom table terms c.row.new.numbering c.args.from) (sym items) more;
    }
