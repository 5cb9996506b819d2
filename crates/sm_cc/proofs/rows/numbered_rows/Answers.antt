-- The rows from the first place on.
use Rattle.sm_cc.proofs.Imports.{◌∙◌, ap, map, slice_get, arith, zero-add, length-map, contents_of, trees_in, tree_at, TermId, heads_met, parts_met}
use Rattle.sm_cc.specs.Views.{trees_of}
use Rattle.sm_cc.proofs.NumberedLemmas.{parts_of}
use Rattle.sm_cc.proofs.RowsLemmas.{rows_stand, none_apart}
use Rattle.sm_cc.proofs.rows.numbered_rows.Goals as goal

pub returns-clause-stand : goal.returns-clause-stand
returns-clause-stand c =
    let table = c.args.table.now in
    let ids = c.args.terms.now in
    let terms = trees_of (trees_in table) ids in
    let n = c.rows_from.new.numbering in
    let made = c.in_ok-rows.ensures in
    let long = length-map ids (λ (t : TermId). tree_at (trees_in table) t.0) in
    let count = made.count in
    rows_stand table c.len.ensures.codes_apart terms (heads_met n.heads) (parts_met n.shapes)
    (made.further.heads_apart (none_apart (heads_met c.new.result) (ap (map contents_of) c.new.ensures)))
    (made.further.parts_apart (none_apart (parts_met c.new-2.result) (ap (map parts_of) c.new-2.ensures)))
    c.in_ok-rows.rows.items
    (omega (arith, count, long))
    (λ i r t f g. made.rows i r t f (ap (slice_get terms) (zero-add i) ∙ g))

pub returns-clause-numbered : goal.returns-clause-numbered
returns-clause-numbered c =
    let terms = trees_of (trees_in c.args.table.now) c.args.terms.now in
    let made = c.in_ok-rows.ensures in
    record {
      heads_apart = made.further.heads_apart (none_apart (heads_met c.new.result) (ap (map contents_of) c.new.ensures));
      parts_apart = made.further.parts_apart (none_apart (parts_met c.new-2.result) (ap (map parts_of) c.new-2.ensures));
      each = λ i r t f g. made.rows i r t f (ap (slice_get terms) (zero-add i) ∙ g);
    }
