-- One term more.
use Rattle.sm_cc.proofs.Imports.{◌<◌, ℕ, get_or, sym, subst, ◌∙◌, get, slice_get-get_or, trees_in, sorts_in, codes_in, TermId, part_before, same_pair}
use Rattle.sm_cc.proofs.PositionsLemmas.{noted_more}
use Rattle.sm_cc.proofs.positions.note_behind.Goals as goal

pub note_term-requires : goal.note_term-requires
note_term-requires c =
    let terms = c.args.terms.now in
    let i = c.loop-i.i in
    let none : TermId = record { 0 = 0 } in
    let below = part_before _ terms i _ c.requires.before (slice_get-get_or terms i none c.loop-i-test.true) in
    subst (λ (n : ℕ). (get_or terms i none).0 < n) (sym c.loop-i.invariant.len) below

pub get-requires : goal.get-requires
get-requires c =
    let terms = c.args.terms.now in
    part_before _ terms c.loop-i.i _ c.requires.before (slice_get-get_or terms c.loop-i.i (record { 0 = 0 }) c.loop-i-test.true)

pub loop-i-preserved : goal.loop-i-preserved
loop-i-preserved c =
    let table = c.args.table.now in
    let none : TermId = record { 0 = 0 } in
    let apart = c.len.ensures.apart in
    record {
      len = c.note_term.ensures.len ∙ c.loop-i.invariant.len;
      noted =
          noted_more (sorts_in table) (codes_in table) (trees_in table) apart c.args.terms.now c.requires.before c.loop-i.i none
          c.loop-i-test.true c.loop-i.places.items c.note_term.new.places.items (get same_pair c.loop-i.reads)
          (get same_pair c.note_read.new.reads) c.loop-i.invariant.noted c.get.result.now c.get.ensures.before c.get.ensures.tree
          c.note_term.ensures.len c.note_term.ensures.noted c.in_ok-note_read.ensures;
    }
