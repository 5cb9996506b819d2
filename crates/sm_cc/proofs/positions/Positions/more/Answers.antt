-- What is noted of the first terms is so in the table as it is now.
use Rattle.sm_cc.proofs.Imports.{◌≡◌, ℕ, ◌<◌, Option, None, List, get_or, length, sym, subst, ◌∙◌, get, trees_in, same_pair}
use Rattle.sm_cc.specs.Views.{trees_of}
use Rattle.sm_cc.specs.Positions.{Positions}
use Rattle.sm_cc.proofs.PositionsLemmas.{noted_before, positions_noted, length-trees_of}
use Rattle.sm_cc.proofs.positions.Positions.more.Goals as goal

pub note_behind-requires-clause-noted : goal.note_behind-requires-clause-noted
note_behind-requires-clause-noted c =
    let (trees, first, are, before, longer, behind, count) = c.requires.led in
    let old = c.args.self.now.places.items in
    let new = c.in_ok-places.places.items in
    let len = c.len.ensures.len in
    let kept =
    subst (λ (ns : List (Option ℕ)). (n : ℕ) → n < c.len.result → get_or new n None ≡ get_or ns n None) c.deref.ensures.value
    c.in_ok-places.ensures.kept in
    noted_before trees (trees_in c.args.table.now) longer c.len.ensures.apart first c.args.terms.now before behind c.args.from count
    old new (get same_pair c.args.self.now.reads) (get same_pair c.in_ok-reads.reads)
    are.noted (c.in_ok-places.ensures.len ∙ len) (λ n inside. kept n (subst (λ (m : ℕ). n < m) (sym len) inside)) c.in_ok-reads.ensures

pub returns : goal.returns
returns c =
    let trees = trees_in c.args.table.now in
    let terms = c.args.terms.now in
    let p : Positions = record { places = c.note_behind.new.places; reads = c.note_behind.new.reads; count = length terms } in
    positions_noted trees (trees_of trees terms) p c.in_ok-note_behind.ensures (sym (length-trees_of trees terms))
