use Rattle.sm_replies.proofs.Imports.{ℕ, List, map, rules, subst, sym, ◌∙◌, Contains, string_bytes, FailsToRead, Status, stops_by, FailsToReadOne}
use Rattle.sm_replies.proofs.BatchAnswers.{fails_named}
use Rattle.sm_replies.proofs.BatchGiven.{given_more, goes_further, name_among}
use Rattle.sm_replies.proofs.gathering.gather.Goals as goal

pub returns-in_err-slot-clause-exit : goal.returns-in_err-slot-clause-exit
returns-in_err-slot-clause-exit g c =
    let files = g.H.Shelf.file c.args.shelf.now in
    let others = g.H.Shelf.file c.names.shelf in
    let b = g.H.Shelf.read_faults c.args.shelf.now in
    let m = g.H.Shelf.read_faults c.names.shelf in
    let n = g.H.Shelf.read_faults c.gather_one.new.shelf in
    let name = c.as_str.result.now in
    let names = map string_bytes c.args.names.now in
    let has : Contains names name =
    subst (λ (z : List ℕ). Contains names z) (sym c.as_str.ensures.value)
    (name_among c.args.names.now c.names.name-index c.name-item.result c.names-test.true c.name-item.is) in
    let stop =
    stops_by (FailsToRead (others name) m n) (FailsToReadOne files names b n)
    (λ (s : Status) (t : List ℕ) f. fails_named files others names name b m n s t (c.names.invariant.same name) c.names.invariant.quiet has f)
    c.in_err-slot.field-0.0 c.in_err-slot.ensures.exit in
    search rules

pub names-preserved : goal.names-preserved
names-preserved g c =
    let before = g.H.Shelf.given c.args.shelf.now in
    let mid = g.H.Shelf.given c.names.shelf in
    let now = g.H.Shelf.given c.gather_one.new.shelf in record {
      given = given_more (g.H.Shelf.file c.args.shelf.now) (g.H.Shelf.file c.names.shelf) (g.H.Shelf.read_faults c.args.shelf.now)
          (g.H.Shelf.read_faults c.names.shelf) before mid now c.args.names.now c.names.name-index c.name-item.result c.as_str.result.now
          c.names.slots.items c.put.new.values.items c.in_ok-slot.slot c.names.tasks.items c.gather_one.new.tasks.items c.names-test.true
          c.name-item.is c.as_str.ensures.value c.names.invariant.same c.names.invariant.quiet c.names.invariant.goes_on
          c.in_ok-slot.ensures.goes_on c.names.invariant.given c.in_ok-slot.ensures.gives c.in_ok-put.ensures;
      quiet = c.in_ok-slot.ensures.quiet ∙ c.names.invariant.quiet;
      goes_on = goes_further before mid now c.names.invariant.goes_on c.in_ok-slot.ensures.goes_on;
      same = λ (other : List ℕ). c.in_ok-slot.ensures.same other ∙ c.names.invariant.same other;
      writes = c.in_ok-slot.ensures.writes ∙ c.names.invariant.writes;
    }
