-- By what is so of the classes that these begin with; what is numbered goes on.
use Rattle.sm_cc.proofs.Imports.{◌∙◌, List, length, sym, ap, subst, trees_in, TermId, IsLonger, AreClasses, placed_equations, placed_contraries, ArePositions, AreRowsFrom, ClassesValue}
use Rattle.sm_cc.specs.Views.{trees_of}
use Rattle.sm_cc.proofs.GroundLemmas.{ground_later, equal_still, unequal_still, classes_over}
use Rattle.sm_cc.proofs.classes.Classes.over.Goals as goal

pub added_rows-requires-clause-led : goal.added_rows-requires-clause-led
added_rows-requires-clause-led c =
    let led = c.requires.led in (
      led.0,
      led.1,
      led.2.table,
      subst (λ (ids : List TermId). IsLonger led.0.terms ids) (sym c.deref.ensures.value) led.2.terms,
    )

pub places_over-requires-clause-sound : goal.places_over-requires-clause-sound
places_over-requires-clause-sound c = c.requires.led.1.exact.sound

pub places_over-requires-clause-keyed : goal.places_over-requires-clause-keyed
places_over-requires-clause-keyed c = c.requires.led.1.keyed

pub places_over-requires-clause-inside : goal.places_over-requires-clause-inside
places_over-requires-clause-inside c = c.requires.led.1.inside

pub places_over-requires-clause-equal : goal.places_over-requires-clause-equal
places_over-requires-clause-equal c =
    let table = c.args.table.now in
    let w : ClassesValue = record { table = table; terms = c.args.terms.now.list.items; given = c.args.given.items } in
    let led = c.requires.led in
    let q = c.in_ok-added.added.positions in
    let told = subst (λ (ids : List TermId). ArePositions (trees_in table) (trees_of (trees_in table) ids) q) c.deref.ensures.value
    c.in_ok-added.ensures.positions in
    equal_still led.0 w c.args.ground.now c.args.numbering.now led.1 led.2 q told (placed_equations q c.deref-2.result.now)
    (ap (placed_equations q) c.deref-2.ensures.value)

pub places_over-requires-clause-unequal : goal.places_over-requires-clause-unequal
places_over-requires-clause-unequal c =
    let table = c.args.table.now in
    let w : ClassesValue = record { table = table; terms = c.args.terms.now.list.items; given = c.args.given.items } in
    let led = c.requires.led in
    let q = c.in_ok-added.added.positions in
    let told = subst (λ (ids : List TermId). ArePositions (trees_in table) (trees_of (trees_in table) ids) q) c.deref.ensures.value
    c.in_ok-added.ensures.positions in
    unequal_still led.0 w c.args.ground.now c.args.numbering.now led.1 led.2 q told (placed_contraries q c.deref-2.result.now)
    (ap (placed_contraries q) c.deref-2.ensures.value)

pub invariant_of-result : goal.invariant_of-result
invariant_of-result c =
    let table = c.args.table.now in
    let w : ClassesValue = record { table = table; terms = c.args.terms.now.list.items; given = c.args.given.items } in
    let led = c.requires.led in
    let g = c.args.ground.now in
    let made = c.in_ok-added.ensures in
    let q = c.in_ok-added.added.positions in
    let m = c.added_rows.new.numbering in
    let more = c.in_ok-added.added.rows.items in
    let facts = c.deref-2.ensures.value in
    let grown = c.in_ok-places.ensures in
    let told = subst (λ (ids : List TermId). ArePositions (trees_in table) (trees_of (trees_in table) ids) q) c.deref.ensures.value
    made.positions in
    let total = made.count ∙ ap length c.deref.ensures.value in
    let rows =
    subst (λ (ids : List TermId). AreRowsFrom table (trees_of (trees_in table) ids) m (length g.closure.rows.items) more)
    c.deref.ensures.value made.rows in
    let classes = classes_over led.0 w g c.args.numbering.now led.1 led.2 q told c.len.ensures.apart c.len.ensures.codes_apart
    c.requires.given m made.further more grown.0 total rows grown.1 (placed_equations q c.deref-2.result.now)
    (placed_contraries q c.deref-2.result.now) (ap (placed_equations q) facts) (ap (placed_contraries q) facts) c.in_ok-places.places
    grown.2 in
    subst (λ (ids : List TermId).
    let v : ClassesValue = record { table = table; terms = ids; given = c.args.given.items } in
    AreClasses v q c.in_ok-places.places) (sym c.deref-3.ensures.value) classes

pub returns-in_err-added-clause-ground : goal.returns-in_err-added-clause-ground
returns-in_err-added-clause-ground c = λ v is.
    ground_later v c.args.ground.now c.args.numbering.now c.added_rows.new.numbering c.in_err-added.ensures.further is

pub returns-in_err-places-clause-ground : goal.returns-in_err-places-clause-ground
returns-in_err-places-clause-ground c = λ v is.
    ground_later v c.args.ground.now c.args.numbering.now c.added_rows.new.numbering c.in_ok-added.ensures.further is

pub returns-clause-ground : goal.returns-clause-ground
returns-clause-ground c = λ v is.
    ground_later v c.args.ground.now c.args.numbering.now c.added_rows.new.numbering c.in_ok-added.ensures.further is
