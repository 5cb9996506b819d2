-- As many rows as places are those of the base.
use Rattle.sm_cc.proofs.Imports.{◌≡◌, ◌+◌, ℕ, length, subst, ap, arith, length-map, trees_in, tree_at, TermId, ClassesValue, AreRowsFrom}
use Rattle.std.proofs.lemmas.List.{length-append}
use Rattle.sm_cc.specs.Views.{trees_of}
use Rattle.sm_cc.proofs.GroundLemmas.{rows_of_base}
use Rattle.sm_cc.proofs.ground.BaseClasses.added_rows.Goals as goal

pub more-requires-clause-led : goal.more-requires-clause-led
more-requires-clause-led c =
    let v = c.requires.led.0 in
    let is = c.requires.led.1 in
    let count = rows_of_base v c.args.self.now c.args.numbering.now is in (
      trees_in v.table,
      v.terms,
      is.classes.positions_tell,
      is.before,
      c.requires.led.2.trees,
      c.requires.led.3,
      omega (arith, count, c.len-from.ensures),
    )

pub rows_from-requires-clause-inside : goal.rows_from-requires-clause-inside
rows_from-requires-clause-inside c =
    let v = c.requires.led.0 in
    let longer = c.requires.led.3 in
    let count = rows_of_base v c.args.self.now c.args.numbering.now c.requires.led.1 in
    let long = length-append v.terms longer.0 in
    let all = ap length longer.1 in
    omega (arith, count, long, all, c.len-from.ensures)

pub returns-clause-count : goal.returns-clause-count
returns-clause-count c =
    let made = c.in_ok-rows.ensures in
    let count = made.count in
    omega (arith, count, c.len-from.ensures)

pub returns-clause-rows : goal.returns-clause-rows
returns-clause-rows c =
    let table = c.args.table.now in
    let same : c.len-from.result ≡ length c.args.self.now.closure.rows.items = omega (arith, c.len-from.ensures) in
    subst (λ (n : ℕ). AreRowsFrom table (trees_of (trees_in table) c.args.terms.now) c.rows_from.new.numbering n c.in_ok-rows.rows.items)
    same c.in_ok-rows.ensures.rows
