-- Statements are drawn from the last one on, each copy's part at a time; what a part's error tells is told of the whole.
use Rattle.sm_product.proofs.Imports.{rules, ◌≡◌, ◌==◌, ◌≤◌, ◌<◌, ◌+◌, ◌-◌, ◌*◌, ◌||◌, ℕ, bit_and, Bool, true, false, if◌then◌else◌, length, map, drop, sym, ap, ◌∙◌, subst, arith, filter, range_with_len, Copy, copy_of, Code, End, Skip, Assign, Write, Sorts, Parts, copy_named, of_copy, expression_of, condition_of, statement_of, code_of, Stmt, block_is, trees_in, sorts_in, parts_of, Copies, copies, has, no_copies, set_of, rest_code, forms_in, widens_twice, masked, has_hole, statements_in, only_in, members, with_member, without, piece_of, statement_within, block_templates, loop_templates, TellsSketch, ProductError, sketch_in, sketch_stays, sketch_ready, sketches_stay, sketches_ready, IsContextReady, product, product_if, product_while, branched, forked, where_any}
use Rattle.sm_syntax.proofs.Statements.{statement_of-Skip, statement_of-Assign, statement_of-Store, statement_of-If, statement_of-While, statement_of-Hole}
use Rattle.sm_sketch.specs.Sketches as plain
use Rattle.sm_product.specs.declared.ifs.FilledIf.{FilledIf}
use Rattle.sm_product.specs.declared.product.ProductContext.{ProductContext}
use Rattle.sm_product.proofs.BlocksDrawn.{filled_at, end_drawn, forks_out, forks_in, only_these, all_these, turns_push}
use Rattle.sm_product.proofs.DrawnLemmas.{err_is, tells_whole, drawn_by, drawn_same, drawn_fault, apart_drawn, looped_drawn, forking_drawn, step_drawn, if_drawn, while_drawn, if_inside, while_inside, hole_inside, cut_step, drawn_step}
use Rattle.sm_product.proofs.DrawnLemmas.{told_step, mask_tells}
use Rattle.sm_product.proofs.GrowthLemmas.{after_any, first_of_fork, second_of_fork}
use Rattle.sm_product.proofs.TurnsPut.{put_drawn, put_ready}
use Rattle.sm_product.proofs.PartsPut.{fork_out, one_fails, other_fails, both_forked, last_is, branches_fail, if_summed, if_apart, while_summed, while_looped}
use Rattle.sm_product.proofs.product.ProductContext.+product.Goals as goal

-- what the product reads, over a wider table
context_at : (sorts later : Sorts) (cx : ProductContext) → later ≡ sorts → IsContextReady sorts cx → IsContextReady later cx
context_at sorts later cx e h = subst (λ (s : Sorts). IsContextReady s cx) (sym e) h

-- what is drawn for those that took the first block of an if
abbrev inner_of : Parts → FilledIf → Copies → Copies → plain.Sketch
inner_of parts b set = branched (product parts (code_of b.first.shared.now)) (product parts (code_of b.second.shared.now)) set

-- a block, from its last statement on
pub product_block-product_statement-requires : goal.product_block-product_statement-requires
product_block-product_statement-requires t c =
    let i = c.loop-i in
    let b = c.args.block.now.shared.now in
    let l = b.list.items in
    let v = c.args.table.now in
    let parts = parts_of c.args.self.now.task.now in
    let s = c.index-s.result.now in
    let place : i.i - 1 < length l = omega (arith, c.loop-i-test.true, i.invariant.within) in
    let whole : 16 * statements_in (code_of b) + 12 ≡ t = c.decreases in
    let is = ap statements_in (block_is b) in
    let inside = statement_within l (i.i - 1) s place c.index-s.ensures in
    let falls : 16 * statements_in (statement_of s End) + 11 < t = omega (arith, whole, is, inside) in
    let cut = cut_step l i.i s c.loop-i-test.true i.invariant.within c.index-s.ensures (sorts_in v) parts i.left c.cut-parts.result.first
    c.cut-parts.result.second i.invariant.filled c.cut-parts.ensures in
    let context = context_at (sorts_in v) (sorts_in i.table) c.args.self.now i.invariant.widens.sorts c.requires.context in
    let filled = filled_at (sorts_in v) (sorts_in i.table) parts (statement_of s End) c.cut-parts.result.second i.invariant.widens.sorts
    cut.1 in
    (falls, (c.requires.set, (context, (filled, i.invariant.ready))))

pub product_block-loop-i-preserved : goal.product_block-loop-i-preserved
product_block-loop-i-preserved t c =
    let i = c.loop-i in
    let l = c.args.block.now.shared.now.list.items in
    let v = c.args.table.now in
    let w = c.product_statement.new.table in
    let parts = parts_of c.args.self.now.task.now in
    let s = c.index-s.result.now in
    let p = sketch_in (sorts_in v) (trees_in v) c.args.next in
    let cut = cut_step l i.i s c.loop-i-test.true i.invariant.within c.index-s.ensures (sorts_in v) parts i.left c.cut-parts.result.first
    c.cut-parts.result.second i.invariant.filled c.cut-parts.ensures in
    record {
      within = omega (arith, i.invariant.within);
      filled = cut.0;
      drawn = drawn_step l i.i s c.loop-i-test.true i.invariant.within c.index-s.ensures parts (set_of c.args.set) p
          (sketch_in (sorts_in i.table) (trees_in i.table) i.sketch) (sketch_in (sorts_in w) (trees_in w) c.in_ok-sketch.sketch)
          i.invariant.drawn c.in_ok-sketch.ensures.drawn.0;
      ready = c.in_ok-sketch.ensures.drawn.1;
      widens = widens_twice v i.table w i.invariant.widens c.in_ok-sketch.ensures.widens;
    }

pub product_block-returns-in_err-sketch-clause-drawn : goal.product_block-returns-in_err-sketch-clause-drawn
product_block-returns-in_err-sketch-clause-drawn t c =
    let i = c.loop-i in
    let b = c.args.block.now.shared.now in
    let v = c.args.table.now in
    let w = c.product_statement.new.table in
    let parts = parts_of c.args.self.now.task.now in
    let set = set_of c.args.set in
    let p = sketch_in (sorts_in v) (trees_in v) c.args.next in
    let x = c.in_err-sketch.field-0.0 in
    drawn_fault w (product parts (code_of b) set p) c.from_residual.result x c.from_residual.ensures.1
    (subst (λ (k : Code). TellsSketch x (product parts k set p)) (sym (block_is b))
    (told_step b.list.items i.i c.index-s.result.now c.loop-i-test.true i.invariant.within c.index-s.ensures parts set p
    (sketch_in (sorts_in i.table) (trees_in i.table) i.sketch) x i.invariant.drawn c.in_err-sketch.ensures.drawn))

pub product_block-returns-clause-drawn : goal.product_block-returns-clause-drawn
product_block-returns-clause-drawn t c =
    let i = c.loop-i in
    let v = c.args.table.now in
    let b = c.args.block.now.shared.now in
    let drawn = end_drawn (parts_of c.args.self.now.task.now) (set_of c.args.set) (sketch_in (sorts_in v) (trees_in v) c.args.next)
    (sketch_in (sorts_in i.table) (trees_in i.table) i.sketch) b i.i (omega (arith, c.loop-i-test.false)) i.invariant.drawn in
    (drawn, i.invariant.ready)

-- a statement, kind by kind
pub product_statement-returns-in-Skip-clause-drawn : goal.product_statement-returns-in-Skip-clause-drawn
product_statement-returns-in-Skip-clause-drawn t c =
    let v = c.args.table.now in
    let r = c.each_step in
    step_drawn (parts_of c.args.self.now.task.now) v (set_of c.args.set) (sketch_in (sorts_in v) (trees_in v) c.args.next) c.args.s.now
    (Skip End) r.result (ap (λ (s : Stmt). statement_of s End) c.in-Skip.is ∙ statement_of-Skip End)
    (r.ensures.drawn (sorts_in v) (trees_in v))
    (r.ensures.ready (sorts_in v) (trees_in v) c.requires.next) (r.ensures.err (sorts_in v) (trees_in v) c.requires.next)

pub product_statement-returns-in-Assign-clause-drawn : goal.product_statement-returns-in-Assign-clause-drawn
product_statement-returns-in-Assign-clause-drawn t c =
    let v = c.args.table.now in
    let x = c.in-Assign.field-0 in
    let e = c.in-Assign.field-1 in
    let r = c.each_step-in-Assign in
    step_drawn (parts_of c.args.self.now.task.now) v (set_of c.args.set) (sketch_in (sorts_in v) (trees_in v) c.args.next) c.args.s.now
    (Assign x.0 (expression_of e) End) r.result (ap (λ (s : Stmt). statement_of s End) c.in-Assign.is ∙ statement_of-Assign x e End)
    (r.ensures.drawn (sorts_in v) (trees_in v)) (r.ensures.ready (sorts_in v) (trees_in v) c.requires.next)
    (r.ensures.err (sorts_in v) (trees_in v) c.requires.next)

pub product_statement-returns-in-Store-clause-drawn : goal.product_statement-returns-in-Store-clause-drawn
product_statement-returns-in-Store-clause-drawn t c =
    let v = c.args.table.now in
    let a = c.in-Store.field-0 in
    let i = c.in-Store.field-1 in
    let e = c.in-Store.field-2 in
    let r = c.each_step-in-Store in
    step_drawn (parts_of c.args.self.now.task.now) v (set_of c.args.set) (sketch_in (sorts_in v) (trees_in v) c.args.next) c.args.s.now
    (Write a.0 (expression_of i) (expression_of e) End) r.result
    (ap (λ (s : Stmt). statement_of s End) c.in-Store.is ∙ statement_of-Store a i e End) (r.ensures.drawn (sorts_in v) (trees_in v))
    (r.ensures.ready (sorts_in v) (trees_in v) c.requires.next) (r.ensures.err (sorts_in v) (trees_in v) c.requires.next)

pub product_statement-product_if-requires : goal.product_statement-product_if-requires
product_statement-product_if-requires t c =
    let first = code_of c.in-If.c in
    let second = code_of c.in-If.d in
    let is = ap (λ (s : Stmt). statement_of s End) c.in-If.is ∙ statement_of-If c.in-If.field-0 c.in-If.c c.in-If.d End in
    let whole : 16 * statements_in (statement_of c.args.s.now End) + 11 ≡ t = c.decreases in
    let inside = ap statements_in is in
    let falls : 16 * (statements_in first + statements_in second) + 22 < t = omega (arith, whole, inside) in
    let both = if_inside (sorts_in c.args.table.now) (parts_of c.args.self.now.task.now) c.args.s.now (condition_of c.in-If.field-0) first
    second c.args.pieces.now c.inside-filled.result.first c.inside-filled.result.second is c.requires.filled c.inside-filled.ensures.first
    c.inside-filled.ensures.second in
    (falls, (c.requires.set, (c.requires.context, (both.0, (both.1, (c.requires.filled.sorted, c.requires.next))))))

pub product_statement-returns-in-If-clause-drawn : goal.product_statement-returns-in-If-clause-drawn
product_statement-returns-in-If-clause-drawn t c =
    let v = c.args.table.now in
    if_drawn (parts_of c.args.self.now.task.now) c.product_if.new.table (set_of c.args.set) (sketch_in (sorts_in v) (trees_in v) c.args.next)
    c.args.s.now (condition_of c.in-If.field-0) (code_of c.in-If.c) (code_of c.in-If.d) c.args.pieces.now c.product_if.result
    (ap (λ (s : Stmt). statement_of s End) c.in-If.is ∙ statement_of-If c.in-If.field-0 c.in-If.c c.in-If.d End) c.requires.filled.filled
    c.product_if.ensures.drawn

pub product_statement-product_while-requires : goal.product_statement-product_while-requires
product_statement-product_while-requires t c =
    let body = code_of c.in-While.c in
    let is = ap (λ (s : Stmt). statement_of s End) c.in-While.is ∙ statement_of-While c.in-While.field-0 c.in-While.c End in
    let whole : 16 * statements_in (statement_of c.args.s.now End) + 11 ≡ t = c.decreases in
    let inside = ap statements_in is in
    let falls : 16 * statements_in body + 16 < t = omega (arith, whole, inside) in
    let filled = while_inside (sorts_in c.args.table.now) (parts_of c.args.self.now.task.now) c.args.s.now (condition_of c.in-While.field-0)
    body c.args.pieces.now c.inside-filled-in-While.result.first is c.requires.filled c.inside-filled-in-While.ensures.first in
    (falls, (c.requires.set, (c.requires.context, (filled, (c.requires.filled.sorted, c.requires.next)))))

pub product_statement-returns-in-While-clause-drawn : goal.product_statement-returns-in-While-clause-drawn
product_statement-returns-in-While-clause-drawn t c =
    let v = c.args.table.now in
    while_drawn (parts_of c.args.self.now.task.now) c.product_while.new.table (set_of c.args.set)
    (sketch_in (sorts_in v) (trees_in v) c.args.next) c.args.s.now (condition_of c.in-While.field-0) (code_of c.in-While.c)
    c.args.pieces.now c.product_while.result
    (ap (λ (s : Stmt). statement_of s End) c.in-While.is ∙ statement_of-While c.in-While.field-0 c.in-While.c End) c.requires.filled.filled
    c.product_while.ensures.drawn

pub product_statement-product_hole-requires-clause-sorted : goal.product_statement-product_hole-requires-clause-sorted
product_statement-product_hole-requires-clause-sorted t c =
    hole_inside (sorts_in c.args.table.now) (parts_of c.args.self.now.task.now) c.args.s.now c.in-Hole.hole c.args.pieces.now
    (ap (λ (s : Stmt). statement_of s End) c.in-Hole.is ∙ statement_of-Hole c.in-Hole.hole End) c.requires.filled

-- an if: its statements are summarized, or are a block
pub product_if-returns-then-not-are_open-clause-drawn : goal.product_if-returns-then-not-are_open-clause-drawn
product_if-returns-then-not-are_open-clause-drawn t c =
    let v = c.args.table.now in
    let b = c.args.blocks.now in
    if_summed (parts_of c.args.self.now.task.now) (code_of b.first.shared.now) (code_of b.second.shared.now) (piece_of c.args.pieces.now)
    (set_of c.args.set) (sketch_in (sorts_in v) (trees_in v) c.args.next) v c.each_summary.result
    (sym c.are_open.ensures ∙ c.if-not-are_open.true)
    (record {
      made = c.each_summary.ensures.drawn (sorts_in v) (trees_in v);
      ready = c.each_summary.ensures.ready (sorts_in v) (trees_in v) c.requires.next;
      told = c.each_summary.ensures.err (sorts_in v) (trees_in v) c.requires.next;
    })

pub product_if-returns-clause-drawn : goal.product_if-returns-clause-drawn
product_if-returns-clause-drawn t c =
    let v = c.args.table.now in
    let u = c.forked.new.table in
    let w = c.templates_of_ifs.new.table in
    let more = c.in_ok-templates.ensures.widens in
    let wider = widens_twice v u w c.in_ok-inner.ensures.widens more in
    let parts = parts_of c.args.self.now.task.now in
    let set = set_of c.args.set in
    let b = c.args.blocks.now in
    let code = piece_of c.args.pieces.now in
    let templates = c.in_ok-templates.ensures.made parts c.requires.context.site in
    let inner = sketch_ready u w more c.in_ok-inner.inner c.in_ok-inner.ensures.drawn.1 in
    let after = sketch_ready v w wider c.args.next c.requires.next in
    if_apart parts (code_of b.first.shared.now) (code_of b.second.shared.now) code set (sketch_in (sorts_in v) (trees_in v) c.args.next) w
    c.apart.result (forms_in (sorts_in w) (trees_in w) c.in_ok-templates.templates.list.items) (of_copy c.one_each.result)
    (sketch_in (sorts_in w) (trees_in w) c.in_ok-inner.inner) (sketch_in (sorts_in w) (trees_in w) c.args.next)
    (sym c.are_open.ensures ∙ c.if-not-are_open.false)
    templates c.one_each.ensures
    (sketch_stays u w more c.in_ok-inner.inner c.in_ok-inner.ensures.drawn.1 ∙ c.in_ok-inner.ensures.drawn.0)
    (sketch_stays v w wider c.args.next c.requires.next)
    (record {
      made = c.apart.ensures.drawn (sorts_in w) (trees_in w);
      ready = c.apart.ensures.ready (sorts_in w) (trees_in w) c.in_ok-templates.ensures.ready inner after;
      told = c.apart.ensures.err (sorts_in w) (trees_in w) inner after;
    })

-- the forks of copies
pub forked-returns-then-not-has-clause-drawn : goal.forked-returns-then-not-has-clause-drawn
forked-returns-then-not-has-clause-drawn t c =
    let parts = parts_of c.args.self.now.task.now in
    let set = set_of c.args.set in
    let n = c.args.place in
    let less : n < 4 = omega (arith, c.requires.place, c.if-place-eq4.false) in
    let inner = inner_of parts c.args.blocks.now set in
    fork_out inner set (set_of c.args.taken) n less c.forked.new.table c.forked.result
    (ap (has set) (sym c.of_number-copy.ensures) ∙ sym c.has.ensures ∙ c.if-not-has.true) c.forked.ensures.drawn

-- both blocks
pub branched-returns-in_err-after-clause-drawn : goal.branched-returns-in_err-after-clause-drawn
branched-returns-in_err-after-clause-drawn t c =
    let v = c.args.table.now in
    let parts = parts_of c.args.self.now.task.now in
    let set = set_of c.args.set in
    let taken = set_of c.args.taken in
    let first = code_of c.args.blocks.now.first.shared.now in
    let second = code_of c.args.blocks.now.second.shared.now in
    let others = set_of c.without-others.result in
    let p = sketch_in (sorts_in v) (trees_in v) c.ends-end.result in
    branches_fail parts first second set taken c.drawn_for.new.table c.from_residual.result c.in_err-after.field-0.0
    (where_any others (product parts second) p)
    (last_is parts first second set taken others p c.without-others.ensures.set (c.ends-end.ensures.drawn (sorts_in v) (trees_in v)))
    c.from_residual.ensures.1 c.in_err-after.ensures.drawn

-- a fork: an error of either side is one of the whole
pub forked-returns-in_err-one-clause-drawn : goal.forked-returns-in_err-one-clause-drawn
forked-returns-in_err-one-clause-drawn t c =
    let parts = parts_of c.args.self.now.task.now in
    let set = set_of c.args.set in
    let n = c.args.place in
    let less : n < 4 = omega (arith, c.requires.place, c.if-place-eq4.false) in
    let inner = inner_of parts c.args.blocks.now set in
    let taken = set_of c.args.taken in
    one_fails inner set taken n less c.forked-2.new.table c.from_residual.result
    (ap (has set) (sym c.of_number-copy.ensures) ∙ sym c.has.ensures ∙ c.if-not-has.false) (set_of c.with_member-more.result)
    c.in_err-one.field-0.0 (c.with_member-more.ensures.set ∙ ap (with_member taken) c.of_number-copy.ensures) c.from_residual.ensures.1
    c.in_err-one.ensures.drawn

pub forked-returns-in_err-other-clause-drawn : goal.forked-returns-in_err-other-clause-drawn
forked-returns-in_err-other-clause-drawn t c =
    let parts = parts_of c.args.self.now.task.now in
    let set = set_of c.args.set in
    let n = c.args.place in
    let less : n < 4 = omega (arith, c.requires.place, c.if-place-eq4.false) in
    let inner = inner_of parts c.args.blocks.now set in
    other_fails inner set (set_of c.args.taken) n less c.forked-3.new.table c.from_residual-in_err-other.result
    (ap (has set) (sym c.of_number-copy.ensures) ∙ sym c.has.ensures ∙ c.if-not-has.false) c.in_err-other.field-0.0
    c.from_residual-in_err-other.ensures.1 c.in_err-other.ensures.drawn

pub forked-returns-clause-drawn : goal.forked-returns-clause-drawn
forked-returns-clause-drawn t c =
    let parts = parts_of c.args.self.now.task.now in
    let set = set_of c.args.set in
    let n = c.args.place in
    let less : n < 4 = omega (arith, c.requires.place, c.if-place-eq4.false) in
    let inner = inner_of parts c.args.blocks.now set in
    let u = c.forked-2.new.table in
    let w = c.forked-3.new.table in
    let more = c.in_ok-other.ensures.widens in
    let taken = set_of c.args.taken in
    let first = sketch_ready u w more c.in_ok-one.one c.in_ok-one.ensures.drawn.1 in
    let second = c.in_ok-other.ensures.drawn.1 in
    both_forked inner set taken n less w c.forking.result
    (ap (has set) (sym c.of_number-copy.ensures) ∙ sym c.has.ensures ∙ c.if-not-has.false) (copy_named c.of_number-copy.result)
    (set_of c.with_member-more.result) (sketch_in (sorts_in w) (trees_in w) c.in_ok-one.one)
    (sketch_in (sorts_in w) (trees_in w) c.in_ok-other.other) c.of_number-copy.ensures
    (c.with_member-more.ensures.set ∙ ap (with_member taken) c.of_number-copy.ensures)
    (sketch_stays u w more c.in_ok-one.one c.in_ok-one.ensures.drawn.1 ∙ c.in_ok-one.ensures.drawn.0) c.in_ok-other.ensures.drawn.0
    (record {
      made = c.forking.ensures.drawn (sorts_in w) (trees_in w);
      ready = c.forking.ensures.ready (sorts_in w) (trees_in w) first second;
      told = c.forking.ensures.err (sorts_in w) (trees_in w) first second;
    })

-- a loop: its statements are summarized, or run together
pub product_while-returns-then-not-has_hole-clause-drawn : goal.product_while-returns-then-not-has_hole-clause-drawn
product_while-returns-then-not-has_hole-clause-drawn t c =
    let v = c.args.table.now in
    while_summed (parts_of c.args.self.now.task.now) (code_of c.args.body.now.shared.now) (piece_of c.args.pieces.now) (set_of c.args.set)
    (sketch_in (sorts_in v) (trees_in v) c.args.next) v c.each_summary.result (sym c.has_hole.ensures ∙ c.if-not-has_hole.true)
    (record {
      made = c.each_summary.ensures.drawn (sorts_in v) (trees_in v);
      ready = c.each_summary.ensures.ready (sorts_in v) (trees_in v) c.requires.next;
      told = c.each_summary.ensures.err (sorts_in v) (trees_in v) c.requires.next;
    })

pub product_while-returns-clause-drawn : goal.product_while-returns-clause-drawn
product_while-returns-clause-drawn t c =
    let v = c.args.table.now in
    let u = c.turns.new.table in
    let w = c.templates_of_loops.new.table in
    let more = c.in_ok-templates.ensures.widens in
    let wider = widens_twice v u w c.in_ok-turns.ensures.widens more in
    let parts = parts_of c.args.self.now.task.now in
    let set = set_of c.args.set in
    let body = code_of c.args.body.now.shared.now in
    let code = piece_of c.args.pieces.now in
    let turn : Copies → plain.Sketch = λ (x : Copies). product parts body x plain.ends in
    let templates = c.in_ok-templates.ensures.made parts c.requires.context.site in
    let drawn = sketches_stay u w more c.in_ok-turns.turns.items c.in_ok-turns.ensures.ready ∙ c.in_ok-turns.ensures.made in
    let turned = sketches_ready u w more c.in_ok-turns.turns.items c.in_ok-turns.ensures.ready in
    let after = sketch_ready v w wider c.args.next c.requires.next in
    while_looped parts body code set (sketch_in (sorts_in v) (trees_in v) c.args.next) w c.looped.result
    (forms_in (sorts_in w) (trees_in w) c.in_ok-templates.templates.list.items) (sketch_in (sorts_in w) (trees_in w) c.args.next)
    (sym c.has_hole.ensures ∙ c.if-not-has_hole.false)
    templates
    (sketch_stays v w wider c.args.next c.requires.next)
    (record {
      made = c.looped.ensures.drawn (sorts_in w) (trees_in w) turn drawn;
      ready = c.looped.ensures.ready (sorts_in w) (trees_in w) c.requires.set c.in_ok-templates.ensures.ready turned after;
      told = c.looped.ensures.err (sorts_in w) (trees_in w) turn drawn turned after;
    })

-- turns, by ascending masks
pub turns-loop-smaller-preserved : goal.turns-loop-smaller-preserved
turns-loop-smaller-preserved t c =
    let i = c.loop-smaller in
    let w = c.put_turn.new.table in
    let turn : ℕ → plain.Sketch =
    λ (m : ℕ). product (parts_of c.args.self.now.task.now) (code_of c.args.body.now.shared.now) (set_of m) plain.ends in
    record {
      made = turns_push turn c.args.set i.smaller (map (sketch_in (sorts_in i.table) (trees_in i.table)) i.turns.items)
          (map (sketch_in (sorts_in w) (trees_in w)) c.put_turn.new.turns.items) i.invariant.made c.in_ok-put_turn.ensures.made;
      ready = c.in_ok-put_turn.ensures.ready;
      widens = widens_twice c.args.table.now i.table w i.invariant.widens c.in_ok-put_turn.ensures.widens;
    }

pub turns-returns-clause-made : goal.turns-returns-clause-made
turns-returns-clause-made t c =
    let i = c.loop-smaller in
    let parts = parts_of c.args.self.now.task.now in
    let body = code_of c.args.body.now.shared.now in
    let high = c.loop-smaller-test.false in
    let low = c.loop-smaller.auto.smaller-end in
    let last : i.smaller ≡ 15 = omega arith in
    i.invariant.made
    ∙ ap (λ (n : ℕ). map (λ (m : ℕ). product parts body (set_of m) plain.ends)
    (filter (λ (m : ℕ). bit_and m c.args.set == m) (range_with_len 1 n))) last
    ∙ masked (λ (x : Copies). product parts body x plain.ends) c.args.set c.requires.set

pub turns-returns-in_err-put_turn-clause-err : goal.turns-returns-in_err-put_turn-clause-err
turns-returns-in_err-put_turn-clause-err t c = λ ts next.
    let turn : Copies → plain.Sketch =
    λ (v : Copies). product (parts_of c.args.self.now.task.now) (code_of c.args.body.now.shared.now) v plain.ends in
    let x = c.in_err-put_turn.field-0.0 in
    let m = c.loop-smaller.smaller + 1 in
    let most : m ≤ 15 = omega (arith, c.loop-smaller-test.true) in
    let some : 0 < m = omega arith in
    err_is (λ (e : ProductError). TellsSketch e (plain.looped ts (set_of c.args.set) turn next))
    c.from_residual.result x c.from_residual.ensures.1
    (mask_tells ts c.args.set m turn next x c.requires.set some most c.in_err-put_turn.ensures.err.0 c.in_err-put_turn.ensures.err.1)

-- tables widen, and what is asked of a later call is asked of a wider table
pub branched-drawn_for-requires-2 : goal.branched-drawn_for-requires-2
branched-drawn_for-requires-2 t c =
    let v = c.args.table.now in
    let u = c.drawn_for.new.table in
    let b = c.args.blocks.now in
    let sorts = c.in_ok-after.ensures.widens.sorts in
    let context = context_at (sorts_in v) (sorts_in u) c.args.self.now sorts c.requires.context in
    let first = filled_at (sorts_in v) (sorts_in u) (parts_of c.args.self.now.task.now) (code_of b.first.shared.now) b.first.filled sorts
    c.requires.first in
    (search rules, (c.requires.taken, (context, (first, c.in_ok-after.ensures.drawn.1))))

-- one turn more
pub put_turn-returns-clause-made : goal.put_turn-returns-clause-made
put_turn-returns-clause-made t c =
    let v = c.args.table.now in
    let w = c.product_block.new.table in
    let body = product (parts_of c.args.self.now.task.now) (code_of c.args.body.now.shared.now) in
    put_drawn v w c.in_ok-turn.ensures.widens c.args.turns.now.items c.push.new.self.items c.in_ok-turn.turn c.in_ok-push.ensures.items
    c.requires.turns (λ (m : ℕ). body (set_of m) plain.ends) c.args.mask (bit_and c.args.mask c.args.set == c.args.mask)
    (search rules)
    (c.in_ok-turn.ensures.drawn.0
    ∙ ap (body (set_of c.args.mask)) (c.ends.ensures.drawn (sorts_in v) (trees_in v)))

pub put_turn-returns-clause-ready : goal.put_turn-returns-clause-ready
put_turn-returns-clause-ready t c =
    put_ready c.args.table.now c.product_block.new.table c.in_ok-turn.ensures.widens c.args.turns.now.items c.push.new.self.items
    c.in_ok-turn.turn c.in_ok-push.ensures.items c.requires.turns c.in_ok-turn.ensures.drawn.1
