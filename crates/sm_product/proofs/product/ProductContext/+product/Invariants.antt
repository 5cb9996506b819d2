-- A block is drawn from its end: what is drawn is the product of the statements from i on, and those before are left. A turn is drawn
-- for each set of copies whose mask is less. Blocks have
-- fewer statements than those that they stand in.
use Rattle.sm_product.proofs.Imports.{◌≡◌, ◌==◌, ◌≤◌, ◌+◌, ◌-◌, ◌*◌, ℕ, bit_and, length, map, take, drop, filter, range_with_len, End, statement_of, code_of, trees_in, sorts_in, ExtendsTable, parts_of, set_of, code_before, statements_in, AreFilledAs, ends, sketch_in, IsSketchReady, AreSketchesReady, product}
use Rattle.sm_product.proofs.product.ProductContext.+product.Given as goal

abbrev pub decreases-product_block : goal.decreases-product_block
decreases-product_block l = 16 * statements_in (code_of l.block.now.shared.now) + 12

abbrev pub decreases-product_statement : goal.decreases-product_statement
decreases-product_statement l = 16 * statements_in (statement_of l.s.now End) + 11

abbrev pub decreases-product_if : goal.decreases-product_if
decreases-product_if l =
    16 * (statements_in (code_of l.blocks.now.first.shared.now) + statements_in (code_of l.blocks.now.second.shared.now)) + 22

abbrev pub decreases-forked : goal.decreases-forked
decreases-forked l =
    16 * (statements_in (code_of l.blocks.now.first.shared.now) + statements_in (code_of l.blocks.now.second.shared.now)) + 15
    + (5 - l.place)

abbrev pub decreases-branched : goal.decreases-branched
decreases-branched l =
    16 * (statements_in (code_of l.blocks.now.first.shared.now) + statements_in (code_of l.blocks.now.second.shared.now)) + 14

abbrev pub decreases-drawn_for : goal.decreases-drawn_for
decreases-drawn_for l = 16 * statements_in (code_of l.block.now.shared.now) + 13

abbrev pub decreases-product_while : goal.decreases-product_while
decreases-product_while l = 16 * statements_in (code_of l.body.now.shared.now) + 16

abbrev pub decreases-turns : goal.decreases-turns
decreases-turns l = 16 * statements_in (code_of l.body.now.shared.now) + 14

abbrev pub decreases-put_turn : goal.decreases-put_turn
decreases-put_turn l = 16 * statements_in (code_of l.body.now.shared.now) + 13

abbrev pub invariant-product_block-loop-i : goal.invariant-product_block-loop-i
invariant-product_block-loop-i l = record {
  within : l.i ≤ length l.block.shared.now.list.items;
  filled : AreFilledAs (sorts_in l.initial.table) (parts_of l.self.task.now)
      (code_before (take l.i l.block.shared.now.list.items) End) l.left;
  drawn : sketch_in (sorts_in l.table) (trees_in l.table) l.sketch
      ≡ product (parts_of l.self.task.now) (code_before (drop l.i l.block.shared.now.list.items) End) (set_of l.set)
      (sketch_in (sorts_in l.initial.table) (trees_in l.initial.table) l.initial.sketch);
  ready : IsSketchReady (sorts_in l.table) (trees_in l.table) l.sketch;
  widens : ExtendsTable l.initial.table l.table;
}

abbrev pub decreases-product_block-loop-i : goal.decreases-product_block-loop-i
decreases-product_block-loop-i l = l.i

abbrev pub invariant-turns-loop-smaller : goal.invariant-turns-loop-smaller
invariant-turns-loop-smaller l = record {
  made : map (sketch_in (sorts_in l.table) (trees_in l.table)) l.turns.items
      ≡ map (λ (m : ℕ). product (parts_of l.self.task.now) (code_of l.body.shared.now) (set_of m) ends)
      (filter (λ (m : ℕ). bit_and m l.set == m) (range_with_len 1 l.smaller));
  ready : AreSketchesReady (sorts_in l.table) (trees_in l.table) l.turns.items;
  widens : ExtendsTable l.initial.table l.table;
}
