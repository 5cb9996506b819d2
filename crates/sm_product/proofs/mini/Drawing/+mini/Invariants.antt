-- Each move leaves fewer statements, and the turns so far are drawn.
use Rattle.sm_product.proofs.Imports.{◌≡◌, ◌==◌, ◌+◌, ◌*◌, ℕ, bit_and, map, filter, range_with_len, Parts, trees_in, sorts_in, ExtendsTable, set_of, codes_in, IsSiteOf, sketch_in, AreSketchesReady, turn_of, statements_left, IsRoom, IsTaken}
use Rattle.sm_product.proofs.mini.Drawing.+mini.Given as goal

abbrev pub decreases-draw : goal.decreases-draw
decreases-draw l = 8 * statements_left (codes_in l.rests.now) + 5

abbrev pub decreases-draw_last : goal.decreases-draw_last
decreases-draw_last l = 8 * statements_left (codes_in l.rests.now) + 4

abbrev pub decreases-draw_fork : goal.decreases-draw_fork
decreases-draw_fork l = 8 * statements_left (codes_in l.rests.now) + 3

abbrev pub decreases-draw_first : goal.decreases-draw_first
decreases-draw_first l = 8 * statements_left (codes_in l.rests.now) + 2

abbrev pub decreases-draw_loops : goal.decreases-draw_loops
decreases-draw_loops l = 8 * statements_left (codes_in l.rests.now) + 3

abbrev pub decreases-draw_turns : goal.decreases-draw_turns
decreases-draw_turns l = 8 * statements_left (codes_in l.rests.now) + 2

abbrev pub decreases-draw_turn : goal.decreases-draw_turn
decreases-draw_turn l = 8 * statements_left (codes_in l.rests.now) + 1

abbrev pub decreases-draw_body : goal.decreases-draw_body
decreases-draw_body l = 8 * statements_left (codes_in l.rests.now)

abbrev pub invariant-draw_turns-loop-smaller : goal.invariant-draw_turns-loop-smaller
invariant-draw_turns-loop-smaller l = record {
  drawn : (t : Parts) → IsSiteOf t l.self.site.now →
      map (sketch_in (sorts_in l.table) (trees_in l.table)) l.turns.items
      ≡ map (λ (m : ℕ). turn_of t (codes_in l.rests) (set_of m)) (filter (λ (m : ℕ). bit_and m l.self.set == m) (range_with_len 1 l.smaller));
  ready : AreSketchesReady (sorts_in l.table) (trees_in l.table) l.turns.items;
  taken : (t : Parts) → IsSiteOf t l.self.site.now →
      IsTaken l.initial.room l.room
      (map (λ (m : ℕ). turn_of t (codes_in l.rests) (set_of m)) (filter (λ (m : ℕ). bit_and m l.self.set == m) (range_with_len 1 l.smaller)));
  room : IsRoom l.room;
  widens : ExtendsTable l.initial.table l.table;
}
