use Rattle.sm_gen.proofs.Imports.{◌+◌, List, [], ◌∷◌, ◌++◌, refl, sym, ap₂, ◌∙◌, map-range_with_len_more, edit_of, Edit}
use Rattle.sm_gen.proofs.Counting.{edit_drawn, drawn_twice}
use Rattle.sm_gen.proofs.drawing.edits.Goals as goal

pub loop-place-preserved : goal.loop-place-preserved
loop-place-preserved c =
    let n = c.loop-place.place in
    let seed = c.args.seed in
    let next = c.drawn_after-first.ensures.next in
    let after = c.drawn_after-last.ensures.next in
    let last = c.loop-place.invariant.last in
    record {
      edits = c.in_ok-push.ensures.items
          ∙ ap₂ (λ (l : List Edit) (e : Edit). l ++ e ∷ []) c.loop-place.invariant.edits
          (edit_drawn seed n c.loop-place.last c.drawn_after-first.result c.drawn_after-last.result c.of_number.result last next after
          c.of_number.ensures)
          ∙ sym (map-range_with_len_more (edit_of seed) 1 n (1 + n) refl);
      last = drawn_twice seed n c.loop-place.last c.drawn_after-first.result c.drawn_after-last.result last next after;
      small = c.drawn_after-last.ensures.small;
    }
