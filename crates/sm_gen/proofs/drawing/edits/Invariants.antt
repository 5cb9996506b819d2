use Rattle.sm_gen.proofs.Imports.{◌≡◌, ◌<◌, ◌*◌, ◌^◌, map, range_with_len, drawn, edit_of}
use Rattle.sm_gen.proofs.drawing.edits.Given as goal

abbrev pub invariant-loop-place : goal.invariant-loop-place
invariant-loop-place l = record {
  edits : l.edits.items ≡ map (edit_of l.seed) (range_with_len 1 l.place);
  last : l.last ≡ drawn l.seed (2 * l.place);
  small : l.last < 2 ^ 32;
}
