use Rattle.std.proofs.Common.{arith}
use Rattle.sm_explain.proofs.PlacesSound.{feed_both}
use Rattle.sm_explain.proofs.places.place_of.Goals as goal

pub returns : goal.returns
returns c = record {
  line = c.line_number-line.ensures;
  column = omega (arith, c.line_start-start.ensures.inside);
  starts = c.line_start-start.ensures.starts;
  ends = c.line_end-end.ensures.ends;
  one_line =
      feed_both c.args.text.now c.line_start-start.result c.args.offset c.line_end-end.result c.line_start-start.ensures.one_line
      c.line_end-end.ensures.one_line;
  from_start = c.line_start-start.ensures.inside;
  up_to_end = c.line_end-end.ensures.behind;
  inside = c.line_end-end.ensures.inside;
}
