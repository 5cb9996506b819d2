-- The lines, and those behind them.
use Rattle.sm_check.proofs.Imports.{ℕ, List, length, ap, ◌∙◌, arith, length-append, FileLines, lines_in, ended_in}
use Rattle.sm_check.proofs.EndedLines.{ended-few, lines_in-behind}
use Rattle.sm_check.proofs.raw_lines.RawLines.with_run.Goals as goal

pub overflow_add-count : goal.overflow_add-count
overflow_add-count c =
    let s = c.args.self in
    let new = c.extend_from_slice.new.self in
    let both = ap (λ (x : List ℕ). length x) c.in_ok-extend_from_slice.ensures.items in
    let more = length-append s.bytes.items c.args.run.now in
    omega (
      arith,
      s.counted,
      c.requires.counted,
      ended-few s.bytes.items,
      ended-few c.args.run.now,
      both,
      more,
      new.ok.0,
      new.ok.1,
      new.small,
    )

pub invariant_of-result : goal.invariant_of-result
invariant_of-result c =
    let s = c.args.self in
    let behind = ap lines_in c.in_ok-extend_from_slice.ensures.items ∙ lines_in-behind s.bytes.items c.args.run.now s.ended in
    record {
      ended = ap (λ (ls : FileLines). ls.rest) behind ∙ c.requires.ended;
      counted =
          let all = ap (λ (ls : FileLines). length ls.ended) behind in
          let more = length-append (ended_in s.bytes.items) (ended_in c.args.run.now) in
          omega (arith, s.counted, c.requires.counted, all, more);
    }

pub returns : goal.returns
returns c =
    let s = c.args.self in
    ap (λ (ls : FileLines). ls.ended)
    (ap lines_in c.in_ok-extend_from_slice.ensures.items ∙ lines_in-behind s.bytes.items c.args.run.now s.ended)
