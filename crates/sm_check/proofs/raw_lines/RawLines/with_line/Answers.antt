-- The lines, and one behind them.
use Rattle.sm_check.proofs.Imports.{◌++◌, ◌∷◌, [], ℕ, List, length, ap, ◌∙◌, arith, length-append, FileLines, ended_in}
use Rattle.sm_check.proofs.EndedLines.{ended-few, lines_in-push}
use Rattle.sm_check.proofs.raw_lines.RawLines.with_line.Goals as goal

pub overflow_add-count : goal.overflow_add-count
overflow_add-count c =
    let s = c.args.self in
    omega (arith, s.counted, ended-few s.bytes.items, s.bytes.ok.0, s.bytes.ok.1, s.bytes.small)

pub invariant_of-result : goal.invariant_of-result
invariant_of-result c =
    let s = c.args.self in
    let is = c.in_ok-push.ensures.items ∙ ap (λ (x : List ℕ). x ++ 10 ∷ []) c.in_ok-extend_from_slice.ensures.items in
    let pushed = lines_in-push s.bytes.items c.args.line.now c.push.new.self.items c.requires s.ended is in
    record {
      ended = ap (λ (ls : FileLines). ls.rest) pushed;
      counted =
          let one = ap (λ (ls : FileLines). length ls.ended) pushed in
          let more = length-append (ended_in s.bytes.items) (c.args.line.now ∷ []) in
          omega (arith, s.counted, one, more);
    }

pub returns : goal.returns
returns c =
    let s = c.args.self in
    let is = c.in_ok-push.ensures.items ∙ ap (λ (x : List ℕ). x ++ 10 ∷ []) c.in_ok-extend_from_slice.ensures.items in
    ap (λ (ls : FileLines). ls.ended) (lines_in-push s.bytes.items c.args.line.now c.push.new.self.items c.requires s.ended is)
