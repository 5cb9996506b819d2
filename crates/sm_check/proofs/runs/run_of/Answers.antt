-- One line more.
use Rattle.sm_check.proofs.Imports.{◌<◌, ◌-◌, ◌∷◌, [], ℕ, take, drop, length, length-take, length-drop, ap, arith, length-append, FileLines, ended_in}
use Rattle.sm_check.proofs.EndedLines.{run_more}
use Rattle.sm_check.proofs.runs.run_of.Goals as goal

pub loop-count-preserved : goal.loop-count-preserved
loop-count-preserved c =
    let bytes = c.args.bytes.now in
    let size = c.loop-count.size in
    let end = c.in-Some.end in
    let found = c.in-Some.ensures.some in
    let below : end < length (take (length bytes - size) (drop size bytes)) = found.0 in
    let room : end < length bytes - size = omega (arith, length-take {A = ℕ}, length-drop {A = ℕ}) in
    let more = run_more bytes size end found.1 found.2 c.loop-count.invariant.ended in
    record {
      within = omega (arith, room);
      ended = ap (λ (ls : FileLines). ls.rest) more;
      counted =
          let one = ap (λ (ls : FileLines). length ls.ended) more in
          let all = length-append (ended_in (take size bytes)) (take end (take (length bytes - size) (drop size bytes)) ∷ []) in
          omega (arith, one, all, c.loop-count.invariant.counted);
    }
