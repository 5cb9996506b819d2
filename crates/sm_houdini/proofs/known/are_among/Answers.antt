use Rattle.sm_houdini.proofs.Imports.{◌<◌, ◌+◌, arith, nat_tests}
use Rattle.sm_houdini.proofs.KnownLemmas.{found_next, found_inside}
use Rattle.sm_houdini.proofs.known.are_among.Goals as goal
use Rattle.sm_houdini.proofs.known.are_among.Goals.{then-is_next, else-is_next}

pub loop-at-preserved : goal.loop-at-preserved
loop-at-preserved c =
    elim c.if-is_next.branch [
      | then-is_next w ↦
          let here = c.is_next.ensures in
          let more = w.found-is in
          let inside = here.there w.if-is_next.true in
          record {
            within = omega (arith, more, inside);
            among = λ closes all i g h e.
                let less : i < c.loop-at.found + 1 = omega (arith, h, more) in
                found_next c.args.list.now c.args.others.now c.loop-at.found c.loop-at.at closes c.args.marks.now inside
                (here.marked w.if-is_next.true) (here.same w.if-is_next.true) all (c.loop-at.invariant.among closes all) i g less e;
          }
      | else-is_next w ↦
          let same = w.found-is in
          let within = c.loop-at.invariant.within in
          record {
            within = omega (arith, same, within);
            among = λ closes all i g h e.
                let less : i < c.loop-at.found = omega (arith, h, same) in c.loop-at.invariant.among closes all i g less e;
          }
    ]

pub returns : goal.returns
returns c = λ closes all is i g e.
    let inside = found_inside c.args.list.now i g e in
    let less : i < c.loop-at.found = grind (arith, nat_tests, is, inside) in
    c.loop-at.invariant.among closes all i g less e
