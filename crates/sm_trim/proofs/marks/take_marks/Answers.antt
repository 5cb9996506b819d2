use Rattle.std.proofs.Common.{◌+◌, ◌-◌, ◌||◌, Bool, subst, arith}
use Rattle.sm_trim.proofs.MarksLemmas.{AreTaken, taken_more, all_taken}
use Rattle.sm_trim.proofs.marks.take_marks.Goals as goal

pub loop-left-preserved-then-take_mark : goal.loop-left-preserved-then-take_mark
loop-left-preserved-then-take_mark c =
    let count = c.args.count in
    let left = c.loop-left.left in
    let one = c.loop-left.one in
    let within = c.loop-left.invariant.within in
    record {
      within = omega arith;
      taken = λ at needed marks.
          subst (λ (b : Bool). AreTaken (count - (left - 1)) (at + (left - 1)) needed (b || one) c.take_mark.new.marks)
          c.if-take_mark.true
          (taken_more count left at needed one c.take_mark.result c.loop-left.marks c.take_mark.new.marks c.loop-left-test.true
          within (c.loop-left.invariant.taken at needed marks) c.take_mark.ensures);
    }

pub loop-left-preserved : goal.loop-left-preserved
loop-left-preserved c =
    let count = c.args.count in
    let left = c.loop-left.left in
    let one = c.loop-left.one in
    let within = c.loop-left.invariant.within in
    record {
      within = omega arith;
      taken = λ at needed marks.
          subst (λ (b : Bool). AreTaken (count - (left - 1)) (at + (left - 1)) needed (b || one) c.take_mark.new.marks)
          c.if-take_mark.false
          (taken_more count left at needed one c.take_mark.result c.loop-left.marks c.take_mark.new.marks c.loop-left-test.true
          within (c.loop-left.invariant.taken at needed marks) c.take_mark.ensures);
    }

pub returns : goal.returns
returns c = λ at needed marks.
    all_taken c.args.count c.loop-left.left at needed c.loop-left.one c.loop-left.marks c.loop-left-test.false
    (c.loop-left.invariant.taken at needed marks)
