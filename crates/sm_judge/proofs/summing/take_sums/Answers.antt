-- A sum is counted, and listed where it is kept or can't hold.
use Rattle.sm_judge.proofs.Imports.{◌<◌, Ok, sym, subst, ◌∙◌, arith, Gives, TakesSum, ElimLine, AreNumbered, Walked}
use Rattle.std.proofs.Common.{ℕ}
use Rattle.sm_fm.specs.declared.step.ElimStep.{ElimStep}
use Rattle.sm_judge.proofs.CountedLemmas.{walked_on, walked_last, recorded, contradicted}
use Rattle.sm_judge.proofs.summing.take_sums.Goals as goal

pub returns-then-contradiction-clause-tells : goal.returns-then-contradiction-clause-tells
returns-then-contradiction-clause-tells c = λ (next : ℕ → Walked).
    let a = c.in-Ok-Line in
    let old = c.sums.elimination in
    let new = c.next.new.self in
    let takes : TakesSum old new a.f a.g a.atom a.kept a.contradiction =
    subst (λ (s : ElimStep). Gives old new (Ok s)) a.field-0-is a.ensures in
    let within = c.sums.invariant.counted in
    let more : c.sums.done < c.args.so_far.steps = omega arith in (
      sym (c.sums.invariant.walked next)
          ∙ walked_last c.args.so_far.steps c.sums.done old.left next a.f a.g takes.number a.kept a.contradiction new.left takes.happens more
          c.if-contradiction.true,
      omega arith,
    )

pub returns-then-contradiction-clause-sums : goal.returns-then-contradiction-clause-sums
returns-then-contradiction-clause-sums c =
    let a = c.in-Ok-Line in
    let old = c.sums.elimination in
    let new = c.next.new.self in
    let takes : TakesSum old new a.f a.g a.atom a.kept a.contradiction =
    subst (λ (s : ElimStep). Gives old new (Ok s)) a.field-0-is a.ensures in
    let line : ElimLine = record { f = a.f; g = a.g; atom = a.atom } in
    contradicted c.args.elimination.now.forms c.sums.elims.items c.push.new.self.items old new line a.kept a.contradiction
    c.sums.invariant.numbered c.sums.invariant.sums takes c.if-contradiction.true c.in_ok-push-in-Ok-Line.ensures.items

pub sums-preserved : goal.sums-preserved
sums-preserved c =
    let a = c.in-Ok-Line in
    let old = c.sums.elimination in
    let new = c.next.new.self in
    let takes : TakesSum old new a.f a.g a.atom a.kept a.contradiction =
    subst (λ (s : ElimStep). Gives old new (Ok s)) a.field-0-is a.ensures in
    let line : ElimLine = record { f = a.f; g = a.g; atom = a.atom } in
    let within = c.sums.invariant.counted in
    let more : c.sums.done < c.args.so_far.steps = omega arith in
    record {
      walked = λ (next : ℕ → Walked).
          sym (walked_on c.args.so_far.steps c.sums.done old.left next a.f a.g takes.number a.kept a.contradiction new.left takes.happens more
          c.if-contradiction.false)
          ∙ c.sums.invariant.walked next;
      numbered = subst (AreNumbered 0) (sym takes.atoms_are) c.sums.invariant.numbered;
      sums =
          recorded c.args.elimination.now.forms c.sums.elims.items c.put_if.new.elims.items old new line a.kept a.contradiction
          c.sums.invariant.numbered c.sums.invariant.sums takes c.in_ok-put_if-in-Ok-Line.ensures;
      counted = omega arith;
    }
