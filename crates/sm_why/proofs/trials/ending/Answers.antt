-- No trial, one trial more, and all of them.
use Rattle.sm_why.proofs.Imports.{◌≡◌, ◌+◌, ℕ, suc, subst, arith, ◌↔◌, IsTrue, Store, sort_of, task_of, parts_of, trial, AreCounted, EndsFrom}
use Rattle.sm_why.proofs.TrialsCounted.{none_counted, one_at_most, one_more}
use Rattle.sm_why.proofs.trials.ending.Goals as goal

pub loop-j-init : goal.loop-j-init
loop-j-init c =
    let t = parts_of c.args.task.now in
    record {
      counted = none_counted (λ (i : ℕ). EndsFrom (task_of t) (trial (sort_of t.declared) i) c.args.turns);
      few = omega arith;
      within = omega arith;
    }

pub loop-j-preserved : goal.loop-j-preserved
loop-j-preserved c =
    let t = parts_of c.args.task.now in
    let j = c.loop-j.j in
    let ends : ℕ → Type 0 = λ (i : ℕ). EndsFrom (task_of t) (trial (sort_of t.declared) i) c.args.turns in
    let exact : IsTrue c.in_ok-ends.ends ↔ ends j =
    subst (λ (s : Store). IsTrue c.in_ok-ends.ends ↔ EndsFrom (task_of t) s c.args.turns) c.in_ok-input.ensures.value c.in_ok-ends.ensures in
    let next : suc j ≡ j + 1 = omega arith in
    let one = one_at_most c.one_if-count.result c.in_ok-ends.ends c.one_if-count.ensures in
    record {
      counted =
          subst (λ (n : ℕ). AreCounted ends n (c.loop-j.count + c.one_if-count.result)) next
          (one_more ends j c.loop-j.count c.one_if-count.result c.in_ok-ends.ends c.loop-j.invariant.counted exact c.one_if-count.ensures);
      few = omega (arith, c.loop-j.invariant.few, one);
      within = omega (arith, c.loop-j-test.true);
    }

pub returns : goal.returns
returns c =
    let t = parts_of c.args.task.now in
    let ends : ℕ → Type 0 = λ (i : ℕ). EndsFrom (task_of t) (trial (sort_of t.declared) i) c.args.turns in
    let all : c.loop-j.j ≡ 256 = omega (arith, c.loop-j-test.false, c.loop-j.invariant.within) in
    subst (λ (n : ℕ). AreCounted ends n c.loop-j.count) all c.loop-j.invariant.counted
