use Rattle.sm_suggest.proofs.Imports.{◌≡◌, ℕ, ◌<◌, Bool, false, length, subst, ap, arith, parts_of, combination, combination_count, hole_count, MayAnswer}
use borrow.Author.Count.{below_more}
use Rattle.sm_suggest.proofs.FirstLemmas.{counted}
use Rattle.sm_suggest.proofs.suggesting.suggest.Goals as goal

pub returns-then-branch-clause-some : goal.returns-then-branch-clause-some
returns-then-branch-clause-some g c =
    let t = parts_of c.args.task.now in
    let k = c.loop-k.k in
    let len : c.len-holes.result ≡ hole_count t =
    omega (arith, c.len-holes.ensures, c.in_ok-holes_of.field-0.ok.0, ap length c.in_ok-holes_of.ensures) in
    let count : c.count_of-k-end.result ≡ combination_count t =
    counted c.count_of-k-end.result c.len-holes.result (hole_count t) c.count_of-k-end.ensures len in
    record {
      is_one = subst (λ (n : ℕ). k < n) count c.loop-k-test.true;
      accepted =
          subst (λ (b : Bool). MayAnswer g.F.Fn c.args.decide.now (combination t k) b) c.if-branch.true c.in_ok-is_accepted.ensures;
      others_refused = c.loop-k.invariant;
    }

pub loop-k-preserved : goal.loop-k-preserved
loop-k-preserved g c =
    let t = parts_of c.args.task.now in
    let k = c.loop-k.k in
    below_more (λ (j : ℕ). MayAnswer g.F.Fn c.args.decide.now (combination t j) false) k c.loop-k.invariant
    (subst (λ (b : Bool). MayAnswer g.F.Fn c.args.decide.now (combination t k) b) c.if-branch.false c.in_ok-is_accepted.ensures)

pub returns-clause-none : goal.returns-clause-none
returns-clause-none g c =
    let t = parts_of c.args.task.now in
    let len : c.len-holes.result ≡ hole_count t =
    omega (arith, c.len-holes.ensures, c.in_ok-holes_of.field-0.ok.0, ap length c.in_ok-holes_of.ensures) in
    let count : c.count_of-k-end.result ≡ combination_count t =
    counted c.count_of-k-end.result c.len-holes.result (hole_count t) c.count_of-k-end.ensures len in
    λ (k : ℕ) (below : k < combination_count t).
    c.loop-k.invariant k (omega (arith, below, count, c.loop-k-test.false))
