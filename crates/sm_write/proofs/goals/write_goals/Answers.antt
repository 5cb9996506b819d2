-- Each certificate is written for the goal that is next, and where there are none there is no goal either.
use Rattle.sm_write.proofs.Imports.{◌≡◌, ℕ, List, [], ◌∷◌, length, map, ap, sym, subst, arith, trees_in, certificate_in, CertTree, LeavesGoals, AreTreesWithin, value_of, no_items}
use Rattle.sm_write.proofs.GoalsLemmas.{goals_more, goals_short}
use Rattle.sm_write.proofs.goals.write_goals.Goals as goal

pub returns-in-None-clause-written : goal.returns-in-None-clause-written
returns-in-None-clause-written c =
    let v = c.args.table.now in
    let means = map (certificate_in (trees_in v)) in
    let old = value_of c.args.w.now in
    let mid = value_of c.loop-n.w in
    let count = c.args.goals in
    let cs = means c.args.certs.now in
    let none : means c.loop-n.left.now ≡ [] = ap means (no_items c.loop-n.left.now c.in-None.ensures.cases) in
    subst (LeavesGoals v old mid count cs count) (sym none)
    (goals_short v old mid count c.loop-n.n cs (subst (LeavesGoals v old mid count cs c.loop-n.n) none c.loop-n.invariant.written)
    c.loop-n-test.true)

pub loop-n-preserved : goal.loop-n-preserved
loop-n-preserved c =
    let v = c.args.table.now in
    let trees = trees_in v in
    let means = map (certificate_in trees) in
    let old = value_of c.args.w.now in
    let mid = value_of c.loop-n.w in
    let count = c.args.goals in
    let cs = means c.args.certs.now in
    let tree = c.in-Some.tree.now in
    let rest = c.in-Some.rest.now in
    let split : c.loop-n.left.now ≡ tree ∷ rest = c.in-Some.ensures.cases.0 in
    let within : AreTreesWithin (length trees) (tree ∷ rest) = subst (AreTreesWithin (length trees)) split c.loop-n.invariant.within in
    let written : LeavesGoals v old mid count cs c.loop-n.n (means (tree ∷ rest)) =
    subst (λ (ts : List CertTree). LeavesGoals v old mid count cs c.loop-n.n (means ts)) split c.loop-n.invariant.written in
    record {
      written =
          goals_more v old mid (value_of c.write_tree.new.w) count c.loop-n.n cs (certificate_in trees tree) (means rest) written
          c.loop-n-test.true c.in_ok-write_tree-in-Some.ensures;
      within = within.1;
    }

pub returns-clause-written : goal.returns-clause-written
returns-clause-written c =
    let v = c.args.table.now in
    let means = map (certificate_in (trees_in v)) in
    let all : c.loop-n.n ≡ c.args.goals = omega arith in
    let old = value_of c.args.w.now in
    subst
    (λ (n : ℕ). LeavesGoals v old (value_of c.loop-n.w) c.args.goals (means c.args.certs.now) n (means c.loop-n.left.now))
    all c.loop-n.invariant.written
