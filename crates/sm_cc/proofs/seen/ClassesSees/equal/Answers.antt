-- The classes are the computed ones.
use Rattle.sm_cc.proofs.Imports.{trees_in, tree_at, are_equal, setting_of, same_tests}
use Rattle.sm_cc.proofs.LeastLemmas.{equal_is_same}
use Rattle.sm_cc.proofs.seen.ClassesSees.equal.Goals as goal

pub returns : goal.returns
returns c =
    let v = c.args.self.now in
    let t = tree_at (trees_in v.table) c.args.t.0 in
    let u = tree_at (trees_in v.table) c.args.u.0 in
    let law = equal_is_same (setting_of v) t u in
    same_tests c.same.result (are_equal (setting_of v) t u) (λ h. law.1 (c.same.ensures.0 h)) (λ h. c.same.ensures.1 (law.0 h))
