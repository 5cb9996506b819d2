-- What is known apart is so by the computed classes.
use Rattle.sm_cc.proofs.Imports.{trees_in, tree_at, are_apart, are_equal, setting_of, same_tests}
use Rattle.sm_cc.proofs.LeastLemmas.{apart_is_apart}
use Rattle.sm_cc.proofs.seen.ClassesSees.apart.Goals as goal

pub returns : goal.returns
returns c =
    let v = c.args.self.now in
    let t = tree_at (trees_in v.table) c.args.t.0 in
    let u = tree_at (trees_in v.table) c.args.u.0 in
    let law = apart_is_apart (setting_of v) t u in
    same_tests c.apart.result (are_apart (setting_of v) (are_equal (setting_of v)) t u)
    (λ h. law.1 (c.apart.ensures.0 h)) (λ h. c.apart.ensures.1 (law.0 h))
