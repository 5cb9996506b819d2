-- Index by index.
use Rattle.sm_explain.proofs.Imports.{◌≡◌, ◌++◌, [], ◌∷◌, ℤ, to_z, of_z, ap, ◌∙◌, drop, rules, w128, past}
use Rattle.sm_explain.proofs.MergedLists.{turn, turn_smaller, all_left, all_right}
use Rattle.sm_explain.proofs.indices.merged.Goals as goal

pub loop-i-preserved : goal.loop-i-preserved
loop-i-preserved c =
    let same : to_z w128 (of_z w128 c.in-Some.i) ≡ c.in-Some.i = search rules in
    turn c.args.left.now c.args.right.now c.loop-i.p c.loop-i.q c.past-p.result c.past-q.result c.loop-i.all.items c.push.new.self.items
    c.in-Some.i c.loop-i.invariant c.in-Some.ensures
    (c.in_ok-push.ensures.items ∙ ap (λ (z : ℤ). c.loop-i.all.items ++ z ∷ []) same)
    (c.past-p.ensures ∙ ap (λ (z : ℤ). past z (drop c.loop-i.p c.args.left.now)) same)
    (c.past-q.ensures ∙ ap (λ (z : ℤ). past z (drop c.loop-i.q c.args.right.now)) same)

pub loop-i-smaller : goal.loop-i-smaller
loop-i-smaller c =
    let same : to_z w128 (of_z w128 c.in-Some.i) ≡ c.in-Some.i = search rules in
    turn_smaller c.args.left.now c.args.right.now c.loop-i.p c.loop-i.q c.past-p.result c.past-q.result c.in-Some.i c.in-Some.ensures
    (c.past-p.ensures ∙ ap (λ (z : ℤ). past z (drop c.loop-i.p c.args.left.now)) same)
    (c.past-q.ensures ∙ ap (λ (z : ℤ). past z (drop c.loop-i.q c.args.right.now)) same)

pub returns-clause-left : goal.returns-clause-left
returns-clause-left c =
    all_left c.args.left.now c.args.right.now c.loop-i.p c.loop-i.q c.loop-i.all.items c.loop-i.invariant c.in_default.ensures

pub returns-clause-right : goal.returns-clause-right
returns-clause-right c =
    all_right c.args.left.now c.args.right.now c.loop-i.p c.loop-i.q c.loop-i.all.items c.loop-i.invariant c.in_default.ensures
