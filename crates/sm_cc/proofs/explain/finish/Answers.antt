use Rattle.sm_cc.proofs.Imports.{◌∙◌, ◌+◌, ◌++◌, [], ◌∷◌, ℕ, List, length, subst, ap, arith, Step, placed_of, IsStated}
use Rattle.sm_cc.specs.declared.log.Known.TheVariants.{Equal}
use Rattle.sm_cc.specs.declared.log.Rule.TheVariants.{Trans}
use Rattle.sm_cc.proofs.ClosuresLemmas.{first_root, second_root, same_label}
use Rattle.sm_cc.proofs.ExplainLemmas.{finished, number_read}
use Rattle.sm_cc.proofs.explain.finish.Goals as goal

pub returns : goal.returns
returns c =
    let old = c.args.c.now in
    let v = placed_of old in
    let r = c.index-first.result.now in
    let s = c.index-second.result.now in
    let x = c.index-x.result.now in
    let y = c.index-y.result.now in
    let steps = c.args.draft.steps.items in
    let first = first_root old c.args.i c.args.j r c.requires.together c.index-first.ensures in
    let second = second_root old c.args.i c.args.j s c.requires.together c.index-second.ensures in
    let one = c.requires.first r first in
    let two = c.requires.second s second in
    finished v c.args.start steps c.push-2.new.self.items x y (c.args.start + c.len.result) c.args.i c.args.j r.left r.right s.left s.right
    c.requires.follow
    (subst (λ (n : ℕ). IsStated v c.args.start steps (length steps) n (Equal r.left r.right))
    (number_read c.args.draft.numbers.items r.entry x one.0 one.1 c.index-x.ensures) one.2)
    (subst (λ (n : ℕ). IsStated v c.args.start steps (length steps) n (Equal s.left s.right))
    (number_read c.args.draft.numbers.items s.entry y two.0 two.1 c.index-y.ensures) two.2)
    (same_label old c.args.i c.args.j r s c.requires.together first second)
    (c.requires.sound.rooted c.args.i r first).0
    (c.requires.sound.rooted c.args.j s second).0
    (omega (arith, c.len.ensures))
    (c.in_ok-push-2.ensures.items ∙ ap (λ (l : List Step). l ++ record {
      rule = Trans x (c.args.start + c.len.result);
      known = Equal
          r.left s.left;
    } ∷ []) c.in_ok-push.ensures.items)
