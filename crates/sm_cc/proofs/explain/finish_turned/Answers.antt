use Rattle.sm_cc.proofs.Imports.{◌∙◌, ℕ, length, subst, sym, placed_of, IsStated}
use Rattle.sm_cc.specs.declared.log.Known.TheVariants.{Equal}
use Rattle.sm_cc.proofs.ClosuresLemmas.{second_root, same_label, roots_of}
use Rattle.sm_cc.proofs.ExplainLemmas.{finished_turned, number_read}
use Rattle.sm_cc.proofs.explain.finish_turned.Goals as goal

pub returns : goal.returns
returns c =
    let old = c.args.c.now in
    let v = placed_of old in
    let s = c.index-second.result.now in
    let y = c.index-y.result.now in
    let steps = c.args.draft.steps.items in
    let x = roots_of old.roots.items c.args.i c.args.j c.requires.together in
    let second = second_root old c.args.i c.args.j s c.requires.together c.index-second.ensures in
    let two = c.requires.second s second in
    finished_turned v c.args.start steps c.push.new.self.items y c.args.i c.args.j s.left s.right c.requires.follow
    (subst (λ (n : ℕ). IsStated v c.args.start steps (length steps) n (Equal s.left s.right))
    (number_read c.args.draft.numbers.items s.entry y two.0 two.1 c.index-y.ensures) two.2)
    (sym (c.requires.label x.first x.at_first ∙ same_label old c.args.i c.args.j x.first s c.requires.together x.at_first second))
    (c.requires.sound.rooted c.args.j s second).0
    c.in_ok-push.ensures.items
