use Rattle.sm_cc.proofs.Imports.{◌≡◌, ◌∙◌, Bool, List, Some, sym, subst, slice_get, same_Some, IsMarked}
use Rattle.sm_cc.specs.declared.log.Known.TheVariants.{Equal}
use Rattle.sm_cc.specs.declared.log.Equation.{Equation}
use Rattle.sm_cc.proofs.ClosuresLemmas.{second_root, root_within, root_noted}
use Rattle.sm_cc.proofs.explain.explanation_turned.Goals as goal

pub marked-requires-clause-first_there : goal.marked-requires-clause-first_there
marked-requires-clause-first_there c =
    let r = c.index-second.result.now in
    root_within c.args.c.now c.args.j r c.requires.sound (second_root c.args.c.now c.args.i c.args.j r c.requires.together
    c.index-second.ensures)

pub marked-requires-clause-second_there : goal.marked-requires-clause-second_there
marked-requires-clause-second_there c =
    let r = c.index-second.result.now in
    root_within c.args.c.now c.args.j r c.requires.sound (second_root c.args.c.now c.args.i c.args.j r c.requires.together
    c.index-second.ensures)

pub finish_turned-requires-clause-second : goal.finish_turned-requires-clause-second
finish_turned-requires-clause-second c = λ (r : Equation) (h : slice_get c.args.c.now.roots.items c.args.j ≡ Some r).
    let x = c.index-second.result.now in
    let same : x ≡ r = same_Some x r (sym (second_root c.args.c.now c.args.i c.args.j x c.requires.together c.index-second.ensures) ∙ h) in
    let marked : IsMarked c.deref.result.now r.entry =
    subst (λ (l : List Bool). IsMarked l r.entry) (sym c.deref.ensures.value)
    (subst (λ (e : Equation). IsMarked c.in_ok-marks.marks.items e.entry) same c.in_ok-marks.ensures.marked.1.0) in
    c.in_ok-draft.ensures.stated r.entry (Equal r.left r.right) (root_within c.args.c.now c.args.j r c.requires.sound h) marked
    (root_noted c.args.c.now c.args.j r c.requires.sound h)
