use Rattle.sm_trim.proofs.Imports.{◌∙◌, ◌+◌, ℕ, refl, sym, ap, subst, line_in, some_pass, needs, AreMarks}
use Rattle.sm_trim.proofs.TreesLemmas.{line_in_place}
use Rattle.sm_trim.proofs.pruning.prune_line.Goals as goal

pub returns-in_ok-push : goal.returns-in_ok-push
returns-in_ok-push c = λ trees at p below.
    let line = line_in trees c.args.line.now in
    let t = c.take_marks.ensures at (needs p)
    (subst (λ (n : ℕ). AreMarks (at + n) (needs p) c.args.below.now.marks) (sym (c.facts_added.ensures trees)) below.marks) in
    line_in_place trees at line p c.args.below.now.tree _ c.take_marks.new.marks _
    (sym c.if-take_marks.true ∙ t.0 ∙ ap (λ (n : ℕ). some_pass n at (needs p)) (c.facts_added.ensures trees)) below.tree t.1
    (c.in_ok-mark_line.ensures trees) c.in_ok-push.ensures.items refl
    ((c.in_ok-mark_line.ensures trees).0) (c.in_ok-line.ensures trees)
