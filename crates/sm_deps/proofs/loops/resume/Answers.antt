use Rattle.sm_deps.proofs.Imports.{◌+◌, refl, sym, ap, subst, ◌∙◌, arith, each_same, Loops, members, either, Resumes}
use Rattle.sm_deps.proofs.LoopsExact.{resumes_last, resumes_first}
use Rattle.sm_deps.proofs.NeededLemmas.{members-same}
use Rattle.sm_deps.proofs.loops.resume.Goals as goal
use Rattle.sm_deps.proofs.loops.resume.Goals.{then-number-len+in_ok-last+in_ok-add_all, else-number-len+in_ok-first+in_ok-push}

-- from the kept set, or from the first one
pub returns-clause-set : goal.returns-clause-set
returns-clause-set c =
    let before = c.args.loops.now in
    let after : Loops = record { sets = c.if-number-len.loops.sets; next = before.next + 1 } in
    let first = members c.args.names.now in
    elim c.if-number-len.branch [
      | then-number-len+in_ok-last+in_ok-add_all w ↦
          let kept = w.index.result.now in
          let copied = members-same kept w.in_ok-last.last (each_same kept.keys w.in_ok-last.last.keys w.in_ok-last.ensures.cases) in
          resumes_last first (members c.if-number-len.names) kept before after
          (omega (arith, w.if-number-len.true, c.len.ensures)) w.index.ensures
          (ap members w.names-is ∙ w.in_ok-add_all.ensures ∙ ap (either first) copied) (ap (λ (l : Loops). l.sets) w.loops-is) refl
      | else-number-len+in_ok-first+in_ok-push w ↦
          let set = w.in_ok-first.first in
          let copied = members-same c.args.names.now set (each_same c.args.names.now.keys set.keys w.in_ok-first.ensures.cases) in
          subst (λ found. Resumes first found before after) (sym (ap members w.names-is))
          (resumes_first first set before after c.requires (omega (arith, w.if-number-len.false, c.len.ensures)) copied
          (ap (λ (l : Loops). l.sets.items) w.loops-is ∙ w.in_ok-push.ensures.items) refl)
    ]
