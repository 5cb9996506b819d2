use Rattle.sm_solve.proofs.Imports.{◌≤◌, List, length, ap, ◌∙◌, arith, take_all, Formula, all_numbered, assertions_in, within_at}
use Rattle.sm_solve.proofs.SolvingLemmas.{renumbered_more, more_within}
use Rattle.sm_solve.proofs.solving.renumbered_facts.Goals as goal

pub loop-f-preserved : goal.loop-f-preserved
loop-f-preserved c =
    let facts = c.args.facts.now in
    let n = c.loop-f.f-index in
    let f = c.f-item.result in
    record {
      same = λ sorts trees others terms all.
          renumbered_more sorts trees others facts c.loop-f.list.items c.push.new.self.items n f c.in_ok-renumbered.field-0
          c.loop-f-test.true
          c.f-item.is c.in_ok-push.ensures.items (c.loop-f.invariant.same sorts trees others terms all)
          (c.in_ok-renumbered.ensures.same sorts trees others terms
          (within_at (length trees) facts n f c.loop-f-test.true c.f-item.is all));
      within = λ trees others terms all.
          more_within (length others) c.loop-f.list.items c.push.new.self.items c.in_ok-renumbered.field-0 c.in_ok-push.ensures.items
          (c.loop-f.invariant.within trees others terms all)
          (c.in_ok-renumbered.ensures.within trees others terms (within_at (length trees) facts n f c.loop-f-test.true c.f-item.is all));
    }

pub returns-clause-same : goal.returns-clause-same
returns-clause-same c = λ sorts trees others terms all.
    let past : length c.args.facts.now ≤ c.loop-f.f-index = omega arith in
    c.loop-f.invariant.same sorts trees others terms all
    ∙ ap (λ (fs : List Formula). assertions_in sorts trees (all_numbered fs)) (take_all c.loop-f.f-index c.args.facts.now past)
