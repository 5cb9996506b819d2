-- Each turn puts the parts of one more formula last.
use Rattle.sm_list.proofs.Imports.{◌≡◌, ◌<◌, ◌≤◌, ◌+◌, ◌++◌, List, length, drop, sym, ap, subst, ◌∙◌, arith, length-map, NumberedFormula, numbered, assertion_in, longer_twice, all_numbered, assertions_in, AreFormulasWithin, numbered_parts, numbered_at}
use Rattle.sm_list.proofs.PartsLemmas.{queue_from, queue_step, queue_end, weight_of_all, weight_step, within_step, longer}
use Rattle.sm_list.proofs.parts.add_parts.Goals as goal

pub loop-next-smaller : goal.loop-next-smaller
loop-next-smaller c =
    let n = c.loop-next.next in
    let fs = all_numbered c.loop-next.facts.items in
    let count = length-map c.loop-next.facts.items numbered in
    let inside : n < length fs = omega arith in
    subst (λ (gs : List NumberedFormula). weight_of_all (drop (n + 1) gs) < weight_of_all (drop n fs)) (sym c.in_ok-push_parts.ensures.parts)
    (weight_step fs n inside)

pub loop-next-preserved : goal.loop-next-preserved
loop-next-preserved c =
    let n = c.loop-next.next in
    let fs = all_numbered c.loop-next.facts.items in
    let parts = numbered_parts (numbered_at c.loop-next.facts.items n) in
    let new = all_numbered c.push_parts.new.facts.items in
    let count = length-map c.loop-next.facts.items numbered in
    let after = length-map c.push_parts.new.facts.items numbered in
    let inside : n < length fs = omega arith in
    let items : new ≡ fs ++ parts = c.in_ok-push_parts.ensures.parts in
    let more : n + 1 ≤ length (fs ++ parts) = longer fs n (numbered_at c.loop-next.facts.items n) inside in
    let now : n + 1 ≤ length new = subst (λ (gs : List NumberedFormula). n + 1 ≤ length gs) (sym items) more in
    record {
      inside = omega arith;
      queue = λ sorts trees.
          ap (λ (gs : List NumberedFormula). queue_from (n + 1) (assertions_in sorts trees gs)) items
          ∙ queue_step sorts trees fs n inside ∙ c.loop-next.invariant.queue sorts trees;
      within = λ count all.
          subst (AreFormulasWithin count) (sym items) (within_step count fs n (c.loop-next.invariant.within count all));
      longer =
          longer_twice c.args.facts.now.items c.loop-next.facts.items c.push_parts.new.facts.items c.loop-next.invariant.longer
          c.in_ok-push_parts.ensures.longer;
    }

pub returns-clause-added : goal.returns-clause-added
returns-clause-added c = λ sorts trees.
    let n = c.loop-next.next in
    let all = assertions_in sorts trees (all_numbered c.loop-next.facts.items) in
    let one = length-map c.loop-next.facts.items numbered in
    let two = length-map (all_numbered c.loop-next.facts.items) (assertion_in sorts trees) in
    let past : length all ≤ n = omega arith in
    sym (queue_end all n past) ∙ c.loop-next.invariant.queue sorts trees
