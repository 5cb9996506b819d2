-- Neither order is a fact, or one is.
use Rattle.sm_judge.proofs.Imports.{◌≡◌, ◌∙◌, ◌||◌, Bool, true, false, Some, sym, ap, refl, trees_in, sorts_in, tree_at, is_numeric, is_fact, seen_in}
use Rattle.sm_term.specs.Assertions.{Lt}
use Rattle.sm_judge.proofs.SplitLemmas.{known_none, unknown_some}
use Rattle.sm_judge.proofs.holding.orders.Goals as goal
use Rattle.sm_judge.proofs.holding.orders.Goals.{then-is_fact-via-then-is_fact, then-is_fact-via-else-is_fact+then-is_fact-2}

-- where the second is passed
by_second : (first second : Bool) → second ≡ true → (first || second) ≡ true
by_second true second h = refl
by_second false second h = h

pub returns-then-is_fact-clause-split : goal.returns-then-is_fact-clause-split
returns-then-is_fact-clause-split c = λ terms equal apart.
    let sorts = sorts_in c.args.table.now in
    let trees = trees_in c.args.table.now in
    let t = tree_at trees c.args.t.0 in
    let u = tree_at trees c.args.u.0 in
    let b = seen_in sorts trees terms c.args.facts.now equal apart in
    let first = is_fact b (Lt t u) in
    let second = is_fact b (Lt u t) in
    known_none (is_numeric sorts t) first second (Some (Lt t u, Lt u t))
    (elim c.then-is_fact.branch [
      | then-is_fact-via-then-is_fact w ↦ ap (λ (v : Bool). v || second) (sym (c.is_fact.ensures terms equal apart) ∙ w.if-is_fact.true)
      | then-is_fact-via-else-is_fact+then-is_fact-2 w ↦
          by_second first second (sym (w.is_fact-else-is_fact.ensures terms equal apart) ∙ w.if-is_fact-2.true)
    ])

pub returns-clause-split : goal.returns-clause-split
returns-clause-split c = λ terms equal apart.
    let sorts = sorts_in c.args.table.now in
    let trees = trees_in c.args.table.now in
    let t = tree_at trees c.args.t.0 in
    let u = tree_at trees c.args.u.0 in
    let b = seen_in sorts trees terms c.args.facts.now equal apart in
    let number : is_numeric sorts t ≡ true = cc in
    unknown_some (is_numeric sorts t) (is_fact b (Lt t u)) (is_fact b (Lt u t)) (Some (Lt t u, Lt u t)) number
    (sym (c.is_fact.ensures terms equal apart) ∙ c.if-is_fact.false)
    (sym (c.is_fact-else-is_fact.ensures terms equal apart) ∙ c.if-is_fact-2.false)
