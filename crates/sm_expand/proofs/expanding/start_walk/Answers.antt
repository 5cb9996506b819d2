-- The state of the plan's first node waits.
use Rattle.sm_expand.proofs.Imports.{◌≡◌, List, [], ◌∷◌, ◌++◌, reverse, refl, sym, ap, ◌∙◌, trees_in, sorts_in, Formulas, expand, forms_in, state_in, Waiting, plan_in, outcome}
use Rattle.sm_expand.proofs.WholeLemmas.{starts}
use Rattle.sm_expand.proofs.expanding.start_walk.Goals as goal

pub returns-clause-start : goal.returns-clause-start
returns-clause-start c = λ t.
    let sorts = sorts_in t in
    let trees = trees_in t in
    let x : Waiting = record {
      shared = 0;
      kept = c.in_ok-new.field-0;
      more = record { list = c.new-2.result };
      state = c.args.state;
      cursor = c.start_of.result;
    } in
    let one : reverse c.push.new.self.items ≡ x ∷ [] =
    ap reverse c.in_ok-push.ensures.items ∙ ap (λ (l : List Waiting). reverse (l ++ x ∷ [])) c.new-waiting.ensures.items in
    sym
    (ap (outcome t c.new-3.result.items 0 c.new-4.result.items) one
    ∙ starts t x c.args.plan.now c.new-3.result.items c.new-4.result.items c.new-3.ensures.items
    c.new-4.ensures.items refl c.new-2.ensures.items
    c.start_of.ensures
    ∙ ap (λ (fs : Formulas). expand 0 (state_in sorts trees (forms_in sorts trees fs.list.items) c.args.state)
    (plan_in sorts trees c.args.plan.now))
    c.in_ok-new.ensures.ok)
