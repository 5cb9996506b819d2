-- The state after the loops.
use Rattle.sm_plan.proofs.Imports.{◌≡◌, List, ◌++◌, sym, ap, subst, fun_ext, Copy, Sorts, IsWellSorted, of_copy, Assertion, Tree, has, IsHeadReady, set_of, AreStoresReady, AreStoresFull, rest_code, forms_in, stores_in}
use Rattle.sm_plan.proofs.TurnsMade.{passed_ready}
use Rattle.sm_plan.proofs.turns.after_loops.Goals as goal

pub returns-clause-made : goal.returns-clause-made
returns-clause-made c = λ (sorts : Sorts) (trees : List Tree) (facts : List Assertion).
    let rest = fun_ext c.pass_loops.ensures in
    let more = c.in_ok-more.ensures.made sorts trees in
    let stores = ap (stores_in trees) c.swap.ensures.x_after in
    λ i. record {
      rest = rest i;
      stores = stores i;
      facts = facts ++ (forms_in sorts trees c.args.head.kept.value.list.items ++ more i);
      target = forms_in sorts trees c.args.state.target.value.list.items;
      is_final = c.args.state.is_final;
    }

pub returns-clause-ready : goal.returns-clause-ready
returns-clause-ready c = λ (sorts : Sorts) (trees : List Tree) well (head : IsHeadReady sorts trees c.args.head) target. record {
  state = record {
    rests = λ (d : Copy).
        subst (IsWellSorted sorts) (sym (c.pass_loops.ensures d))
        (passed_ready sorts (has (set_of c.args.set) d) (rest_code (of_copy c.args.state.rests d)) (well d));
    stores = subst (AreStoresReady sorts trees) (sym c.swap.ensures.x_after) head.stores;
    target = target;
    full = subst (AreStoresFull sorts) (sym c.swap.ensures.x_after) head.full;
  };
  kept = head.kept;
  more = c.in_ok-more.ensures.ready sorts trees head.guards;
}
