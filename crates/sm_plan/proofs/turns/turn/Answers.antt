-- The state of a turn.
use Rattle.sm_plan.proofs.Imports.{rules, ◌≡◌, List, ◌++◌, sym, ap, subst, false, fun_ext, Copy, Sorts, IsWellSorted, of_copy, Formula, Assertion, Tree, Formulas, has, IsHeadReady, set_of, AreFormsReady, IsStoreReady, rest_code, forms_in, stores_in}
use Rattle.sm_plan.proofs.RenewedStores.{store_alike}
use Rattle.sm_plan.proofs.TurnsMade.{same_store_ready, same_store_full, bodies_ready}
use Rattle.sm_plan.proofs.turns.turn.Goals as goal

pub returns-clause-made : goal.returns-clause-made
returns-clause-made c = λ (sorts : Sorts) (trees : List Tree) (facts : List Assertion).
    let rest = fun_ext c.in_ok-rests.ensures in
    let stores : stores_in trees c.in_ok-stores.stores ≡ stores_in trees c.args.head.now.stores =
    fun_ext (λ (d : Copy). store_alike trees (of_copy c.in_ok-stores.stores d) (of_copy c.args.head.now.stores d)
    (c.in_ok-stores.ensures d)) in
    let kept : c.in_ok-kept.kept.value ≡ c.args.head.now.kept.value = search rules in
    let target : c.in_ok-target.target.value ≡ c.args.target.now.value = search rules in
    let more = c.in_ok-more.ensures.made sorts trees in
    λ i. record {
      rest = rest i;
      stores = stores i;
      facts = facts ++ (forms_in sorts trees (kept i).list.items ++ more i);
      target = forms_in sorts trees (target i).list.items;
      is_final = false;
    }

pub returns-clause-ready : goal.returns-clause-ready
returns-clause-ready c = λ (sorts : Sorts) (trees : List Tree) well (head : IsHeadReady sorts trees c.args.head.now) target_ready.
    let kept : c.in_ok-kept.kept.value ≡ c.args.head.now.kept.value = search rules in
    let target : c.in_ok-target.target.value ≡ c.args.target.now.value = search rules in
    record {
      state = record {
        rests = λ (d : Copy).
            subst (IsWellSorted sorts) (sym (c.in_ok-rests.ensures d))
            (bodies_ready sorts (has (set_of c.args.turning) d) (rest_code (of_copy c.args.rests.now d)) (well d));
        stores = λ (d : Copy).
            same_store_ready sorts trees (of_copy c.args.head.now.stores d) (of_copy c.in_ok-stores.stores d) (c.in_ok-stores.ensures d)
            (head.stores d);
        target = subst (λ (f : Formulas). AreFormsReady sorts trees f.list.items) (sym target) target_ready;
        full = λ (d : Copy). same_store_full sorts (of_copy c.args.head.now.stores d) (of_copy c.in_ok-stores.stores d)
            (c.in_ok-stores.ensures d) (head.full d);
      };
      kept = subst (λ (f : Formulas). AreFormsReady sorts trees f.list.items) (sym kept) head.kept;
      more = c.in_ok-more.ensures.ready sorts trees head.guards;
    }
