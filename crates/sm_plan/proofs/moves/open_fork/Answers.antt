-- Each branch has its statements before what follows the choice.
use Rattle.sm_plan.proofs.Imports.{◌≡◌, List, [], ◌∷◌, Some, sym, ap, ◌∙◌, subst, append, IsWellSorted, copy_named, of_copy, condition_of, code_of, Formula, negate, form_of, store_in, SymStore, trees_in, sorts_in, IsBranch, IsStoreReady, State, rest_after, rest_code, forms_in, state_in, Continuation}
use Rattle.sm_syntax.specs.claim.Syntax.{If}
use Rattle.sm_plan.specs.Nodes as plan
use Rattle.sm_plan.specs.Views.{SymState}
use Rattle.sm_plan.proofs.ForksOpened.{branch_is, branch_ready, fork_is}
use Rattle.sm_plan.proofs.OpeningsMade.{opening_states}
use Rattle.sm_plan.proofs.SortedCode.{append_well}
use Rattle.sm_plan.proofs.TablesWiden.{widens_grown}
use Rattle.sm_plan.proofs.moves.open_fork.Goals as goal

pub both_facts-requires-clause-well : goal.both_facts-requires-clause-well
both_facts-requires-clause-well c =
    let v = c.args.table.now in
    let rest : Continuation = c.get.result.now in
    let b = condition_of c.in-Some.guard.now in
    let first = code_of c.in-Some.first.now in
    let second = code_of c.in-Some.second.now in
    let well : IsWellSorted (sorts_in v) (rest_code rest) =
    subst (λ (r : Continuation). IsWellSorted (sorts_in v) (rest_code r)) (sym c.get.ensures) (c.requires.rests (copy_named c.args.copy)) in
    let chosen : rest_code rest ≡ If b first second (rest_after 1 (rest_code rest)) = c.in-Some.ensures in
    (subst (IsWellSorted (sorts_in v)) chosen well).0

pub both_facts-requires-clause-ready : goal.both_facts-requires-clause-ready
both_facts-requires-clause-ready c =
    subst (IsStoreReady (sorts_in c.args.table.now) (trees_in c.args.table.now)) (sym c.get-2.ensures)
    (c.requires.stores (copy_named c.args.copy))

pub returns-clause-opened : goal.returns-clause-opened
returns-clause-opened c =
    let v = c.args.table.now in
    let w = c.both_facts.new.table in
    let wider = widens_grown v w c.both_facts.ensures.grows in
    let st : SymState = c.args.state in
    let k = copy_named c.args.copy in
    let rest : Continuation = of_copy st.rests k in
    let store : SymStore = of_copy st.stores k in
    let b = condition_of c.in-Some.guard.now in
    let first = code_of c.in-Some.first.now in
    let second = code_of c.in-Some.second.now in
    let left = rest_after 1 (rest_code rest) in
    let got : c.get.result.now ≡ rest = c.get.ensures in
    let chosen : rest_code c.get.result.now ≡ If b first second (rest_after 1 (rest_code c.get.result.now)) = c.in-Some.ensures in
    let begins : rest_code rest ≡ If b first second left =
    subst (λ (r : Continuation). rest_code r ≡ If b first second (rest_after 1 (rest_code r))) got chosen in
    let well : IsWellSorted (sorts_in v) (If b first second left) = subst (IsWellSorted (sorts_in v)) begins (c.requires.rests k) in
    let of_store : c.get-2.result.now ≡ store = c.get-2.ensures in
    let fact = form_of b (store_in (trees_in v) store) in
    let fs : List Formula = c.in_ok-facts.facts.holds.list.items in
    let gs : List Formula = c.in_ok-facts.facts.fails.list.items in
    let holds : forms_in (sorts_in w) (trees_in w) fs ≡ fact ∷ [] =
    c.in_ok-facts.ensures.holds ∙ ap (λ (s : SymStore). form_of b (store_in (trees_in v) s) ∷ []) of_store in
    let fails : forms_in (sorts_in w) (trees_in w) gs ≡ negate fact ∷ [] =
    c.in_ok-facts.ensures.fails ∙ ap (λ (s : SymStore). negate (form_of b (store_in (trees_in v) s)) ∷ []) of_store in
    let one_next : SymState = c.enter_both.new.state in
    let two_next : SymState = c.in_ok-other.other in
    let one : IsBranch st one_next k (append first left) = c.in_ok-other.ensures.first in
    let two : IsBranch st two_next k (append second left) = c.in_ok-other.ensures.second in
    let o = c.in_ok-opened.opened in
    opening_states v w st _ o c.in_ok-opened.ensures.goals c.in_ok-opened.ensures.asking
    (c.in_ok-opened.ensures.ready (sorts_in w) (trees_in w)
    (branch_ready v w wider st one_next k (append first left) one c.requires (append_well (sorts_in v) first left well.1 well.3))
    c.in_ok-facts.ensures.ready_holds
    (branch_ready v w wider st two_next k (append second left) two c.requires (append_well (sorts_in v) second left well.2 well.3))
    c.in_ok-facts.ensures.ready_fails)
    (λ facts.
    let was = state_in (sorts_in v) (trees_in v) facts st in
    let p = branch_is v w wider st one_next k (append first left) one c.requires facts fs fact holds in
    let q = branch_is v w wider st two_next k (append second left) two c.requires facts gs (negate fact) fails in
    ap (λ (l : List State). Some (plan.follows l))
    (c.in_ok-opened.ensures.states (sorts_in w) (trees_in w) facts
    ∙ (λ i. p i ∷ q i ∷ []))
    ∙ fork_is was k (rest_code rest) b first second left begins)
