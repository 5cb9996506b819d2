-- The states are those that the node opens.
use Rattle.sm_plan.proofs.Imports.{◌≡◌, Bool, true, List, [], ◌∷◌, Some, sym, ap, ◌∙◌, of_copy, Assertion, numbered, assertion_in, Formula, trees_in, sorts_in, BlockParts, State, inner_state, after_block_state, state_in}
use Rattle.sm_plan.specs.Nodes as plan
use Rattle.sm_plan.specs.Views.{SymState}
use Rattle.sm_plan.proofs.BlocksOpened.{inner_is, after_is, inner_ready, after_ready}
use Rattle.sm_plan.proofs.OpeningsMade.{opening_states}
use Rattle.sm_plan.proofs.blocks.open_block.Goals as goal

pub returns-clause-opening : goal.returns-clause-opening
returns-clause-opening c =
    let u = c.args.table.now in
    let w = c.block_parts.new.table in
    let wider = c.block_parts.ensures.widens in
    let st : SymState = c.args.state in
    let k = c.args.number in
    let keep : Formula = c.args.keep.now in
    let form : Assertion = assertion_in (sorts_in u) (trees_in u) (numbered keep) in
    let counts = of_copy c.args.counts.now in
    let made : BlockParts = c.in_ok-made.made in
    let is = c.in_ok-made.ensures.made in
    let good = c.in_ok-made.ensures.ready in
    let left = c.pass.new.rests in
    let passes : c.may_pass.result ≡ true = c.if-not-may_pass.false in
    let test = sym (c.may_pass.ensures (sorts_in u) (trees_in u)) ∙ passes in
    let o = c.in_ok-block_states.field-0 in
    opening_states u w st _ o c.in_ok-block_states.ensures.goals c.in_ok-block_states.ensures.asking
    (c.in_ok-block_states.ensures.ready (sorts_in w) (trees_in w)
    (inner_ready u w wider k st counts keep made is good left c.pass.ensures c.requires.state)
    (after_ready u w wider k st counts keep made is good left c.pass.ensures c.requires.state) good.kept)
    (λ (facts : List Assertion).
    let old : State = state_in (sorts_in u) (trees_in u) facts st in
    let want = plan.follows (inner_state old counts form ∷ after_block_state old k counts form ∷ []) in
    ap (λ (l : List State). Some (plan.follows l))
    (c.in_ok-block_states.ensures.states (sorts_in w) (trees_in w) facts
    ∙ (λ i. inner_is u w wider k st counts keep made is good left c.pass.ensures c.requires.state facts i
    ∷ after_is u w wider k st counts keep made is good left c.pass.ensures c.requires.state facts i ∷ []))
    ∙ sym (ap (λ (b : Bool). plan.where_true b want) test))
