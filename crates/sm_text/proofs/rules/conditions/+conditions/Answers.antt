use Rattle.sm_text.proofs.Imports.{◌≤◌, ◌-◌, sym, ap, ◌∙◌, subst, arith, Result, List, err_from_is_err_and, Condition, Symbol, condition_of, Parses, Parser, chain_in, next_operand, connected_by}
use Rattle.sm_text.specs.rules.Parsers.{Fault}
use Rattle.sm_text.specs.rules.Reading as spec
use Rattle.sm_text.proofs.Sound.Loops.{leaves, condition_chain-is, inner_condition-none, inner_condition-some, inside-none, inside-fails, inside-followed, beside-reads, beside-fails, stood, unstood}
use Rattle.sm_text.proofs.Sound.Chained.{chain-begins, chain-refused, chain-turn, chain-fault, chain-end, next-none, next-some, next-room}
use Rattle.sm_text.proofs.rules.conditions.+conditions.Goals as goal

pub chained-returns-in_err-left : goal.chained-returns-in_err-left
chained-returns-in_err-left t c =
    leaves _ c.from_residual.result _ (err_from_is_err_and c.from_residual.result c.from_residual.ensures.1) _ _ c.in_err-left.ensures
    (λ f e. ap (λ (p : Parser Condition). p c.args.symbols.now)
    (condition_chain-is (spec.inner_condition c.args.groups) (spec.expression c.args.groups) c.args.chain) ∙ chain-refused _ _ _ f e)

pub chained-operators-init : goal.chained-operators-init
chained-operators-init t c =
    ap (λ (p : Parser Condition). p c.args.symbols.now)
    (condition_chain-is (spec.inner_condition c.args.groups) (spec.expression c.args.groups) c.args.chain)
    ∙ chain-begins _ _ _ _ _ c.in_ok-left.ensures

pub group-returns-then-groups-eq0 : goal.group-returns-then-groups-eq0
group-returns-then-groups-eq0 t c = rw c.refusal.ensures (inside-none _ _ _ (inner_condition-none _ c.if-groups-eq0.true))

pub group-returns-in_err-test : goal.group-returns-in_err-test
group-returns-in_err-test t c =
    leaves _ c.from_residual.result _ (err_from_is_err_and c.from_residual.result c.from_residual.ensures.1) _ _ c.in_err-test.ensures
    (λ f e. inside-fails _ _ _ _ (inner_condition-some _ c.if-groups-eq0.false) f
    (ap (spec.disjunction (spec.inner_condition (c.args.groups - 1)) (spec.expression (c.args.groups - 1))) (sym c.rest.ensures) ∙ e))

pub group-returns : goal.group-returns
group-returns t c = inside-followed condition_of _ _ _ _ _ _ c.followed.result (inner_condition-some _ c.if-groups-eq0.false)
    (ap (spec.disjunction (spec.inner_condition (c.args.groups - 1)) (spec.expression (c.args.groups - 1))) (sym c.rest.ensures)
    ∙ c.in_ok-test.ensures) c.followed.ensures.ok c.followed.ensures.err

pub next_operand-returns-then-room-eq0 : goal.next_operand-returns-then-room-eq0
next_operand-returns-then-room-eq0 t c = rw c.refusal.ensures (next-none (spec.condition_operand (spec.inner_condition c.args.groups) (spec.expression c.args.groups) c.args.chain) c.args.room c.args.symbols.now c.if-room-eq0.true)

pub next_operand-returns : goal.next_operand-returns
next_operand-returns t c =
    let operand = spec.condition_operand (spec.inner_condition c.args.groups) (spec.expression c.args.groups) c.args.chain in
    let Read : Result (Condition × List Symbol) Fault → Type 0 = λ r. Parses condition_of c.operand.result r in
    subst Read (ap operand c.rest.ensures ∙ sym (next-some operand c.args.room c.args.symbols.now c.if-room-eq0.false)) c.operand.ensures

pub chained-overflow_sub-room : goal.chained-overflow_sub-room
chained-overflow_sub-room t c =
    let operand = spec.condition_operand (spec.inner_condition c.args.groups) (spec.expression c.args.groups) c.args.chain in
    let some : 1 ≤ c.operators.room = next-room operand c.operators.room c.operators.after.now _
    (beside-reads condition_of c.next_operand.result (next_operand operand c.operators.room c.operators.after.now) _ _ c.next_operand.ensures
    c.in_ok-sides.ensures.ok.1) in
    omega (arith, some)

pub chained-operators-smaller : goal.chained-operators-smaller
chained-operators-smaller t c =
    let operand = spec.condition_operand (spec.inner_condition c.args.groups) (spec.expression c.args.groups) c.args.chain in
    let some : 1 ≤ c.operators.room = next-room operand c.operators.room c.operators.after.now _
    (beside-reads condition_of c.next_operand.result (next_operand operand c.operators.room c.operators.after.now) _ _ c.next_operand.ensures
    c.in_ok-sides.ensures.ok.1) in
    omega (arith, some)

pub chained-returns-in_err-sides : goal.chained-returns-in_err-sides
chained-returns-in_err-sides t c =
    leaves _ c.from_residual-in_err-sides.result _
    (err_from_is_err_and c.from_residual-in_err-sides.result c.from_residual-in_err-sides.ensures.1) _ _
    (beside-fails condition_of c.next_operand.result (next_operand (spec.condition_operand (spec.inner_condition c.args.groups) (spec.expression c.args.groups) c.args.chain) c.operators.room c.operators.after.now) _ c.next_operand.ensures c.in_err-sides.ensures.err)
    (λ f e. c.operators.invariant ∙ chain-fault (spec.condition_operators c.args.chain) (spec.condition_operand (spec.inner_condition c.args.groups) (spec.expression c.args.groups) c.args.chain) c.operators.room (condition_of c.operators.left) c.operators.after.now (connected_by c.args.chain)
    (stood (spec.condition_operators c.args.chain) (connected_by c.args.chain) c.first.ensures c.goes_on.ensures c.operators-test.true) f e)

pub chained-operators-preserved : goal.chained-operators-preserved
chained-operators-preserved t c =
    let operand = spec.condition_operand (spec.inner_condition c.args.groups) (spec.expression c.args.groups) c.args.chain in
    c.operators.invariant ∙ chain-turn (spec.condition_operators c.args.chain) operand c.operators.room (condition_of c.operators.left) c.operators.after.now (connected_by c.args.chain) (condition_of c.in_ok-sides.sides.1) c.in_ok-sides.behind.now
    (stood (spec.condition_operators c.args.chain) (connected_by c.args.chain) c.first.ensures c.goes_on.ensures c.operators-test.true)
    (beside-reads condition_of c.next_operand.result (next_operand operand c.operators.room c.operators.after.now) _ _ c.next_operand.ensures c.in_ok-sides.ensures.ok.1)
    ∙ ap (λ (b : Condition). chain_in (spec.condition_operators c.args.chain) operand (c.operators.room - 1) b c.in_ok-sides.behind.now)
    {x = connected_by c.args.chain (condition_of c.operators.left) (condition_of c.in_ok-sides.sides.1)}
    (cc (c.in_ok-left-2.ensures, c.in_ok-sides.ensures.ok.0))

pub chained-returns : goal.chained-returns
chained-returns t c =
    c.operators.invariant ∙ chain-end (spec.condition_operators c.args.chain) (spec.condition_operand (spec.inner_condition c.args.groups) (spec.expression c.args.groups) c.args.chain) c.operators.room (condition_of c.operators.left) c.operators.after.now
    (unstood (spec.condition_operators c.args.chain) (connected_by c.args.chain) c.first.ensures c.goes_on.ensures c.operators-test.false)
