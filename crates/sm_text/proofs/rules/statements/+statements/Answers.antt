use Rattle.sm_text.proofs.Imports.{◌-◌, Ok, refl, sym, ap, ◌∙◌, fun_ext, err_from_is_err_and, Code, condition_of, code_of, statement_of-If, statement_of-While, statements_before}
use Rattle.sm_text.specs.rules.Reading as spec
use Rattle.sm_text.proofs.Sound.Gathered.{gather-turn, gather-end, gather-fault}
use Rattle.sm_text.proofs.Sound.Loops.{tested, leaves, front-push, statement-shorter, inner_block-none, inner_block-some, inside-none, inside-fails, inside-followed, beside-reads, beside-fails, read-as}
use Rattle.sm_text.proofs.rules.statements.+statements.Goals as goal

pub statements-returns-in_err-one : goal.statements-returns-in_err-one
unfolding spec.more_statements
statements-returns-in_err-one t c =
    leaves _ c.from_residual.result _ (err_from_is_err_and c.from_residual.result c.from_residual.ensures.1) _ _ c.in_err-one.ensures
    (λ f e. c.statements.invariant ∙ gather-fault spec.begins_statement (spec.statement c.args.groups (spec.block c.args.groups))
    spec.with_statement _ _ f (tested spec.begins_statement c.first.ensures c.begins_statement.ensures c.statements-test.true) e)

pub statements-statements-smaller : goal.statements-statements-smaller
statements-statements-smaller t c = statement-shorter _ c.requires _ _ _ c.in_ok-one.ensures

pub statements-statements-preserved : goal.statements-statements-preserved
unfolding spec.more_statements
statements-statements-preserved t c =
    c.statements.invariant ∙ gather-turn spec.begins_statement (spec.statement c.args.groups (spec.block c.args.groups)) spec.with_statement
    (statement-shorter _ c.requires) _ _ _ _
    (tested spec.begins_statement c.first.ensures c.begins_statement.ensures c.statements-test.true) c.in_ok-one.ensures
    ∙ ap (λ front. spec.more_statements c.args.groups (spec.block c.args.groups) front c.in_ok-one.behind.now)
    (sym (ap statements_before c.in_ok-push.ensures.items ∙ front-push _ _))

pub statements-returns : goal.statements-returns
unfolding spec.more_statements
statements-returns t c =
    c.statements.invariant ∙ gather-end spec.begins_statement (spec.statement c.args.groups (spec.block c.args.groups)) spec.with_statement
    _ _ (tested spec.begins_statement c.first.ensures c.begins_statement.ensures c.statements-test.false)

pub group-returns-then-groups-eq0 : goal.group-returns-then-groups-eq0
group-returns-then-groups-eq0 t c = rw c.refusal.ensures (inside-none _ _ _ (inner_block-none _ c.if-groups-eq0.true))

pub group-returns-in_err-body : goal.group-returns-in_err-body
group-returns-in_err-body t c =
    leaves _ c.from_residual.result _ (err_from_is_err_and c.from_residual.result c.from_residual.ensures.1) _ _ c.in_err-body.ensures
    (λ f e. inside-fails _ _ _ _ (inner_block-some _ c.if-groups-eq0.false) f
    (ap (spec.statements (c.args.groups - 1) (spec.block (c.args.groups - 1))) (sym c.rest.ensures) ∙ e))

pub group-returns : goal.group-returns
group-returns t c = inside-followed code_of _ _ _ _ _ _ c.followed.result (inner_block-some _ c.if-groups-eq0.false)
    (ap (spec.statements (c.args.groups - 1) (spec.block (c.args.groups - 1))) (sym c.rest.ensures) ∙ c.in_ok-body.ensures)
    c.followed.ensures.ok c.followed.ensures.err

pub branch-returns-in_err-first : goal.branch-returns-in_err-first
unfolding spec.branch
branch-returns-in_err-first t c =
    leaves _ c.from_residual-in_err-first.result _
    (err_from_is_err_and c.from_residual-in_err-first.result c.from_residual-in_err-first.ensures.1) _ _
    (beside-fails code_of c.block.result _ _ c.block.ensures c.in_err-first.ensures.err) (λ f e. rw (c.in_ok-test.ensures, e) refl)

pub branch-returns-in_err-front : goal.branch-returns-in_err-front
unfolding spec.branch
branch-returns-in_err-front t c =
    let yes = beside-reads code_of c.block.result _ _ _ c.block.ensures c.in_ok-first.ensures.ok.1 in
    leaves _ c.from_residual-in_err-front.result _
    (err_from_is_err_and c.from_residual-in_err-front.result c.from_residual-in_err-front.ensures.1) _ _
    c.in_err-front.ensures.err (λ f e. rw (c.in_ok-test.ensures, yes, e) refl)

pub branch-returns-in_err-parts : goal.branch-returns-in_err-parts
unfolding spec.branch
branch-returns-in_err-parts t c =
    let yes = beside-reads code_of c.block.result _ _ _ c.block.ensures c.in_ok-first.ensures.ok.1 in
    leaves _ c.from_residual-in_err-parts.result _
    (err_from_is_err_and c.from_residual-in_err-parts.result c.from_residual-in_err-parts.ensures.1) _ _
    (beside-fails code_of c.block-2.result _ _ c.block-2.ensures c.in_err-parts.ensures.err)
    (λ f e. rw (c.in_ok-test.ensures, yes, c.in_ok-front.ensures.ok.1, e) refl)

pub branch-returns : goal.branch-returns
unfolding spec.branch
branch-returns t c =
    let same = c.in_ok-parts.ensures.ok.0 ∙ c.in_ok-front.ensures.ok.0 in
    let test = read-as condition_of _ _ _ _ c.in_ok-test.ensures (sym (ap (λ p. p.0) same ∙ c.in_ok-first.ensures.ok.0)) in
    let yes = read-as code_of _ _ _ _ (beside-reads code_of c.block.result _ _ _ c.block.ensures c.in_ok-first.ensures.ok.1)
    (sym (ap (λ p. p.1) same)) in
    let no = beside-reads code_of c.block-2.result _ _ _ c.block-2.ensures c.in_ok-parts.ensures.ok.1 in
    rw (test, yes, c.in_ok-front.ensures.ok.1, no)
    (ap (λ (s : Code → Code). Ok (s, c.in_ok-parts.after.now)) (sym (fun_ext (statement_of-If _ _ _))))

pub repeated-returns-in_err-parts : goal.repeated-returns-in_err-parts
unfolding spec.repeated
repeated-returns-in_err-parts t c =
    leaves _ c.from_residual-in_err-parts.result _
    (err_from_is_err_and c.from_residual-in_err-parts.result c.from_residual-in_err-parts.ensures.1) _ _
    (beside-fails code_of c.block.result _ _ c.block.ensures c.in_err-parts.ensures.err) (λ f e. rw (c.in_ok-test.ensures, e) refl)

pub repeated-returns : goal.repeated-returns
unfolding spec.repeated
repeated-returns t c =
    let test = read-as condition_of _ _ _ _ c.in_ok-test.ensures (sym c.in_ok-parts.ensures.ok.0) in
    let body = beside-reads code_of c.block.result _ _ _ c.block.ensures c.in_ok-parts.ensures.ok.1 in
    rw (test, body) (ap (λ (s : Code → Code). Ok (s, c.in_ok-parts.after.now)) (sym (fun_ext (statement_of-While _ _))))
