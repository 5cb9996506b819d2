-- What a node asks, and the states that follow it.
use Rattle.sm_expand.proofs.Imports.{◌≡◌, ℕ, suc, ◌∷◌, ◌++◌, take, reverse, sym, ap, ◌∙◌, subst, arith, Vec, Global, trees_in, sorts_in, Formulas, AreFormsReady, forms_in, Opened, forms_ready, PlanFault, FaultTells, outcome, waits_with}
use Rattle.sm_expand.specs.declared.cursor.Cursor.{Cursor}
use Rattle.sm_expand.proofs.NodeTaken.{IsPathOf, taken, taken_ready, taken_fewer, fails, err_is}
use Rattle.sm_expand.proofs.PlansWiden.{dues_ready}
use Rattle.sm_expand.proofs.nodes.take_node.Goals as goal

pub returns-in_err-opened-clause-err : goal.returns-in_err-opened-clause-err
returns-in_err-opened-clause-err c =
    let v = c.args.table.now in
    let next = c.args.next in
    let path = c.args.walk.now.path.list.items in
    let more = c.enter.new.path.list.items in
    let path_is : IsPathOf path next more = λ sorts trees.
    c.in_ok-enter.ensures.path sorts trees
    ∙ ap (λ (fs : Formulas). take next.shared (forms_in sorts trees path)
    ++ (forms_in sorts trees fs.list.items ++ forms_in sorts trees next.more.list.items)) c.as_ref.ensures in
    let dues = c.args.walk.now.dues.items in
    let ws = reverse c.args.walk.now.waiting.items in
    let x = c.in_err-opened.field-0.0 in
    err_is (λ (e : PlanFault). FaultTells e (outcome v dues c.args.walk.now.nodes path (next ∷ ws))) c.from_residual-in_err-opened.result x
    c.from_residual-in_err-opened.ensures.1
    (fails x v c.args.walk.now.nodes next path more dues ws path_is (c.in_err-opened.ensures.err (forms_in (sorts_in v) (trees_in v) more)))

pub returns-clause-ok : goal.returns-clause-ok
returns-clause-ok c =
    let v = c.args.table.now in
    let w = c.open_at.new.table in
    let next = c.args.next in
    let path = c.args.walk.now.path.list.items in
    let more = c.enter.new.path.list.items in
    let path_is : IsPathOf path next more = λ sorts trees.
    c.in_ok-enter.ensures.path sorts trees
    ∙ ap (λ (fs : Formulas). take next.shared (forms_in sorts trees path)
    ++ (forms_in sorts trees fs.list.items ++ forms_in sorts trees next.more.list.items)) c.as_ref.ensures in
    let kept = subst (λ (fs : Formulas). AreFormsReady (sorts_in v) (trees_in v) fs.list.items)
    (sym c.as_ref.ensures) c.requires.waiting.0.kept in
    let forms = c.in_ok-enter.ensures.ready (sorts_in v) (trees_in v) c.requires.facts kept c.requires.waiting.0.more in
    let o : Opened × Vec Cursor Global = (c.in_ok-opened.opened, c.in_ok-opened.cursors) in
    let dues = c.args.walk.now.dues.items in
    let ws = reverse c.args.walk.now.waiting.items in
    let new = reverse c.put_states.new.waiting.items in
    let k = c.args.walk.now.nodes in
    let waits = c.in_ok-put_states.ensures
    ∙ ap (λ (n : ℕ). waits_with n c.in_ok-opened.opened.states.items c.in_ok-opened.cursors.items ++ ws) (c.len-shared.ensures
    ∙ c.enter.new.path.list.ok.0) in
    let count : suc k ≡ c.in_ok-walk.field-0 = let e = c.in_ok-walk.ensures.ok in omega arith in
    taken v w c.in_ok-opened.ensures.widens k next path more dues c.put_due.new.dues.items ws new o
    c.asks_final-last.result c.requires path_is forms
    c.in_ok-opened.ensures.ok (c.asks_final-last.ensures (sorts_in v) (trees_in v)) (c.in_ok-put_due.ensures.put (sorts_in w)
    (trees_in w)) waits
    ∙ ap (λ (n : ℕ). outcome w c.put_due.new.dues.items n more new) count

pub returns-clause-ready : goal.returns-clause-ready
returns-clause-ready c =
    let v = c.args.table.now in
    let w = c.open_at.new.table in
    let next = c.args.next in
    let path = c.args.walk.now.path.list.items in
    let more = c.enter.new.path.list.items in
    let path_is : IsPathOf path next more = λ sorts trees.
    c.in_ok-enter.ensures.path sorts trees
    ∙ ap (λ (fs : Formulas). take next.shared (forms_in sorts trees path)
    ++ (forms_in sorts trees fs.list.items ++ forms_in sorts trees next.more.list.items)) c.as_ref.ensures in
    let kept = subst (λ (fs : Formulas). AreFormsReady (sorts_in v) (trees_in v) fs.list.items)
    (sym c.as_ref.ensures) c.requires.waiting.0.kept in
    let forms = c.in_ok-enter.ensures.ready (sorts_in v) (trees_in v) c.requires.facts kept c.requires.waiting.0.more in
    let o : Opened × Vec Cursor Global = (c.in_ok-opened.opened, c.in_ok-opened.cursors) in
    let dues = c.args.walk.now.dues.items in
    let ws = reverse c.args.walk.now.waiting.items in
    let new = reverse c.put_states.new.waiting.items in
    let wider = c.in_ok-opened.ensures.widens in
    let waits = c.in_ok-put_states.ensures
    ∙ ap (λ (n : ℕ). waits_with n c.in_ok-opened.opened.states.items c.in_ok-opened.cursors.items ++ ws) (c.len-shared.ensures
    ∙ c.enter.new.path.list.ok.0) in
    let asked = c.in_ok-put_due.ensures.ready (sorts_in w) (trees_in w) (forms_ready v w wider more forms) c.in_ok-opened.ensures.ok.goals
    (dues_ready v w wider dues c.requires.asked) in
    taken_ready v w wider c.args.walk.now.nodes next path more dues c.put_due.new.dues.items ws new o c.requires path_is forms
    c.in_ok-opened.ensures.ok asked waits

pub returns-clause-fewer : goal.returns-clause-fewer
returns-clause-fewer c =
    taken_fewer c.args.table.now c.open_at.new.table c.in_ok-opened.ensures.widens c.args.walk.now.nodes c.len-shared.result c.args.next
    (reverse c.args.walk.now.waiting.items) (reverse c.put_states.new.waiting.items) (c.in_ok-opened.opened, c.in_ok-opened.cursors)
    c.in_ok-opened.ensures.ok c.in_ok-put_states.ensures
