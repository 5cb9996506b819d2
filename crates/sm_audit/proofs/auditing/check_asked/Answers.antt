-- What was found over the tables on the way is so over the last one.
use Rattle.sm_audit.proofs.Imports.{◌≡◌, ℕ, Option, List, Ok, length, map, sym, ap, ◌∙◌, subst, task_of, trees_in, sorts_in, parts_of, NodeRow, obligations, start_state, widens_twice, AreDuesReady, dues_in, numbered_plan, plan_in, dues_ready, dues_stay, plan_ready, plan_stays, plan_states, all_goals, AreGoalsFit, AreRowsKnown, AreSince}
use Rattle.sm_plan.specs.Plans.{Plan}
use Rattle.sm_plan.specs.Plans as plain
use Rattle.sm_expand.specs.declared.due.Due.{Due}
use Rattle.sm_audit.proofs.FitLemmas.{goals_within}
use Rattle.sm_audit.proofs.WholeLemmas.{found_writable, if_found, if_both_found}
use Rattle.sm_audit.proofs.auditing.check_asked.Goals as goal

pub walk-requires-clause-declared : goal.walk-requires-clause-declared
walk-requires-clause-declared c = c.in_ok-dues.ensures.widens.sorts ∙ c.requires.declared

pub walk-requires-clause-plan : goal.walk-requires-clause-plan
walk-requires-clause-plan c =
    plan_ready c.args.table.now c.dues_of.new.table c.in_ok-dues.ensures.widens (numbered_plan c.args.plan.now) c.requires.plan

pub check_noted-requires : goal.check_noted-requires
check_noted-requires c =
    let w = c.walk.new.table in
    subst (AreDuesReady (sorts_in w) (trees_in w)) (sym c.as_slice-3.ensures.value)
    (dues_ready c.dues_of.new.table w c.in_ok-since.ensures.widens c.in_ok-dues.dues.list.items c.in_ok-dues.ensures.ready)

pub returns-in_err-since-clause-widens : goal.returns-in_err-since-clause-widens
returns-in_err-since-clause-widens c =
    widens_twice c.args.table.now c.dues_of.new.table c.walk.new.table c.in_ok-dues.ensures.widens c.in_err-since.ensures.widens

pub returns-clause-widens : goal.returns-clause-widens
returns-clause-widens c =
    widens_twice c.args.table.now c.dues_of.new.table c.walk.new.table c.in_ok-dues.ensures.widens c.in_ok-since.ensures.widens

pub returns-clause-trees : goal.returns-clause-trees
returns-clause-trees c =
    let w = c.walk.new.table in
    let t = task_of (parts_of c.args.task.now) in
    let states = plan_states 0 (start_state t) (plan_in (sorts_in c.dues_of.new.table) (trees_in c.dues_of.new.table) c.args.plan.now) in
    let all : AreSince (sorts_in w) states (trees_in w) c.as_slice.result.now =
    subst (AreSince (sorts_in w) states (trees_in w)) (sym c.as_slice.ensures.value) c.in_ok-since.ensures.since in
    if_found c.check_noted.result
    (goals_within (sorts_in w) states (trees_in w) (all_goals (dues_in (sorts_in w) (trees_in w) c.as_slice-3.result.now)) c.args.trees.now)
    (c.check_noted.ensures.fit states all)

pub returns-clause-writable : goal.returns-clause-writable
returns-clause-writable c =
    let u = c.args.table.now in
    let v = c.dues_of.new.table in
    let w = c.walk.new.table in
    let sorts = sorts_in w in
    let terms = trees_in w in
    let wider = c.in_ok-since.ensures.widens in
    let first = c.in_ok-dues.ensures.widens in
    let p = c.args.plan.now in
    let t = task_of (parts_of c.args.task.now) in
    let mid = plan_ready u v first (numbered_plan p) c.requires.plan in
    let last : plan_in (sorts_in v) (trees_in v) p ≡ plan_in sorts terms p = sym (plan_stays v w wider (numbered_plan p) mid) in
    let whole : plan_in (sorts_in u) (trees_in u) p ≡ plan_in sorts terms p =
    sym (plan_stays u w (widens_twice u v w first wider) (numbered_plan p) c.requires.plan) in
    let ds = c.in_ok-dues.dues.list.items in
    let asks : obligations t (plan_in sorts terms p) ≡ Ok (dues_in sorts terms ds) =
    ap (obligations t) (sym whole) ∙ c.in_ok-dues.ensures.asked
    ∙ ap (λ (x : List plain.Due). Ok x) (sym (dues_stay v w wider ds c.in_ok-dues.ensures.ready)) in
    let states = plan_states 0 (start_state t) (plan_in sorts terms p) in
    let since = c.in_ok-since.since.items in
    let rows = c.in_ok-since.rows.items in
    let all : AreSince sorts states terms since =
    subst (λ (q : Plan). AreSince sorts (plan_states 0 (start_state t) q) terms since) last c.in_ok-since.ensures.since in
    if_both_found c.check_noted.result
    (λ (known : AreRowsKnown c.as_slice.result.now 0 c.as_slice-2.result.now)
    (fit : AreGoalsFit sorts states terms (all_goals (dues_in sorts terms c.as_slice-3.result.now)) c.args.trees.now).
    found_writable (parts_of c.args.task.now) sorts terms (plan_in sorts terms p) rows since (dues_in sorts terms ds) c.args.trees.now
    (wider.sorts ∙ first.sorts ∙ c.requires.declared) asks (c.in_ok-since.ensures.rows sorts terms) all
    (subst (λ (s : List (Option ℕ)). AreRowsKnown s 0 rows) c.as_slice.ensures.value
    (subst (AreRowsKnown c.as_slice.result.now 0) c.as_slice-2.ensures.value known))
    (subst (λ (xs : List Due). AreGoalsFit sorts states terms (all_goals (dues_in sorts terms xs)) c.args.trees.now)
    c.as_slice-3.ensures.value fit))
    c.check_noted.ensures.known
    (c.check_noted.ensures.fit states (subst (AreSince sorts states terms) (sym c.as_slice.ensures.value) all))
