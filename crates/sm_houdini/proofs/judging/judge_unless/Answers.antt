use Rattle.sm_houdini.proofs.Imports.{◌≡◌, ◌&&◌, ◌||◌, ℕ, Bool, ◌≤◌, sym, ap, ◌∙◌, subst, OnOk, trees_in, sorts_in, due_in, stays_at, owner_in, all_marked, rows}
use Rattle.sm_houdini.proofs.MarkedLemmas.{all_same}
use Rattle.sm_houdini.proofs.NodeLemmas.{with_true}
use Rattle.sm_houdini.proofs.judging.judge_unless.Goals as goal

pub returns-then-is_left-clause-judged : goal.returns-then-is_left-clause-judged
returns-then-is_left-clause-judged c = λ passes choice e.
    let stays = stays_at (sorts_in c.args.table.now) c.args.round.now.reach (owner_in c.args.round.now.owners.now)
    (due_in (sorts_in c.args.table.now) (trees_in c.args.table.now) c.args.due.now) in
    e
    ∙ all_same passes (λ (s i : ℕ). passes s i && (c.args.is_left || stays s i)) 0 choice
    (λ (s i : ℕ) (l : 0 ≤ s).
    with_true (passes s i) ∙ sym (ap (λ (b : Bool). passes s i && (b || stays s i)) c.if-is_left.true))

pub returns-clause-judged : goal.returns-clause-judged
returns-clause-judged c = λ passes choice e.
    let stays = stays_at (sorts_in c.args.table.now) c.args.round.now.reach (owner_in c.args.round.now.owners.now)
    (due_in (sorts_in c.args.table.now) (trees_in c.args.table.now) c.args.due.now) in
    subst (λ (b : Bool). OnOk c.judge.result (rows c.judge.new.marks.sites.items ≡ all_marked (λ (s i : ℕ). passes s i && (b || stays s i)) 0 choice))
    (sym c.if-is_left.false) (c.judge.ensures.judged passes choice e)
