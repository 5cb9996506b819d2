-- A node that has no row, opens nothing, or opens other states than it has plans for.
use Rattle.sm_expand.proofs.Imports.{rules, ◌≡◌, Some, None, length, sym, ap, ◌∙◌, length-map, option_map, trees_in, sorts_in, opened_by, state_in, opened_in, successor_in, node_over, head, numbered_at}
use Rattle.sm_expand.proofs.NodeOpened.{head_ready, none_opened, no_row, other_states}
use Rattle.sm_expand.proofs.nodes.open_with.Goals as goal

pub returns-in-None-clause-err : goal.returns-in-None-clause-err
returns-in-None-clause-err c = λ facts.
    let sorts = sorts_in c.args.table.now in
    let trees = trees_in c.args.table.now in
    no_row sorts trees c.args.number (state_in sorts trees facts c.args.state) (numbered_at c.args.cursor.now) c.rule_at.result
    (c.rule_at.ensures sorts trees) (c.in-None.ensures.row sorts trees)

pub open-requires-clause-node : goal.open-requires-clause-node
open-requires-clause-node c =
    let sorts = sorts_in c.args.table.now in
    let trees = trees_in c.args.table.now in
    c.in-Some.ensures.ready sorts trees (head_ready sorts trees (numbered_at c.args.cursor.now) c.requires.plan)

pub returns-in-None-2-clause-err : goal.returns-in-None-2-clause-err
returns-in-None-2-clause-err c = λ facts.
    let sorts = sorts_in c.args.table.now in
    let trees = trees_in c.args.table.now in
    let st = state_in sorts trees facts c.args.state in
    let n = numbered_at c.args.cursor.now in
    let later = opened_in (sorts_in c.open.new.table) (trees_in c.open.new.table) facts in
    let nothing : opened_by c.args.number st (node_over sorts trees (head n)) ≡ None =
    ap (opened_by c.args.number st) (c.in-Some.ensures.row sorts trees) ∙ sym (c.in_ok-opened.ensures.opened facts)
    ∙ ap (option_map later) c.in-None-2.is in
    none_opened sorts trees c.args.number st n c.rule_at.result (c.rule_at.ensures sorts trees) nothing

pub returns-clause-err : goal.returns-clause-err
returns-clause-err c = λ facts.
    let sorts = sorts_in c.args.table.now in
    let trees = trees_in c.args.table.now in
    let st = state_in sorts trees facts c.args.state in
    let n = numbered_at c.args.cursor.now in
    let later = opened_in (sorts_in c.open.new.table) (trees_in c.open.new.table) facts in
    let o = c.in-Some-2.opened in
    let opens : opened_by c.args.number st (node_over sorts trees (head n)) ≡ Some (later o) =
    ap (opened_by c.args.number st) (c.in-Some.ensures.row sorts trees) ∙ sym (c.in_ok-opened.ensures.opened facts)
    ∙ ap (option_map later) c.in-Some-2.is in
    let cs = c.in_ok-cursors.cursors in
    let states : c.len-2.result ≡ length o.states.items = search (rules, o.states.ok) in
    let places : c.len.result ≡ length cs.items = search (rules, cs.ok) in
    other_states sorts trees c.args.number st n c.rule_at.result (c.rule_at.ensures sorts trees) (later o) cs.items c.len-2.result opens
    c.in_ok-cursors.ensures
    (length-map o.states.items (successor_in (sorts_in c.open.new.table) (trees_in c.open.new.table) facts) ∙ sym states)
    (λ same. c.if-len.false (places ∙ same))
