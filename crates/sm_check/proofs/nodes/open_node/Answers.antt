-- What a line opens, or why it doesn't.
use Rattle.sm_check.proofs.Imports.{◌≡◌, Option, Some, None, Ok, refl, sym, ap, ◌∙◌, subst, Formula, Assertion, trees_in, sorts_in, opened_by, IsFormReady, state_in, opened_in, node_head, Deep, First, keep_of, node_with, KeepsOrFails, Tells}
use Rattle.std.specs.Prelude.{IfSome, option_map}
use Rattle.sm_check.specs.NodesTaken.{OpensAs}
use Rattle.sm_check.proofs.NodesLemmas.{kept_there, named_kept, deep_told, unfit_told, opened_told, tells_word, tells_fault}
use Rattle.sm_check.proofs.nodes.open_node.Goals as goal

pub returns-in-None-clause-tells : goal.returns-in-None-clause-tells
returns-in-None-clause-tells c = λ forms facts stand.
    let line = c.args.line.now in
    let sorts = sorts_in c.args.table.now in
    let trees = trees_in c.args.table.now in
    let st = state_in sorts trees facts c.args.state in
    let k = kept_there c.args.rows.now forms (keep_of line) stand.count c.if-not-is_there.ensures in
    tells_word (OpensAs sorts trees facts) Deep _
    (deep_told forms c.args.number st c.args.above line (node_with k.0 line) (named_kept forms k.0 line k.1) (c.in-None.ensures k.0))

pub returns-in-None-2-clause-tells : goal.returns-in-None-2-clause-tells
returns-in-None-2-clause-tells c = λ forms facts stand.
    let line = c.args.line.now in
    let sorts = sorts_in c.args.table.now in
    let trees = trees_in c.args.table.now in
    let st = state_in sorts trees facts c.args.state in
    let k = kept_there c.args.rows.now forms (keep_of line) stand.count c.if-not-is_there.ensures in
    let fails = subst (KeepsOrFails sorts trees line k.0) c.in-None-2.is (c.in_ok-keep.ensures.made sorts trees forms k.0 stand k.1) in
    tells_fault (OpensAs sorts trees facts) (First (node_head line)) c.unfit.result _ c.unfit.ensures
    (unfit_told forms c.args.number st c.args.above line (node_with k.0 line) (named_kept forms k.0 line k.1) (c.in-Some.ensures k.0).1
    (fails c.args.number st))

pub open-requires-clause-node : goal.open-requires-clause-node
open-requires-clause-node c =
    let sorts = sorts_in c.args.table.now in
    let trees = trees_in c.args.table.now in
    c.node_row-node.ensures.ready sorts trees
    (subst (λ (o : Option Formula). IfSome o (IsFormReady sorts trees)) c.in-Some-2.is
    (c.in_ok-keep.ensures.ready sorts trees c.len.ensures.sorted c.requires.rows))

pub returns-in-Some-3-clause-tells : goal.returns-in-Some-3-clause-tells
returns-in-Some-3-clause-tells c = λ forms facts stand.
    let line = c.args.line.now in
    let sorts = sorts_in c.args.table.now in
    let trees = trees_in c.args.table.now in
    let st = state_in sorts trees facts c.args.state in
    let later = opened_in (sorts_in c.open.new.table) (trees_in c.open.new.table) facts in
    let k = kept_there c.args.rows.now forms (keep_of line) stand.count c.if-not-is_there.ensures in
    let made = subst (KeepsOrFails sorts trees line k.0) c.in-Some-2.is (c.in_ok-keep.ensures.made sorts trees forms k.0 stand k.1) in
    let node = c.node_row-node.ensures.node sorts trees ∙ ap (λ (f : Assertion). node_with f line) made in
    let opened : opened_by c.args.number st (node_with k.0 line) ≡ Some (later c.in-Some-3.opened) =
    sym (ap (opened_by c.args.number st) node) ∙ sym (c.in_ok-opened.ensures.opened facts) ∙ ap (option_map later) c.in-Some-3.is in
    let above = c.in-Some.ensures k.0 in
    subst (Tells (OpensAs (sorts_in c.open.new.table) (trees_in c.open.new.table) facts) (Ok (c.in-Some-3.opened, c.in-Some.over)))
    (sym (opened_told forms c.args.number st c.args.above line (node_with k.0 line) (named_kept forms k.0 line k.1) (later c.in-Some-3.opened)
    above.1 opened))
    (refl, above.0)

pub returns-clause-tells : goal.returns-clause-tells
returns-clause-tells c = λ forms facts stand.
    let line = c.args.line.now in
    let sorts = sorts_in c.args.table.now in
    let trees = trees_in c.args.table.now in
    let st = state_in sorts trees facts c.args.state in
    let later = opened_in (sorts_in c.open.new.table) (trees_in c.open.new.table) facts in
    let k = kept_there c.args.rows.now forms (keep_of line) stand.count c.if-not-is_there.ensures in
    let made = subst (KeepsOrFails sorts trees line k.0) c.in-Some-2.is (c.in_ok-keep.ensures.made sorts trees forms k.0 stand k.1) in
    let node = c.node_row-node.ensures.node sorts trees ∙ ap (λ (f : Assertion). node_with f line) made in
    let opened : opened_by c.args.number st (node_with k.0 line) ≡ None =
    sym (ap (opened_by c.args.number st) node) ∙ sym (c.in_ok-opened.ensures.opened facts) ∙ ap (option_map later) c.in-None-3.is in
    tells_fault (OpensAs sorts trees facts) (First (node_head line)) c.unfit-in-None-3.result _ c.unfit-in-None-3.ensures
    (unfit_told forms c.args.number st c.args.above line (node_with k.0 line) (named_kept forms k.0 line k.1) (c.in-Some.ensures k.0).1 opened)
