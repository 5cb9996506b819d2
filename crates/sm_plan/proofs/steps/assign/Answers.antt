-- The list has the term at the name.
use Rattle.sm_plan.proofs.Imports.{Num, expression_of, store_in, trees_in, sorts_in, named_declared}
use Rattle.sm_term.specs.Symbolic as symbolic
use Rattle.sm_plan.proofs.StoresSet.{store_written, within_written}
use Rattle.sm_plan.proofs.steps.assign.Goals as goal

pub returns-clause-made : goal.returns-clause-made
returns-clause-made c =
    let v = c.args.table.now in
    let w = c.term_of.new.table in
    let s = c.args.store.now in
    let x = c.args.x.0 in
    let t = symbolic.term_of (expression_of c.args.e.now) (store_in (trees_in v) s) in
    let here = c.requires.full x (named_declared (sorts_in v) x Num c.requires.name) in
    store_written v w c.term_of.ensures.grows s c.put.new.store x c.in_ok-t.t t c.requires.ready.0 here c.put.ensures c.in_ok-t.ensures.made

pub returns-clause-within : goal.returns-clause-within
returns-clause-within c =
    let v = c.args.table.now in
    let w = c.term_of.new.table in
    let s = c.args.store.now in
    let t = symbolic.term_of (expression_of c.args.e.now) (store_in (trees_in v) s) in
    within_written v w c.term_of.ensures.grows s c.put.new.store c.args.x.0 c.in_ok-t.t t c.requires.ready.0 c.put.ensures
    c.in_ok-t.ensures.made
