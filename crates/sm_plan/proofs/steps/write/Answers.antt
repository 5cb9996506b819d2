-- The write is made of the array's term and of those of the index and the value.
use Rattle.sm_plan.proofs.Imports.{Some, ap, ◌∙◌, Arr, expression_of, term_of, store_in, trees_in, sorts_in, grows-twice, named_declared, within_more, sorted_more}
use Rattle.sm_term.specs.Terms.{Write}
use Rattle.sm_plan.proofs.ElementWritten.{element_within, element_fits, element_tree}
use Rattle.sm_plan.proofs.StoresSet.{store_written, within_written}
use Rattle.sm_plan.proofs.steps.write.Goals as goal

pub term_of-requires-2-clause-within : goal.term_of-requires-2-clause-within
term_of-requires-2-clause-within c = within_more c.args.table.now c.term_of.new.table c.term_of.ensures.grows c.args.store.now
    c.requires.ready.0

pub term_of-requires-2-clause-store : goal.term_of-requires-2-clause-store
term_of-requires-2-clause-store c = sorted_more c.args.table.now c.term_of.new.table c.term_of.ensures.grows c.args.store.now
    c.requires.ready.0 c.requires.ready.1

pub made-requires-clause-within : goal.made-requires-clause-within
made-requires-clause-within c =
    element_within c.args.table.now c.term_of.new.table c.term_of-2.new.table c.term_of.ensures.grows c.term_of-2.ensures.grows
    c.args.store.now c.requires.ready c.args.a.0
    (expression_of c.args.i.now) (expression_of c.args.e.now) c.requires.name
    (c.requires.full c.args.a.0 (named_declared (sorts_in c.args.table.now) c.args.a.0 Arr c.requires.name))
    c.requires.index c.requires.value c.index-array.result.now c.in_ok-index.index c.in_ok-value.value c.index-array.ensures
    c.in_ok-index.ensures.made c.in_ok-value.ensures.made

pub made-requires-clause-fits : goal.made-requires-clause-fits
made-requires-clause-fits c =
    element_fits c.args.table.now c.term_of.new.table c.term_of-2.new.table c.term_of.ensures.grows c.term_of-2.ensures.grows
    c.args.store.now c.requires.ready c.args.a.0
    (expression_of c.args.i.now) (expression_of c.args.e.now) c.requires.name
    (c.requires.full c.args.a.0 (named_declared (sorts_in c.args.table.now) c.args.a.0 Arr c.requires.name))
    c.requires.index c.requires.value c.index-array.result.now c.in_ok-index.index c.in_ok-value.value c.index-array.ensures
    c.in_ok-index.ensures.made c.in_ok-value.ensures.made

pub returns-in_err-value-clause-grows : goal.returns-in_err-value-clause-grows
returns-in_err-value-clause-grows c =
    grows-twice c.args.table.now c.term_of.new.table c.term_of-2.new.table c.term_of.ensures.grows c.term_of-2.ensures.grows

pub returns-in_err-t-clause-grows : goal.returns-in_err-t-clause-grows
returns-in_err-t-clause-grows c =
    let v = c.args.table.now in
    let w = c.term_of-2.new.table in
    grows-twice v w c.made.new.table (grows-twice v c.term_of.new.table w c.term_of.ensures.grows c.term_of-2.ensures.grows)
    c.made.ensures.grows

pub returns-clause-grows : goal.returns-clause-grows
returns-clause-grows c =
    let v = c.args.table.now in
    let w = c.term_of-2.new.table in
    grows-twice v w c.made.new.table (grows-twice v c.term_of.new.table w c.term_of.ensures.grows c.term_of-2.ensures.grows)
    c.made.ensures.grows

pub returns-clause-made : goal.returns-clause-made
returns-clause-made c =
    let v = c.args.table.now in
    let s = c.args.store.now in
    let f = store_in (trees_in v) s in
    let a = c.args.a.0 in
    let t = Write (f a) (term_of (expression_of c.args.i.now) f) (term_of (expression_of c.args.e.now) f) in
    let same = element_tree c.args.table.now c.term_of.new.table c.term_of-2.new.table c.term_of.ensures.grows c.term_of-2.ensures.grows
    c.args.store.now c.requires.ready c.args.a.0
    (expression_of c.args.i.now) (expression_of c.args.e.now) c.requires.name
    (c.requires.full c.args.a.0 (named_declared (sorts_in c.args.table.now) c.args.a.0 Arr c.requires.name))
    c.requires.index c.requires.value c.index-array.result.now c.in_ok-index.index c.in_ok-value.value c.index-array.ensures
    c.in_ok-index.ensures.made c.in_ok-value.ensures.made in
    let got = c.in_ok-t.ensures.stored ∙ ap (λ u. Some u) same in
    let place = c.requires.full a (named_declared (sorts_in v) a Arr c.requires.name) in
    let w = c.term_of-2.new.table in
    let grows = grows-twice v w c.made.new.table (grows-twice v c.term_of.new.table w c.term_of.ensures.grows c.term_of-2.ensures.grows)
    c.made.ensures.grows in
    store_written v c.made.new.table grows s c.put.new.store a c.in_ok-t.t t c.requires.ready.0 place c.put.ensures got

pub returns-clause-within : goal.returns-clause-within
returns-clause-within c =
    let v = c.args.table.now in
    let s = c.args.store.now in
    let w = c.term_of-2.new.table in
    let grows = grows-twice v w c.made.new.table (grows-twice v c.term_of.new.table w c.term_of.ensures.grows c.term_of-2.ensures.grows)
    c.made.ensures.grows in
    within_written v c.made.new.table grows s c.put.new.store c.args.a.0 c.in_ok-t.t _ c.requires.ready.0 c.put.ensures
    c.in_ok-t.ensures.stored
