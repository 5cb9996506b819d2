-- The second term over the table with the first.
use Rattle.sm_plan.proofs.Imports.{Some, ◌∙◌, ap, arith, Tree, stays_got, grows-twice}
use Rattle.sm_plan.proofs.FillingGrows.{longer, stores_ready, fill_more}
use Rattle.sm_plan.proofs.slots.filled_terms.Goals as goal

pub filled_term-requires-2-clause-stores : goal.filled_term-requires-2-clause-stores
filled_term-requires-2-clause-stores c = stores_ready c.args.table.now c.filled_term.new.table c.filled_term.ensures.grows c.args.stores.now
    c.requires.stores

pub filled_term-requires-2-clause-inside : goal.filled_term-requires-2-clause-inside
filled_term-requires-2-clause-inside c =
    let long = longer c.args.table.now c.filled_term.new.table c.filled_term.ensures.grows in
    let inside = c.requires.second in
    omega arith

pub returns-in_err-b-clause-grows : goal.returns-in_err-b-clause-grows
returns-in_err-b-clause-grows c =
    grows-twice c.args.table.now c.filled_term.new.table c.filled_term-2.new.table c.filled_term.ensures.grows c.filled_term-2.ensures.grows

pub returns-clause-grows : goal.returns-clause-grows
returns-clause-grows c =
    grows-twice c.args.table.now c.filled_term.new.table c.filled_term-2.new.table c.filled_term.ensures.grows c.filled_term-2.ensures.grows

pub returns-clause-first : goal.returns-clause-first
returns-clause-first c = stays_got c.filled_term.new.table c.filled_term-2.new.table c.filled_term-2.ensures.grows _ _
    c.in_ok-a.ensures.made

pub returns-clause-second : goal.returns-clause-second
returns-clause-second c =
    c.in_ok-b.ensures.made
    ∙ ap (λ (t : Tree). Some t)
    (fill_more c.args.table.now c.filled_term.new.table c.filled_term.ensures.grows c.args.stores.now c.requires.stores c.args.u.0
    c.requires.second)
