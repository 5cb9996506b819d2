-- Copy by copy.
use Rattle.sm_template.proofs.Imports.{List, sym, subst, ◌∙◌, Copy, Sorts, IsWellSorted, of_copy, Assertion, grows-twice, set_of, loop_guard, rest_code, guard_templates}
use Rattle.sm_syntax.specs.claim.ConflictFree.{O, A, B, M}
use Rattle.sm_template.proofs.GuardsLemmas.{four_bounds}
use Rattle.sm_template.proofs.guards.put_loops.Goals as goal

pub put_loop-requires-clause-sorted : goal.put_loop-requires-clause-sorted
put_loop-requires-clause-sorted c = c.requires.sorted O

pub put_loop-requires-2-clause-sorted : goal.put_loop-requires-2-clause-sorted
put_loop-requires-2-clause-sorted c =
    subst (λ (f : Sorts). IsWellSorted f (rest_code c.args.code.now.variant_a)) (sym c.put_loop.ensures.grows.sorts) (c.requires.sorted A)

pub put_loop-requires-3-clause-sorted : goal.put_loop-requires-3-clause-sorted
put_loop-requires-3-clause-sorted c =
    subst (λ (f : Sorts). IsWellSorted f (rest_code c.args.code.now.variant_b))
    (sym (c.put_loop-2.ensures.grows.sorts ∙ c.put_loop.ensures.grows.sorts)) (c.requires.sorted B)

pub put_loop-requires-4-clause-sorted : goal.put_loop-requires-4-clause-sorted
put_loop-requires-4-clause-sorted c =
    subst (λ (f : Sorts). IsWellSorted f (rest_code c.args.code.now.candidate))
    (sym (c.put_loop-3.ensures.grows.sorts ∙ c.put_loop-2.ensures.grows.sorts ∙ c.put_loop.ensures.grows.sorts)) (c.requires.sorted M)

pub returns-in_err-put_loop-2-clause-grows : goal.returns-in_err-put_loop-2-clause-grows
returns-in_err-put_loop-2-clause-grows c =
    grows-twice c.args.table.now c.put_loop.new.table c.put_loop-2.new.table c.put_loop.ensures.grows c.put_loop-2.ensures.grows

pub returns-in_err-put_loop-3-clause-grows : goal.returns-in_err-put_loop-3-clause-grows
returns-in_err-put_loop-3-clause-grows c =
    let v0 = c.args.table.now in
    let v2 = c.put_loop-2.new.table in
    grows-twice v0 v2 c.put_loop-3.new.table
    (grows-twice v0 c.put_loop.new.table v2 c.put_loop.ensures.grows c.put_loop-2.ensures.grows) c.put_loop-3.ensures.grows

pub returns-in_err-put_loop-4-clause-grows : goal.returns-in_err-put_loop-4-clause-grows
returns-in_err-put_loop-4-clause-grows c =
    let v0 = c.args.table.now in
    let v1 = c.put_loop.new.table in
    let v2 = c.put_loop-2.new.table in
    let v3 = c.put_loop-3.new.table in
    grows-twice v0 v3 c.put_loop-4.new.table
    (grows-twice v0 v2 v3 (grows-twice v0 v1 v2 c.put_loop.ensures.grows c.put_loop-2.ensures.grows) c.put_loop-3.ensures.grows)
    c.put_loop-4.ensures.grows

pub returns-clause-added : goal.returns-clause-added
returns-clause-added c =
    let guards : Copy → List Assertion = λ (d : Copy). guard_templates (loop_guard (rest_code (of_copy c.args.code.now d))) d in
    four_bounds (set_of c.args.set) guards c.args.table.now c.put_loop.new.table c.put_loop-2.new.table c.put_loop-3.new.table
    c.put_loop-4.new.table c.args.bounds.now.keys c.put_loop.new.bounds.keys c.put_loop-2.new.bounds.keys c.put_loop-3.new.bounds.keys
    c.put_loop-4.new.bounds.keys c.requires.empty c.in_ok-put_loop.ensures.added c.in_ok-put_loop-2.ensures.added
    c.in_ok-put_loop-3.ensures.added c.in_ok-put_loop-4.ensures.added

pub returns-clause-grows : goal.returns-clause-grows
returns-clause-grows c =
    let v0 = c.args.table.now in
    let v1 = c.put_loop.new.table in
    let v2 = c.put_loop-2.new.table in
    let v3 = c.put_loop-3.new.table in
    grows-twice v0 v3 c.put_loop-4.new.table
    (grows-twice v0 v2 v3 (grows-twice v0 v1 v2 c.put_loop.ensures.grows c.put_loop-2.ensures.grows) c.put_loop-3.ensures.grows)
    c.put_loop-4.ensures.grows
