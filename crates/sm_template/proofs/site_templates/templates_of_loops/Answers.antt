-- The templates of the names that the bodies write, and behind them what the guards suggest.
use Rattle.sm_template.proofs.Imports.{◌++◌, ◌∙◌, sym, subst, flat_map, Copy, Code, Sorts, IsWellSorted, of_copy, declared_of, sorts_in, grows-twice, set_of, AreOutputsDeclared, loop_guard, loop_body, rest_code, widens_grown, only_in, distinct, guard_templates, same_formula, name_templates}
use Rattle.sm_moves.specs.CopySets.{members}
use Rattle.sm_template.proofs.AddedLemmas.{added_then}
use Rattle.sm_template.proofs.SitesLemmas.{written_declared, new_forms, loop_made}
use Rattle.sm_template.proofs.site_templates.templates_of_loops.Goals as goal

pub put_names-requires : goal.put_names-requires
put_names-requires c =
    let sorts = sorts_in c.args.table.now in
    let declared = declared_of c.args.site.now.decls.now in
    let bodies = only_in (set_of c.args.set) (λ (d : Copy). loop_body (rest_code (of_copy c.args.code.now d))) in
    let declares = subst (AreOutputsDeclared sorts) (sym c.in_ok-names.ensures)
    (written_declared sorts declared c.requires.site.as_declared c.requires.site.numbered bodies) in
    record { declared = declares }

pub put_guards-requires-clause-declared : goal.put_guards-requires-clause-declared
put_guards-requires-clause-declared c = c.put_names.ensures.grows.sorts ∙ c.requires.site.as_declared

pub put_guards-requires-clause-sorted : goal.put_guards-requires-clause-sorted
put_guards-requires-clause-sorted c = λ (d : Copy).
    subst (λ (f : Sorts). IsWellSorted f (rest_code (of_copy c.args.code.now d))) (sym c.put_names.ensures.grows.sorts) (c.requires.sorted d)

pub returns-in_err-put_names-clause-widens : goal.returns-in_err-put_names-clause-widens
returns-in_err-put_names-clause-widens c = widens_grown c.args.table.now c.put_names.new.table c.put_names.ensures.grows

pub returns-in_err-put_guards-clause-widens : goal.returns-in_err-put_guards-clause-widens
returns-in_err-put_guards-clause-widens c =
    let u = c.args.table.now in
    let w = c.put_guards.new.table in
    widens_grown u w (grows-twice u c.put_names.new.table w c.put_names.ensures.grows c.put_guards.ensures.grows)

pub returns-clause-made : goal.returns-clause-made
returns-clause-made c t of =
    let u = c.args.table.now in
    let v = c.put_names.new.table in
    let w = c.put_guards.new.table in
    let set = set_of c.args.set in
    let code : Copy → Code = λ (d : Copy). rest_code (of_copy c.args.code.now d) in
    let fs = c.new-list.result.items in
    let gs = c.put_names.new.list.items in
    let hs = c.put_guards.new.list.items in
    let names = declared_of c.in_ok-names.names in
    let named = flat_map (name_templates c.deref.result.now) names in
    let guards = flat_map (λ (d : Copy). guard_templates (loop_guard (code d)) d) (members set) in
    let added = added_then u v w fs gs hs named (distinct same_formula guards) c.in_ok-put_names.ensures.added
    c.in_ok-put_guards.ensures.added in
    loop_made u w t c.args.site.now set fs hs names c.deref.result.now code of c.requires.site.numbered
    c.in_ok-names.ensures c.deref.ensures.value c.new-list.ensures.items added

pub returns-clause-ready : goal.returns-clause-ready
returns-clause-ready c =
    let u = c.args.table.now in
    let v = c.put_names.new.table in
    let w = c.put_guards.new.table in
    let set = set_of c.args.set in
    let code : Copy → Code = λ (d : Copy). rest_code (of_copy c.args.code.now d) in
    let fs = c.new-list.result.items in
    let gs = c.put_names.new.list.items in
    let hs = c.put_guards.new.list.items in
    let names = declared_of c.in_ok-names.names in
    let named = flat_map (name_templates c.deref.result.now) names in
    let guards = flat_map (λ (d : Copy). guard_templates (loop_guard (code d)) d) (members set) in
    let added = added_then u v w fs gs hs named (distinct same_formula guards) c.in_ok-put_names.ensures.added
    c.in_ok-put_guards.ensures.added in
    (new_forms u w fs hs (named ++ distinct same_formula guards) c.new-list.ensures.items added).0

pub returns-clause-widens : goal.returns-clause-widens
returns-clause-widens c =
    let u = c.args.table.now in
    let w = c.put_guards.new.table in
    widens_grown u w (grows-twice u c.put_names.new.table w c.put_names.ensures.grows c.put_guards.ensures.grows)
