-- The terms of the facts are the table's, so each fact is the same there.
use Rattle.sm_list.proofs.Imports.{◌≡◌, List, [], length, sym, ap, ◌∙◌, subst, Sorts, Tree, trees_in, sorts_in, TermId, number_under, terms_of, trees_at, numbers_of, AreBuilt, ArePlaced, all_numbered, assertions_in, AreFormulasWithin}
use Rattle.sm_list.proofs.BuiltLemmas.{terms_built, terms_among, FormulasAmong}
use Rattle.sm_list.proofs.RenumberLemmas.{formulas_same, formulas_there}
use Rattle.sm_list.proofs.OwnLemmas.{formulas_placed}
use Rattle.sm_list.proofs.own.over_own.Goals as goal

pub put_terms-requires-clause-built : goal.put_terms-requires-clause-built
put_terms-requires-clause-built c =
    let trees = trees_in c.args.table.now in
    let all = assertions_in (sorts_in c.args.table.now) trees (all_numbered c.args.facts.now) in
    subst (λ (ids : List TermId). AreBuilt [] (trees_at trees (numbers_of ids))) (sym c.deref.ensures.value)
    (subst (AreBuilt []) (sym c.requires.terms) (terms_built all))

pub returns-clause-facts : goal.returns-clause-facts
returns-clause-facts c =
    let trees = trees_in c.args.table.now in
    let sorts = sorts_in c.args.table.now in
    let fs = all_numbered c.args.facts.now in
    let all = assertions_in sorts trees fs in
    let own = trees_in c.put_terms.new.own in
    let numbers = c.deref-2.result.now in
    let placed = subst (ArePlaced trees own) (sym c.deref-2.ensures.value) c.in_ok-put_terms.ensures.placed in
    let same : own ≡ terms_of all =
    c.in_ok-put_terms.ensures.trees ∙ ap (λ (ids : List TermId). trees_at trees (numbers_of ids)) c.deref.ensures.value
    ∙ c.requires.terms in
    let among : FormulasAmong own all = subst (λ (ts : List Tree). FormulasAmong ts all) (sym same) (terms_among all) in
    let stands = formulas_placed sorts trees own numbers placed fs c.requires.facts among in
    ap (λ (s : Sorts). assertions_in s own (all_numbered c.in_ok-facts.facts.items)) c.in_ok-put_terms.ensures.sorts
    ∙ ap (assertions_in sorts own) c.in_ok-facts.ensures
    ∙ formulas_same trees own (number_under numbers) sorts fs stands

pub returns-clause-within : goal.returns-clause-within
returns-clause-within c =
    let trees = trees_in c.args.table.now in
    let sorts = sorts_in c.args.table.now in
    let fs = all_numbered c.args.facts.now in
    let all = assertions_in sorts trees fs in
    let own = trees_in c.put_terms.new.own in
    let numbers = c.deref-2.result.now in
    let placed = subst (ArePlaced trees own) (sym c.deref-2.ensures.value) c.in_ok-put_terms.ensures.placed in
    let same : own ≡ terms_of all =
    c.in_ok-put_terms.ensures.trees ∙ ap (λ (ids : List TermId). trees_at trees (numbers_of ids)) c.deref.ensures.value
    ∙ c.requires.terms in
    let among : FormulasAmong own all = subst (λ (ts : List Tree). FormulasAmong ts all) (sym same) (terms_among all) in
    let stands = formulas_placed sorts trees own numbers placed fs c.requires.facts among in
    subst (AreFormulasWithin (length own)) (sym c.in_ok-facts.ensures) (formulas_there trees own (number_under numbers) fs stands)
