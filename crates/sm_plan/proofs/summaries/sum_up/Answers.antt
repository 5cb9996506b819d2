-- The block has the code of the first statements.
use Rattle.sm_plan.proofs.Imports.{◌≡◌, sym, ap, subst, ◌∙◌, Code, Sorts, IsWellSorted, code_of, store_in, SymStore, trees_in, sorts_in, front, last_guard, summarized, false_guard, rest_code}
use Rattle.sm_plan.proofs.SortedCode.{front_well}
use Rattle.sm_plan.proofs.SummariesOpened.{guard_found, summed_ready}
use Rattle.sm_plan.proofs.TablesWiden.{widens_grown, widens_twice, store_stays, store_ready}
use Rattle.sm_plan.proofs.summaries.sum_up.Goals as goal

pub summarize-requires-clause-well : goal.summarize-requires-clause-well
summarize-requires-clause-well c =
    let v = c.args.table.now in
    let n = c.args.count in
    let code : Code = rest_code c.args.rest.now in
    let block_is : code_of c.in_ok-block.block ≡ front n code = c.in_ok-block.ensures ∙ c.in_ok-done.ensures in
    subst (IsWellSorted (sorts_in v)) (sym block_is) (front_well (sorts_in v) n code c.requires.well)

pub false_guard-requires-clause-well : goal.false_guard-requires-clause-well
false_guard-requires-clause-well c =
    let v = c.args.table.now in
    let n = c.args.count in
    let code : Code = rest_code c.args.rest.now in
    let block_is : code_of c.in_ok-block.block ≡ front n code = c.in_ok-block.ensures ∙ c.in_ok-done.ensures in
    let well = front_well (sorts_in v) n code c.requires.well in
    let well_there = subst (λ (f : Sorts). IsWellSorted f (front n code)) (sym c.summarize.ensures.widens.sorts) well in
    guard_found (sorts_in c.summarize.new.table) (front n code) c.last_guard.result
    (c.last_guard.ensures ∙ ap last_guard block_is) well_there

pub false_guard-requires-clause-ready : goal.false_guard-requires-clause-ready
false_guard-requires-clause-ready c =
    let v = c.args.table.now in
    let n = c.args.count in
    let code : Code = rest_code c.args.rest.now in
    let old : SymStore = c.args.store.now in
    let block_is : code_of c.in_ok-block.block ≡ front n code = c.in_ok-block.ensures ∙ c.in_ok-done.ensures in
    let u = c.summarize.new.table in
    let terms : SymStore = c.in_ok-terms.terms in
    let is : store_in (trees_in u) terms ≡ summarized (front n code) (store_in (trees_in v) old) =
    c.in_ok-terms.ensures.store ∙ ap (λ (d : Code). summarized d (store_in (trees_in v) old)) block_is in
    summed_ready v u c.summarize.ensures.widens code n old terms c.requires.well c.requires.ready is c.in_ok-terms.ensures.within

pub returns-in_err-guard-clause-widens : goal.returns-in_err-guard-clause-widens
returns-in_err-guard-clause-widens c =
    let u = c.summarize.new.table in
    let z = c.false_guard.new.table in
    widens_twice c.args.table.now u z c.summarize.ensures.widens (widens_grown u z c.false_guard.ensures.grows)

pub returns-clause-terms : goal.returns-clause-terms
returns-clause-terms c =
    let v = c.args.table.now in
    let n = c.args.count in
    let code : Code = rest_code c.args.rest.now in
    let old : SymStore = c.args.store.now in
    let block_is : code_of c.in_ok-block.block ≡ front n code = c.in_ok-block.ensures ∙ c.in_ok-done.ensures in
    let u = c.summarize.new.table in
    let z = c.false_guard.new.table in
    let terms : SymStore = c.in_ok-terms.terms in
    store_stays u z (widens_grown u z c.false_guard.ensures.grows) terms c.in_ok-terms.ensures.within
    ∙ c.in_ok-terms.ensures.store ∙ ap (λ (d : Code). summarized d (store_in (trees_in v) old)) block_is

pub returns-clause-within : goal.returns-clause-within
returns-clause-within c =
    let v = c.args.table.now in
    let n = c.args.count in
    let code : Code = rest_code c.args.rest.now in
    let old : SymStore = c.args.store.now in
    let block_is : code_of c.in_ok-block.block ≡ front n code = c.in_ok-block.ensures ∙ c.in_ok-done.ensures in
    let u = c.summarize.new.table in
    let z = c.false_guard.new.table in
    let terms : SymStore = c.in_ok-terms.terms in
    let is : store_in (trees_in u) terms ≡ summarized (front n code) (store_in (trees_in v) old) =
    c.in_ok-terms.ensures.store ∙ ap (λ (d : Code). summarized d (store_in (trees_in v) old)) block_is in
    let good = summed_ready v u c.summarize.ensures.widens code n old terms c.requires.well c.requires.ready is
    c.in_ok-terms.ensures.within in
    (store_ready u z (widens_grown u z c.false_guard.ensures.grows) terms good).0

pub returns-clause-guard : goal.returns-clause-guard
returns-clause-guard c =
    let n = c.args.count in
    let code : Code = rest_code c.args.rest.now in
    let block_is : code_of c.in_ok-block.block ≡ front n code = c.in_ok-block.ensures ∙ c.in_ok-done.ensures in
    let u = c.summarize.new.table in
    let z = c.false_guard.new.table in
    let terms : SymStore = c.in_ok-terms.terms in
    let later = store_stays u z (widens_grown u z c.false_guard.ensures.grows) terms c.in_ok-terms.ensures.within in
    c.in_ok-guard.ensures.made ∙ ap (λ o. false_guard o (store_in (trees_in u) terms)) (c.last_guard.ensures ∙ ap last_guard block_is)
    ∙ ap (false_guard (last_guard (front n code))) (sym later)

pub returns-clause-widens : goal.returns-clause-widens
returns-clause-widens c =
    let v = c.args.table.now in
    let u = c.summarize.new.table in
    let z = c.false_guard.new.table in
    widens_twice v u z c.summarize.ensures.widens (widens_grown u z c.false_guard.ensures.grows)
