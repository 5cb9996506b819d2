-- A term of the list, or the start value.
use Rattle.sm_check.proofs.Imports.{length, Ok, Start, store_in, trees_in, IsTerm}
use Rattle.sm_check.proofs.TermsLemmas.{listed_term, listed_before, unlisted_term}
use Rattle.sm_check.proofs.TellsLemmas.{tells_along}
use Rattle.sm_check.proofs.terms.in_store.Goals as goal

pub returns-in-Some-clause-tells : goal.returns-in-Some-clause-tells
returns-in-Some-clause-tells c =
    listed_term c.args.store.now c.args.name.0 (trees_in c.args.table.now) c.in-Some.t.now c.deref.result.now c.deref.ensures.value
    c.requires.within c.in-Some.ensures.lookup.3.0 c.in-Some.ensures.lookup.3.1

pub returns-in-Some-clause-within : goal.returns-in-Some-clause-within
returns-in-Some-clause-within c =
    listed_before c.args.store.now c.args.name.0 (length (trees_in c.args.table.now)) c.in-Some.t.now c.deref.result.now c.deref.ensures.value
    c.requires.within c.in-Some.ensures.lookup.3.0 c.in-Some.ensures.lookup.3.1

pub returns-in-None-clause-tells : goal.returns-in-None-clause-tells
returns-in-None-clause-tells c =
    let name = c.args.name.0 in
    tells_along (IsTerm (trees_in c.put.new.table)) c.put.result (Ok (Start name)) (Ok (store_in (trees_in c.args.table.now) c.args.store.now name))
    (unlisted_term c.args.store.now name (trees_in c.args.table.now) c.deref.result.now c.deref.ensures.value c.in-None.ensures.lookup.3)
    c.put.ensures.tells
