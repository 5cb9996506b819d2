-- The list of the store has all terms that are no starts.
use Rattle.sm_write.proofs.Imports.{List, length, refl, sym, subst, copy_named, IsStoreSorted, store_in, trees_in, sorts_in, AreBefore, TermId, terms_store, NamesHeld, NamesStore, value_of}
use Rattle.sm_write.proofs.HeldLemmas.{held_all}
use Rattle.sm_write.proofs.SteppedLemmas.{on_ok}
use Rattle.sm_write.proofs.states.name_store.Goals as goal

pub name_held-requires : goal.name_held-requires
name_held-requires c = subst (AreBefore (length (trees_in c.args.table.now))) (sym c.as_slice.ensures.value) c.requires.0

pub returns : goal.returns
returns c =
    let v = c.args.table.now in
    let trees = trees_in v in
    let old = value_of c.args.w.now in
    let new = value_of c.name_held.new.w in
    let copy = copy_named c.args.copy in
    let terms = c.as_slice.result.now in
    on_ok c.name_held.result (NamesHeld v old new copy terms (length terms)) (NamesStore v old new copy (store_in trees c.args.store.now))
    (λ (h : NamesHeld v old new copy terms (length terms)).
    subst (λ (l : List TermId). NamesStore v old new copy (terms_store trees l)) c.as_slice.ensures.value
    (held_all v old new copy terms (length terms) h refl
    (subst (λ (l : List TermId). IsStoreSorted (sorts_in v) (terms_store trees l)) (sym c.as_slice.ensures.value) c.requires.1)))
    c.name_held.ensures
