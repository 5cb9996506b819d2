use Rattle.sm_eval.proofs.Imports.{◌≡◌, ℤ, sym, ap, ◌∙◌, to_z-of_z, get_or_default, put, with_element, listed, held, stored_value_of, values, StoredValue, Absent, Array}
use Rattle.std.proofs.lemmas.Result.{on_ok_weaker}
use Rattle.sm_syntax.specs.claim.Stores as plain
use Rattle.sm_eval.specs.StoredValues.{meaning, sorts_of}
use Rattle.sm_eval.proofs.Writes.{declared_within, values-set, sorts-set}
use Rattle.sm_eval.proofs.store.Store.set_cell.Goals as goal

-- the new stored value has the sort of the old one
pub returns-clause-sorts : goal.returns-clause-sorts
unfolding meaning sorts_of
returns-clause-sorts c =
    let stored = c.args.self.now.stored.items in
    sorts-set stored c.args.a.0 (Array _) (declared_within stored c.args.a.0 _ c.requires) (sym c.requires)

-- where the cells took the number, the array has it
pub returns-clause-ok : goal.returns-clause-ok
unfolding meaning sorts_of
returns-clause-ok c =
    let stored = c.args.self.now.stored.items in
    let a = c.args.a.0 in
    let within = declared_within stored a _ c.requires in
    let here : stored_value_of stored a ≡ Array c.in-Array.cells =
    get_or_default stored a Absent c.index_mut.result.now within ∙ sym c.index_mut.ensures.value ∙ c.in-Array.is in
    let fits_i = c.ranges.i in
    let fits_z = c.ranges.z in
    on_ok_weaker c.set.result
    (λ (taken : listed c.set.new.self ≡ with_element (listed c.in-Array.cells) c.args.i c.args.z).
    values-set stored a (Array c.set.new.self) within ∙ ap (λ (f : ℤ → ℤ). put (values stored) a (plain.Array f)) taken ∙
    ap (λ (s : StoredValue). put (values stored) a (plain.Array (with_element (plain.array (held s)) c.args.i c.args.z))) (sym here))
    (simp to_z-of_z at c.set.ensures.ok)
