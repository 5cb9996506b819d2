-- By the kind of the formula, and the second of two over the table with the first.
use Rattle.sm_plan.proofs.Imports.{rules, length, sym, ap, subst, ◌∙◌, numbered, assertion_in, IsFormulaWithin, Formula, at_stores, trees_in, sorts_in, assertion-more, form_kept, grows-twice, IsFormReady, stores_in}
use Rattle.sm_plan.proofs.FillingGrows.{stores_ready}
use Rattle.sm_plan.proofs.FillingForms.{form_ready, at_more, both_there, eq_made, ne_made, le_made, lt_made}
use Rattle.sm_plan.proofs.slots.+filled.Goals as goal

pub filled_form-returns-in_ok-a-in-Eq-clause-made : goal.filled_form-returns-in_ok-a-in-Eq-clause-made
filled_form-returns-in_ok-a-in-Eq-clause-made t c =
    let v = c.args.table.now in
    let w = c.filled_terms.new.table in
    let stores = c.args.stores.now in
    let got = c.in_ok-a-in-Eq in
    let sorted = (subst (IsFormReady (sorts_in v) (trees_in v)) c.in-Eq.is c.requires.form).1 in
    eq_made v w c.filled_terms.ensures.grows stores c.requires.stores c.in-Eq.t.0 c.in-Eq.u.0 got.a.0 got.b.0 got.ensures.first
    got.ensures.second sorted.0.0
    ∙ ap (λ (f : Formula). at_stores (stores_in (trees_in v) stores) (assertion_in (sorts_in v) (trees_in v) (numbered f))) (sym c.in-Eq.is)

pub filled_form-returns-in_ok-a-in-Eq-clause-within : goal.filled_form-returns-in_ok-a-in-Eq-clause-within
filled_form-returns-in_ok-a-in-Eq-clause-within t c =
    let v = c.args.table.now in
    let w = c.filled_terms.new.table in
    let stores = c.args.stores.now in
    let got = c.in_ok-a-in-Eq in
    both_there v w c.filled_terms.ensures.grows stores c.requires.stores c.in-Eq.t.0 c.in-Eq.u.0 got.a.0 got.b.0 got.ensures.first
    got.ensures.second

pub filled_form-returns-in_ok-a-in-Ne-clause-made : goal.filled_form-returns-in_ok-a-in-Ne-clause-made
filled_form-returns-in_ok-a-in-Ne-clause-made t c =
    let v = c.args.table.now in
    let w = c.filled_terms-in-Ne.new.table in
    let stores = c.args.stores.now in
    let got = c.in_ok-a-in-Ne in
    let sorted = (subst (IsFormReady (sorts_in v) (trees_in v)) c.in-Ne.is c.requires.form).1 in
    ne_made v w c.filled_terms-in-Ne.ensures.grows stores c.requires.stores c.in-Ne.t.0 c.in-Ne.u.0 got.a.0 got.b.0 got.ensures.first
    got.ensures.second sorted.0.0
    ∙ ap (λ (f : Formula). at_stores (stores_in (trees_in v) stores) (assertion_in (sorts_in v) (trees_in v) (numbered f))) (sym c.in-Ne.is)

pub filled_form-returns-in_ok-a-in-Ne-clause-within : goal.filled_form-returns-in_ok-a-in-Ne-clause-within
filled_form-returns-in_ok-a-in-Ne-clause-within t c =
    let v = c.args.table.now in
    let w = c.filled_terms-in-Ne.new.table in
    let stores = c.args.stores.now in
    let got = c.in_ok-a-in-Ne in
    both_there v w c.filled_terms-in-Ne.ensures.grows stores c.requires.stores c.in-Ne.t.0 c.in-Ne.u.0 got.a.0 got.b.0 got.ensures.first
    got.ensures.second

pub filled_form-returns-in_ok-a-in-Le-clause-made : goal.filled_form-returns-in_ok-a-in-Le-clause-made
filled_form-returns-in_ok-a-in-Le-clause-made t c =
    let v = c.args.table.now in
    let w = c.filled_terms-in-Le.new.table in
    let stores = c.args.stores.now in
    let got = c.in_ok-a-in-Le in
    le_made v w c.filled_terms-in-Le.ensures.grows stores c.requires.stores c.in-Le.t.0 c.in-Le.u.0 got.a.0 got.b.0 got.ensures.first
    got.ensures.second
    ∙ ap (λ (f : Formula). at_stores (stores_in (trees_in v) stores) (assertion_in (sorts_in v) (trees_in v) (numbered f))) (sym c.in-Le.is)

pub filled_form-returns-in_ok-a-in-Le-clause-within : goal.filled_form-returns-in_ok-a-in-Le-clause-within
filled_form-returns-in_ok-a-in-Le-clause-within t c =
    let v = c.args.table.now in
    let w = c.filled_terms-in-Le.new.table in
    let stores = c.args.stores.now in
    let got = c.in_ok-a-in-Le in
    both_there v w c.filled_terms-in-Le.ensures.grows stores c.requires.stores c.in-Le.t.0 c.in-Le.u.0 got.a.0 got.b.0 got.ensures.first
    got.ensures.second

pub filled_form-returns-in_ok-a-in-Lt-clause-made : goal.filled_form-returns-in_ok-a-in-Lt-clause-made
filled_form-returns-in_ok-a-in-Lt-clause-made t c =
    let v = c.args.table.now in
    let w = c.filled_terms-in-Lt.new.table in
    let stores = c.args.stores.now in
    let got = c.in_ok-a-in-Lt in
    lt_made v w c.filled_terms-in-Lt.ensures.grows stores c.requires.stores c.in-Lt.t.0 c.in-Lt.u.0 got.a.0 got.b.0 got.ensures.first
    got.ensures.second
    ∙ ap (λ (f : Formula). at_stores (stores_in (trees_in v) stores) (assertion_in (sorts_in v) (trees_in v) (numbered f))) (sym c.in-Lt.is)

pub filled_form-returns-in_ok-a-in-Lt-clause-within : goal.filled_form-returns-in_ok-a-in-Lt-clause-within
filled_form-returns-in_ok-a-in-Lt-clause-within t c =
    let v = c.args.table.now in
    let w = c.filled_terms-in-Lt.new.table in
    let stores = c.args.stores.now in
    let got = c.in_ok-a-in-Lt in
    both_there v w c.filled_terms-in-Lt.ensures.grows stores c.requires.stores c.in-Lt.t.0 c.in-Lt.u.0 got.a.0 got.b.0 got.ensures.first
    got.ensures.second

pub filled_form-filled_terms-requires-clause-first : goal.filled_form-filled_terms-requires-clause-first
filled_form-filled_terms-requires-clause-first t c =
    let v = c.args.table.now in
    (subst (IsFormReady (sorts_in v) (trees_in v)) c.in-Eq.is c.requires.form).0.0

pub filled_form-filled_terms-requires-clause-second : goal.filled_form-filled_terms-requires-clause-second
filled_form-filled_terms-requires-clause-second t c =
    let v = c.args.table.now in
    (subst (IsFormReady (sorts_in v) (trees_in v)) c.in-Eq.is c.requires.form).0.1

pub filled_form-filled_terms-requires-clause-stores : goal.filled_form-filled_terms-requires-clause-stores
filled_form-filled_terms-requires-clause-stores t c = c.requires.stores

pub filled_form-filled_terms-requires-clause-known : goal.filled_form-filled_terms-requires-clause-known
filled_form-filled_terms-requires-clause-known t c = c.requires.known

pub filled_form-returns-in_err-a-in-Eq-clause-grows : goal.filled_form-returns-in_err-a-in-Eq-clause-grows
filled_form-returns-in_err-a-in-Eq-clause-grows t c = c.filled_terms.ensures.grows

pub filled_form-returns-in_ok-a-in-Eq-clause-grows : goal.filled_form-returns-in_ok-a-in-Eq-clause-grows
filled_form-returns-in_ok-a-in-Eq-clause-grows t c = c.filled_terms.ensures.grows

pub filled_form-returns-in_ok-a-in-Eq-clause-known : goal.filled_form-returns-in_ok-a-in-Eq-clause-known
filled_form-returns-in_ok-a-in-Eq-clause-known t c = c.in_ok-a-in-Eq.ensures.known

pub filled_form-filled_terms-requires-in-Ne-clause-first : goal.filled_form-filled_terms-requires-in-Ne-clause-first
filled_form-filled_terms-requires-in-Ne-clause-first t c =
    let v = c.args.table.now in
    (subst (IsFormReady (sorts_in v) (trees_in v)) c.in-Ne.is c.requires.form).0.0

pub filled_form-filled_terms-requires-in-Ne-clause-second : goal.filled_form-filled_terms-requires-in-Ne-clause-second
filled_form-filled_terms-requires-in-Ne-clause-second t c =
    let v = c.args.table.now in
    (subst (IsFormReady (sorts_in v) (trees_in v)) c.in-Ne.is c.requires.form).0.1

pub filled_form-filled_terms-requires-in-Ne-clause-stores : goal.filled_form-filled_terms-requires-in-Ne-clause-stores
filled_form-filled_terms-requires-in-Ne-clause-stores t c = c.requires.stores

pub filled_form-filled_terms-requires-in-Ne-clause-known : goal.filled_form-filled_terms-requires-in-Ne-clause-known
filled_form-filled_terms-requires-in-Ne-clause-known t c = c.requires.known

pub filled_form-returns-in_err-a-in-Ne-clause-grows : goal.filled_form-returns-in_err-a-in-Ne-clause-grows
filled_form-returns-in_err-a-in-Ne-clause-grows t c = c.filled_terms-in-Ne.ensures.grows

pub filled_form-returns-in_ok-a-in-Ne-clause-grows : goal.filled_form-returns-in_ok-a-in-Ne-clause-grows
filled_form-returns-in_ok-a-in-Ne-clause-grows t c = c.filled_terms-in-Ne.ensures.grows

pub filled_form-returns-in_ok-a-in-Ne-clause-known : goal.filled_form-returns-in_ok-a-in-Ne-clause-known
filled_form-returns-in_ok-a-in-Ne-clause-known t c = c.in_ok-a-in-Ne.ensures.known

pub filled_form-filled_terms-requires-in-Le-clause-first : goal.filled_form-filled_terms-requires-in-Le-clause-first
filled_form-filled_terms-requires-in-Le-clause-first t c =
    let v = c.args.table.now in
    (subst (IsFormReady (sorts_in v) (trees_in v)) c.in-Le.is c.requires.form).0.0

pub filled_form-filled_terms-requires-in-Le-clause-second : goal.filled_form-filled_terms-requires-in-Le-clause-second
filled_form-filled_terms-requires-in-Le-clause-second t c =
    let v = c.args.table.now in
    (subst (IsFormReady (sorts_in v) (trees_in v)) c.in-Le.is c.requires.form).0.1

pub filled_form-filled_terms-requires-in-Le-clause-stores : goal.filled_form-filled_terms-requires-in-Le-clause-stores
filled_form-filled_terms-requires-in-Le-clause-stores t c = c.requires.stores

pub filled_form-filled_terms-requires-in-Le-clause-known : goal.filled_form-filled_terms-requires-in-Le-clause-known
filled_form-filled_terms-requires-in-Le-clause-known t c = c.requires.known

pub filled_form-returns-in_err-a-in-Le-clause-grows : goal.filled_form-returns-in_err-a-in-Le-clause-grows
filled_form-returns-in_err-a-in-Le-clause-grows t c = c.filled_terms-in-Le.ensures.grows

pub filled_form-returns-in_ok-a-in-Le-clause-grows : goal.filled_form-returns-in_ok-a-in-Le-clause-grows
filled_form-returns-in_ok-a-in-Le-clause-grows t c = c.filled_terms-in-Le.ensures.grows

pub filled_form-returns-in_ok-a-in-Le-clause-known : goal.filled_form-returns-in_ok-a-in-Le-clause-known
filled_form-returns-in_ok-a-in-Le-clause-known t c = c.in_ok-a-in-Le.ensures.known

pub filled_form-filled_terms-requires-in-Lt-clause-first : goal.filled_form-filled_terms-requires-in-Lt-clause-first
filled_form-filled_terms-requires-in-Lt-clause-first t c =
    let v = c.args.table.now in
    (subst (IsFormReady (sorts_in v) (trees_in v)) c.in-Lt.is c.requires.form).0.0

pub filled_form-filled_terms-requires-in-Lt-clause-second : goal.filled_form-filled_terms-requires-in-Lt-clause-second
filled_form-filled_terms-requires-in-Lt-clause-second t c =
    let v = c.args.table.now in
    (subst (IsFormReady (sorts_in v) (trees_in v)) c.in-Lt.is c.requires.form).0.1

pub filled_form-filled_terms-requires-in-Lt-clause-stores : goal.filled_form-filled_terms-requires-in-Lt-clause-stores
filled_form-filled_terms-requires-in-Lt-clause-stores t c = c.requires.stores

pub filled_form-filled_terms-requires-in-Lt-clause-known : goal.filled_form-filled_terms-requires-in-Lt-clause-known
filled_form-filled_terms-requires-in-Lt-clause-known t c = c.requires.known

pub filled_form-returns-in_err-a-in-Lt-clause-grows : goal.filled_form-returns-in_err-a-in-Lt-clause-grows
filled_form-returns-in_err-a-in-Lt-clause-grows t c = c.filled_terms-in-Lt.ensures.grows

pub filled_form-returns-in_ok-a-in-Lt-clause-grows : goal.filled_form-returns-in_ok-a-in-Lt-clause-grows
filled_form-returns-in_ok-a-in-Lt-clause-grows t c = c.filled_terms-in-Lt.ensures.grows

pub filled_form-returns-in_ok-a-in-Lt-clause-known : goal.filled_form-returns-in_ok-a-in-Lt-clause-known
filled_form-returns-in_ok-a-in-Lt-clause-known t c = c.in_ok-a-in-Lt.ensures.known

pub filled_parts-returns-in_err-b-clause-grows : goal.filled_parts-returns-in_err-b-clause-grows
filled_parts-returns-in_err-b-clause-grows t c =
    grows-twice c.args.table.now c.filled_form.new.table c.filled_form-2.new.table c.filled_form.ensures.grows c.filled_form-2.ensures.grows

pub filled_parts-returns-in_err-first-clause-grows : goal.filled_parts-returns-in_err-first-clause-grows
filled_parts-returns-in_err-first-clause-grows t c =
    grows-twice c.args.table.now c.filled_form.new.table c.filled_form-2.new.table c.filled_form.ensures.grows c.filled_form-2.ensures.grows

pub filled_parts-returns-in_err-second-clause-grows : goal.filled_parts-returns-in_err-second-clause-grows
filled_parts-returns-in_err-second-clause-grows t c =
    grows-twice c.args.table.now c.filled_form.new.table c.filled_form-2.new.table c.filled_form.ensures.grows c.filled_form-2.ensures.grows

pub filled_parts-returns-clause-grows : goal.filled_parts-returns-clause-grows
filled_parts-returns-clause-grows t c =
    grows-twice c.args.table.now c.filled_form.new.table c.filled_form-2.new.table c.filled_form.ensures.grows c.filled_form-2.ensures.grows

pub filled_parts-filled_form-requires-2 : goal.filled_parts-filled_form-requires-2
filled_parts-filled_form-requires-2 t c =
    let v = c.args.table.now in
    let w = c.filled_form.new.table in (
      search rules,
      (
        form_ready v w c.filled_form.ensures.grows c.args.q.now c.requires.second,
        (stores_ready v w c.filled_form.ensures.grows c.args.stores.now c.requires.stores, c.in_ok-a.ensures.known),
      ),
    )

pub filled_parts-returns-clause-first : goal.filled_parts-returns-clause-first
filled_parts-returns-clause-first t c =
    let w = c.filled_form.new.table in
    let x = c.filled_form-2.new.table in
    ap (λ (f : Formula). assertion_in (sorts_in x) (trees_in x) (numbered f)) c.in_ok-first.ensures.ok
    ∙ assertion-more w x c.filled_form-2.ensures.grows (numbered c.in_ok-a.a) c.in_ok-a.ensures.within ∙ c.in_ok-a.ensures.made

pub filled_parts-returns-clause-second : goal.filled_parts-returns-clause-second
filled_parts-returns-clause-second t c =
    let v = c.args.table.now in
    let w = c.filled_form.new.table in
    let x = c.filled_form-2.new.table in
    ap (λ (f : Formula). assertion_in (sorts_in x) (trees_in x) (numbered f)) c.in_ok-second.ensures.ok
    ∙ c.in_ok-b.ensures.made ∙ at_more v w c.filled_form.ensures.grows c.args.stores.now c.requires.stores c.args.q.now c.requires.second

pub filled_parts-returns-clause-within : goal.filled_parts-returns-clause-within
filled_parts-returns-clause-within t c =
    let w = c.filled_form.new.table in
    let x = c.filled_form-2.new.table in
    let first = form_kept w x c.filled_form-2.ensures.grows (numbered c.in_ok-a.a) c.in_ok-a.ensures.within in (
      subst (λ (f : Formula). IsFormulaWithin (length (trees_in x)) (numbered f)) (sym c.in_ok-first.ensures.ok) first,
      subst (λ (f : Formula). IsFormulaWithin (length (trees_in x)) (numbered f)) (sym c.in_ok-second.ensures.ok) c.in_ok-b.ensures.within,
    )
