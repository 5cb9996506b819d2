-- One copy after the other, each over the table with those before it.
use Rattle.sm_plan.proofs.Imports.{◌≡◌, refl, fun_ext, Copy, O, A, B, M, assigns, of_copy, PerCopy, SymStore, trees_in, sorts_in, grows-not, grows-twice, IsStoreReady, IsStoreFull, renewed, rest_code, stores_in, each_copy}
use Rattle.sm_plan.proofs.RenewedStores.{well_more, ready_more, full_more, renewed_more}
use Rattle.sm_plan.proofs.renew.renew_all.Goals as goal

pub renew_written-requires-clause-done : goal.renew_written-requires-clause-done
renew_written-requires-clause-done c = c.requires.done O

pub renew_written-requires-clause-ready : goal.renew_written-requires-clause-ready
renew_written-requires-clause-ready c = c.requires.ready O

pub renew_written-requires-clause-full : goal.renew_written-requires-clause-full
renew_written-requires-clause-full c = c.requires.full O

pub renew_written-requires-2-clause-done : goal.renew_written-requires-2-clause-done
renew_written-requires-2-clause-done c =
    let u = c.args.table.now in
    let v = c.renew_written.new.table in
    let g = c.renew_written.ensures.grows in
    well_more u v g (rest_code c.args.done.now.variant_a) (c.requires.done A)

pub renew_written-requires-2-clause-ready : goal.renew_written-requires-2-clause-ready
renew_written-requires-2-clause-ready c =
    let u = c.args.table.now in
    let v = c.renew_written.new.table in
    let g = c.renew_written.ensures.grows in
    ready_more u v g c.args.stores.now.variant_a (c.requires.ready A)

pub renew_written-requires-2-clause-full : goal.renew_written-requires-2-clause-full
renew_written-requires-2-clause-full c =
    let u = c.args.table.now in
    let v = c.renew_written.new.table in
    let g = c.renew_written.ensures.grows in
    full_more u v g c.args.stores.now.variant_a (c.requires.full A)

pub renew_written-requires-3-clause-done : goal.renew_written-requires-3-clause-done
renew_written-requires-3-clause-done c =
    let u = c.args.table.now in
    let v = c.renew_written-2.new.table in
    let g = grows-twice u c.renew_written.new.table c.renew_written-2.new.table (c.renew_written.ensures.grows)
    c.renew_written-2.ensures.grows in
    well_more u v g (rest_code c.args.done.now.variant_b) (c.requires.done B)

pub renew_written-requires-3-clause-ready : goal.renew_written-requires-3-clause-ready
renew_written-requires-3-clause-ready c =
    let u = c.args.table.now in
    let v = c.renew_written-2.new.table in
    let g = grows-twice u c.renew_written.new.table c.renew_written-2.new.table (c.renew_written.ensures.grows)
    c.renew_written-2.ensures.grows in
    ready_more u v g c.args.stores.now.variant_b (c.requires.ready B)

pub renew_written-requires-3-clause-full : goal.renew_written-requires-3-clause-full
renew_written-requires-3-clause-full c =
    let u = c.args.table.now in
    let v = c.renew_written-2.new.table in
    let g = grows-twice u c.renew_written.new.table c.renew_written-2.new.table (c.renew_written.ensures.grows)
    c.renew_written-2.ensures.grows in
    full_more u v g c.args.stores.now.variant_b (c.requires.full B)

pub renew_written-requires-4-clause-done : goal.renew_written-requires-4-clause-done
renew_written-requires-4-clause-done c =
    let u = c.args.table.now in
    let v = c.renew_written-3.new.table in
    let g = grows-twice u c.renew_written-2.new.table c.renew_written-3.new.table
    (grows-twice u c.renew_written.new.table c.renew_written-2.new.table (c.renew_written.ensures.grows)
    c.renew_written-2.ensures.grows) c.renew_written-3.ensures.grows in
    well_more u v g (rest_code c.args.done.now.candidate) (c.requires.done M)

pub renew_written-requires-4-clause-ready : goal.renew_written-requires-4-clause-ready
renew_written-requires-4-clause-ready c =
    let u = c.args.table.now in
    let v = c.renew_written-3.new.table in
    let g = grows-twice u c.renew_written-2.new.table c.renew_written-3.new.table
    (grows-twice u c.renew_written.new.table c.renew_written-2.new.table (c.renew_written.ensures.grows)
    c.renew_written-2.ensures.grows) c.renew_written-3.ensures.grows in
    ready_more u v g c.args.stores.now.candidate (c.requires.ready M)

pub renew_written-requires-4-clause-full : goal.renew_written-requires-4-clause-full
renew_written-requires-4-clause-full c =
    let u = c.args.table.now in
    let v = c.renew_written-3.new.table in
    let g = grows-twice u c.renew_written-2.new.table c.renew_written-3.new.table
    (grows-twice u c.renew_written.new.table c.renew_written-2.new.table (c.renew_written.ensures.grows)
    c.renew_written-2.ensures.grows) c.renew_written-3.ensures.grows in
    full_more u v g c.args.stores.now.candidate (c.requires.full M)

pub returns-in_err-renew_written-clause-grows : goal.returns-in_err-renew_written-clause-grows
returns-in_err-renew_written-clause-grows c = c.renew_written.ensures.grows

pub returns-in_err-renew_written-2-clause-grows : goal.returns-in_err-renew_written-2-clause-grows
returns-in_err-renew_written-2-clause-grows c =
    grows-twice c.args.table.now c.renew_written.new.table c.renew_written-2.new.table c.renew_written.ensures.grows c.renew_written-2.ensures.grows

pub returns-in_err-renew_written-3-clause-grows : goal.returns-in_err-renew_written-3-clause-grows
returns-in_err-renew_written-3-clause-grows c =
    let u = c.args.table.now in
    let w2 = c.renew_written-2.new.table in
    let u2 = grows-twice u c.renew_written.new.table w2 c.renew_written.ensures.grows c.renew_written-2.ensures.grows in
    grows-twice u w2 c.renew_written-3.new.table u2 c.renew_written-3.ensures.grows

pub returns-in_err-renew_written-4-clause-grows : goal.returns-in_err-renew_written-4-clause-grows
returns-in_err-renew_written-4-clause-grows c =
    let u = c.args.table.now in
    let w2 = c.renew_written-2.new.table in
    let w3 = c.renew_written-3.new.table in
    let u2 = grows-twice u c.renew_written.new.table w2 c.renew_written.ensures.grows c.renew_written-2.ensures.grows in
    let u3 = grows-twice u w2 w3 u2 c.renew_written-3.ensures.grows in
    grows-twice u w3 c.renew_written-4.new.table u3 c.renew_written-4.ensures.grows

pub returns-clause-grows : goal.returns-clause-grows
returns-clause-grows c =
    let u = c.args.table.now in
    let w2 = c.renew_written-2.new.table in
    let w3 = c.renew_written-3.new.table in
    let u2 = grows-twice u c.renew_written.new.table w2 c.renew_written.ensures.grows c.renew_written-2.ensures.grows in
    let u3 = grows-twice u w2 w3 u2 c.renew_written-3.ensures.grows in
    grows-twice u w3 c.renew_written-4.new.table u3 c.renew_written-4.ensures.grows

pub returns-clause-made : goal.returns-clause-made
returns-clause-made c =
    let u = c.args.table.now in
    let w1 = c.renew_written.new.table in
    let w2 = c.renew_written-2.new.table in
    let w3 = c.renew_written-3.new.table in
    let w4 = c.renew_written-4.new.table in
    let g1 = c.renew_written.ensures.grows in
    let g2 = c.renew_written-2.ensures.grows in
    let g3 = c.renew_written-3.ensures.grows in
    let g4 = c.renew_written-4.ensures.grows in
    let u2 = grows-twice u w1 w2 g1 g2 in
    let u3 = grows-twice u w2 w3 u2 g3 in
    let from3 = g4 in
    let from2 = grows-twice w2 w3 w4 g3 g4 in
    let from1 = grows-twice w1 w2 w4 g2 from2 in
    let o = c.in_ok-renew_written in
    let a = c.in_ok-renew_written-2 in
    let b = c.in_ok-renew_written-3 in
    let m = c.in_ok-renew_written-4 in
    let r : PerCopy SymStore = record {
      base = c.renew_written.new.store;
      variant_a = c.renew_written-2.new.store;
      variant_b = c.renew_written-3.new.store;
      candidate = c.renew_written-4.new.store;
    } in
    let k = c.args.number in
    let done = λ (d : Copy). rest_code (of_copy c.args.done.now d) in
    let stores = c.args.stores.now in
    let old = stores_in (trees_in u) stores in
    fun_ext (each_copy (λ (d : Copy). stores_in (trees_in w4) r d ≡ renewed k done old d)
    (renewed_more u u w1 w4 (grows-not u u refl) from1 k O (assigns (done O)) stores.base r.base (c.requires.ready O).0 o.ensures.ready.0
    o.ensures.made)
    (renewed_more u w1 w2 w4 g1 from2 k A (assigns (done A)) stores.variant_a r.variant_a (c.requires.ready A).0 a.ensures.ready.0
    a.ensures.made)
    (renewed_more u w2 w3 w4 u2 from3 k B (assigns (done B)) stores.variant_b r.variant_b (c.requires.ready B).0 b.ensures.ready.0
    b.ensures.made)
    (renewed_more u w3 w4 w4 u3 (grows-not w4 w4 refl) k M (assigns (done M)) stores.candidate r.candidate (c.requires.ready M).0
    m.ensures.ready.0
    m.ensures.made))

pub returns-clause-ready : goal.returns-clause-ready
returns-clause-ready c =
    let u = c.args.table.now in
    let w1 = c.renew_written.new.table in
    let w2 = c.renew_written-2.new.table in
    let w3 = c.renew_written-3.new.table in
    let w4 = c.renew_written-4.new.table in
    let g1 = c.renew_written.ensures.grows in
    let g2 = c.renew_written-2.ensures.grows in
    let g3 = c.renew_written-3.ensures.grows in
    let g4 = c.renew_written-4.ensures.grows in
    let u2 = grows-twice u w1 w2 g1 g2 in
    let u3 = grows-twice u w2 w3 u2 g3 in
    let from3 = g4 in
    let from2 = grows-twice w2 w3 w4 g3 g4 in
    let from1 = grows-twice w1 w2 w4 g2 from2 in
    let o = c.in_ok-renew_written in
    let a = c.in_ok-renew_written-2 in
    let b = c.in_ok-renew_written-3 in
    let m = c.in_ok-renew_written-4 in
    let r : PerCopy SymStore = record {
      base = c.renew_written.new.store;
      variant_a = c.renew_written-2.new.store;
      variant_b = c.renew_written-3.new.store;
      candidate = c.renew_written-4.new.store;
    } in
    each_copy (λ (d : Copy). IsStoreReady (sorts_in w4) (trees_in w4) (of_copy r d))
    (ready_more w1 w4 from1 r.base o.ensures.ready) (ready_more w2 w4 from2 r.variant_a a.ensures.ready)
    (ready_more w3 w4 from3 r.variant_b b.ensures.ready) m.ensures.ready

pub returns-clause-full : goal.returns-clause-full
returns-clause-full c =
    let u = c.args.table.now in
    let w1 = c.renew_written.new.table in
    let w2 = c.renew_written-2.new.table in
    let w3 = c.renew_written-3.new.table in
    let w4 = c.renew_written-4.new.table in
    let g1 = c.renew_written.ensures.grows in
    let g2 = c.renew_written-2.ensures.grows in
    let g3 = c.renew_written-3.ensures.grows in
    let g4 = c.renew_written-4.ensures.grows in
    let u2 = grows-twice u w1 w2 g1 g2 in
    let u3 = grows-twice u w2 w3 u2 g3 in
    let from3 = g4 in
    let from2 = grows-twice w2 w3 w4 g3 g4 in
    let from1 = grows-twice w1 w2 w4 g2 from2 in
    let o = c.in_ok-renew_written in
    let a = c.in_ok-renew_written-2 in
    let b = c.in_ok-renew_written-3 in
    let m = c.in_ok-renew_written-4 in
    let r : PerCopy SymStore = record {
      base = c.renew_written.new.store;
      variant_a = c.renew_written-2.new.store;
      variant_b = c.renew_written-3.new.store;
      candidate = c.renew_written-4.new.store;
    } in
    each_copy (λ (d : Copy). IsStoreFull (sorts_in w4) (of_copy r d))
    (full_more w1 w4 from1 r.base o.ensures.full) (full_more w2 w4 from2 r.variant_a a.ensures.full)
    (full_more w3 w4 from3 r.variant_b b.ensures.full) m.ensures.full
