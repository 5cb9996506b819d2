-- One copy after the other, each over the table with those before it.
use Rattle.sm_plan.proofs.Imports.{◌≡◌, Option, refl, Copy, O, A, B, M, of_copy, PerCopy, Formula, store_in, trees_in, sorts_in, grows-not, grows-twice, has, guard_forms, guards_at, set_of, IsFormReady, rest_code, stores_in, each_copy}
use Rattle.std.proofs.Common.{IfSome}
use Rattle.sm_plan.proofs.HeadsLemmas.{guard_more, guard_ready}
use Rattle.sm_plan.proofs.RenewedStores.{well_more, ready_more}
use Rattle.sm_plan.proofs.loops.put_guards.Goals as goal

pub put_guard-requires-clause-rest : goal.put_guard-requires-clause-rest
put_guard-requires-clause-rest c = c.requires.rests O

pub put_guard-requires-clause-ready : goal.put_guard-requires-clause-ready
put_guard-requires-clause-ready c = c.requires.stores O

pub put_guard-requires-2-clause-rest : goal.put_guard-requires-2-clause-rest
put_guard-requires-2-clause-rest c =
    let u = c.args.table.now in
    let v = c.put_guard.new.table in
    let g = c.put_guard.ensures.grows in
    well_more u v g (rest_code c.args.rests.now.variant_a) (c.requires.rests A)

pub put_guard-requires-2-clause-ready : goal.put_guard-requires-2-clause-ready
put_guard-requires-2-clause-ready c =
    let u = c.args.table.now in
    let v = c.put_guard.new.table in
    let g = c.put_guard.ensures.grows in
    ready_more u v g c.args.stores.now.variant_a (c.requires.stores A)

pub put_guard-requires-3-clause-rest : goal.put_guard-requires-3-clause-rest
put_guard-requires-3-clause-rest c =
    let u = c.args.table.now in
    let v = c.put_guard-2.new.table in
    let g = grows-twice u c.put_guard.new.table c.put_guard-2.new.table (c.put_guard.ensures.grows) c.put_guard-2.ensures.grows in
    well_more u v g (rest_code c.args.rests.now.variant_b) (c.requires.rests B)

pub put_guard-requires-3-clause-ready : goal.put_guard-requires-3-clause-ready
put_guard-requires-3-clause-ready c =
    let u = c.args.table.now in
    let v = c.put_guard-2.new.table in
    let g = grows-twice u c.put_guard.new.table c.put_guard-2.new.table (c.put_guard.ensures.grows) c.put_guard-2.ensures.grows in
    ready_more u v g c.args.stores.now.variant_b (c.requires.stores B)

pub put_guard-requires-4-clause-rest : goal.put_guard-requires-4-clause-rest
put_guard-requires-4-clause-rest c =
    let u = c.args.table.now in
    let v = c.put_guard-3.new.table in
    let g = grows-twice u c.put_guard-2.new.table c.put_guard-3.new.table
    (grows-twice u c.put_guard.new.table c.put_guard-2.new.table (c.put_guard.ensures.grows) c.put_guard-2.ensures.grows) c.put_guard-3.ensures.grows in
    well_more u v g (rest_code c.args.rests.now.candidate) (c.requires.rests M)

pub put_guard-requires-4-clause-ready : goal.put_guard-requires-4-clause-ready
put_guard-requires-4-clause-ready c =
    let u = c.args.table.now in
    let v = c.put_guard-3.new.table in
    let g = grows-twice u c.put_guard-2.new.table c.put_guard-3.new.table
    (grows-twice u c.put_guard.new.table c.put_guard-2.new.table (c.put_guard.ensures.grows) c.put_guard-2.ensures.grows) c.put_guard-3.ensures.grows in
    ready_more u v g c.args.stores.now.candidate (c.requires.stores M)

pub returns-in_err-put_guard-clause-grows : goal.returns-in_err-put_guard-clause-grows
returns-in_err-put_guard-clause-grows c = c.put_guard.ensures.grows

pub returns-in_err-put_guard-2-clause-grows : goal.returns-in_err-put_guard-2-clause-grows
returns-in_err-put_guard-2-clause-grows c =
    grows-twice c.args.table.now c.put_guard.new.table c.put_guard-2.new.table c.put_guard.ensures.grows c.put_guard-2.ensures.grows

pub returns-in_err-put_guard-3-clause-grows : goal.returns-in_err-put_guard-3-clause-grows
returns-in_err-put_guard-3-clause-grows c =
    let u = c.args.table.now in
    let w2 = c.put_guard-2.new.table in
    let u2 = grows-twice u c.put_guard.new.table w2 c.put_guard.ensures.grows c.put_guard-2.ensures.grows in
    grows-twice u w2 c.put_guard-3.new.table u2 c.put_guard-3.ensures.grows

pub returns-in_err-put_guard-4-clause-grows : goal.returns-in_err-put_guard-4-clause-grows
returns-in_err-put_guard-4-clause-grows c =
    let u = c.args.table.now in
    let w2 = c.put_guard-2.new.table in
    let w3 = c.put_guard-3.new.table in
    let u2 = grows-twice u c.put_guard.new.table w2 c.put_guard.ensures.grows c.put_guard-2.ensures.grows in
    let u3 = grows-twice u w2 w3 u2 c.put_guard-3.ensures.grows in
    grows-twice u w3 c.put_guard-4.new.table u3 c.put_guard-4.ensures.grows

pub returns-clause-grows : goal.returns-clause-grows
returns-clause-grows c =
    let u = c.args.table.now in
    let w2 = c.put_guard-2.new.table in
    let w3 = c.put_guard-3.new.table in
    let u2 = grows-twice u c.put_guard.new.table w2 c.put_guard.ensures.grows c.put_guard-2.ensures.grows in
    let u3 = grows-twice u w2 w3 u2 c.put_guard-3.ensures.grows in
    grows-twice u w3 c.put_guard-4.new.table u3 c.put_guard-4.ensures.grows

pub returns-clause-made : goal.returns-clause-made
returns-clause-made c =
    let u = c.args.table.now in
    let w1 = c.put_guard.new.table in
    let w2 = c.put_guard-2.new.table in
    let w3 = c.put_guard-3.new.table in
    let w4 = c.put_guard-4.new.table in
    let g1 = c.put_guard.ensures.grows in
    let g2 = c.put_guard-2.ensures.grows in
    let g3 = c.put_guard-3.ensures.grows in
    let g4 = c.put_guard-4.ensures.grows in
    let u2 = grows-twice u w1 w2 g1 g2 in
    let u3 = grows-twice u w2 w3 u2 g3 in
    let u4 = grows-twice u w3 w4 u3 g4 in
    let from3 = g4 in
    let from2 = grows-twice w2 w3 w4 g3 g4 in
    let from1 = grows-twice w1 w2 w4 g2 from2 in
    let o = c.in_ok-put_guard in
    let a = c.in_ok-put_guard-2 in
    let b = c.in_ok-put_guard-3 in
    let m = c.in_ok-put_guard-4 in
    let r : PerCopy (Option Formula) = record {
      base = c.put_guard.new.place;
      variant_a = c.put_guard-2.new.place;
      variant_b = c.put_guard-3.new.place;
      candidate = c.put_guard-4.new.place;
    } in
    let set = set_of c.args.set in
    let rests = c.args.rests.now in
    let stores = c.args.stores.now in
    let rest = λ (d : Copy). rest_code (of_copy rests d) in
    let made_o = guard_more u u w1 w4 (grows-not u u refl) from1 (has set O) (rest O) stores.base r.base (c.requires.stores O).0
    o.ensures.within o.ensures.made in
    let made_a = guard_more u w1 w2 w4 g1 from2 (has set A) (rest A) stores.variant_a r.variant_a (c.requires.stores A).0 a.ensures.within
    a.ensures.made in
    let made_b = guard_more u w2 w3 w4 u2 from3 (has set B) (rest B) stores.variant_b r.variant_b (c.requires.stores B).0 b.ensures.within
    b.ensures.made in
    let made_m = guard_more u w3 w4 w4 u3 (grows-not w4 w4 refl) (has set M) (rest M) stores.candidate r.candidate (c.requires.stores M).0
    m.ensures.within
    m.ensures.made in
    each_copy (λ (d : Copy). guard_forms (sorts_in w4) (trees_in w4) r d ≡ guards_at set rest (stores_in (trees_in u) stores) d) made_o
    made_a made_b made_m

pub returns-clause-ready : goal.returns-clause-ready
returns-clause-ready c =
    let u = c.args.table.now in
    let w1 = c.put_guard.new.table in
    let w2 = c.put_guard-2.new.table in
    let w3 = c.put_guard-3.new.table in
    let w4 = c.put_guard-4.new.table in
    let g1 = c.put_guard.ensures.grows in
    let g2 = c.put_guard-2.ensures.grows in
    let g3 = c.put_guard-3.ensures.grows in
    let g4 = c.put_guard-4.ensures.grows in
    let u2 = grows-twice u w1 w2 g1 g2 in
    let u3 = grows-twice u w2 w3 u2 g3 in
    let u4 = grows-twice u w3 w4 u3 g4 in
    let from3 = g4 in
    let from2 = grows-twice w2 w3 w4 g3 g4 in
    let from1 = grows-twice w1 w2 w4 g2 from2 in
    let o = c.in_ok-put_guard in
    let a = c.in_ok-put_guard-2 in
    let b = c.in_ok-put_guard-3 in
    let m = c.in_ok-put_guard-4 in
    let r : PerCopy (Option Formula) = record {
      base = c.put_guard.new.place;
      variant_a = c.put_guard-2.new.place;
      variant_b = c.put_guard-3.new.place;
      candidate = c.put_guard-4.new.place;
    } in
    let set = set_of c.args.set in
    let rests = c.args.rests.now in
    let stores = c.args.stores.now in
    let rest = λ (d : Copy). rest_code (of_copy rests d) in
    let made_o = guard_more u u w1 w4 (grows-not u u refl) from1 (has set O) (rest O) stores.base r.base (c.requires.stores O).0
    o.ensures.within o.ensures.made in
    let made_a = guard_more u w1 w2 w4 g1 from2 (has set A) (rest A) stores.variant_a r.variant_a (c.requires.stores A).0 a.ensures.within
    a.ensures.made in
    let made_b = guard_more u w2 w3 w4 u2 from3 (has set B) (rest B) stores.variant_b r.variant_b (c.requires.stores B).0 b.ensures.within
    b.ensures.made in
    let made_m = guard_more u w3 w4 w4 u3 (grows-not w4 w4 refl) (has set M) (rest M) stores.candidate r.candidate (c.requires.stores M).0
    m.ensures.within
    m.ensures.made in
    each_copy (λ (d : Copy). IfSome (of_copy r d) (IsFormReady (sorts_in w4) (trees_in w4)))
    (guard_ready u w1 w4 u4 from1 (has set O) (rest O) (store_in (trees_in u) stores.base) r.base (c.requires.rests O) (c.requires.stores O).1
    o.ensures.within made_o)
    (guard_ready u w2 w4 u4 from2 (has set A) (rest A) (store_in (trees_in u) stores.variant_a) r.variant_a (c.requires.rests A)
    (c.requires.stores A).1 a.ensures.within made_a)
    (guard_ready u w3 w4 u4 from3 (has set B) (rest B) (store_in (trees_in u) stores.variant_b) r.variant_b (c.requires.rests B)
    (c.requires.stores B).1 b.ensures.within made_b)
    (guard_ready u w4 w4 u4 (grows-not w4 w4 refl) (has set M) (rest M) (store_in (trees_in u) stores.candidate) r.candidate (c.requires.rests M)
    (c.requires.stores M).1
    m.ensures.within made_m)
