-- By the kind of the term.
use Rattle.sm_plan.proofs.Imports.{rules, refl, sym, subst, nat_eq, IfOk-weaker, get, Copy, trees_in, Filling, IsFilling, IsSummary, stores_in}
use Rattle.sm_term.specs.declared.term.Term.TheVariants as row
use Rattle.sm_plan.proofs.FillingLemmas.{stands_as, slot_filled, read_filled, write_filled, neg_filled, add_filled, sub_filled, mul_filled, summary_filled}
use Rattle.sm_plan.proofs.filling.filling_of.Goals as goal

pub returns-in-Slot : goal.returns-in-Slot
returns-in-Slot c =
    let v = c.args.table.now in
    let s = stores_in (trees_in v) c.args.stores.now in
    let known = get nat_eq c.args.known.now in
    let good = λ (d : Copy). (c.requires.stores d).1 in
    let at = stands_as v c.args.t.0 c.get.result.now (row.Slot c.in-Slot.copy c.in-Slot.name) c.in-Slot.is c.get.ensures.tree
    c.get.ensures.before c.get.ensures.fits c.requires.inside in
    let made = slot_filled v s known c.requires.known good c.len-count.ensures.sorted c.args.stores.now refl
    (λ (d : Copy). (c.requires.stores d).0) c.args.t.0 c.in-Slot.copy c.in-Slot.name at in
    subst (IsFilling v s known c.args.t.0) (sym c.at_slot.ensures) made

pub returns-in-Ok : goal.returns-in-Ok
returns-in-Ok c =
    let v = c.args.table.now in
    let s = stores_in (trees_in v) c.args.stores.now in
    let known = get nat_eq c.args.known.now in
    let good = λ (d : Copy). (c.requires.stores d).1 in
    let at = stands_as v c.args.t.0 c.get.result.now (row.Read c.in-Read.a c.in-Read.i) c.in-Read.is c.get.ensures.tree c.get.ensures.before
    c.get.ensures.fits c.requires.inside in
    read_filled v s known c.requires.known good c.len-count.ensures.sorted c.args.t.0 c.in-Read.a c.in-Read.i c.in-Ok.b c.in-Ok.j at
    c.in-Ok.ensures.ok.0 c.in-Ok.ensures.ok.1

pub returns-in-Some : goal.returns-in-Some
returns-in-Some c =
    let v = c.args.table.now in
    let s = stores_in (trees_in v) c.args.stores.now in
    let known = get nat_eq c.args.known.now in
    let good = λ (d : Copy). (c.requires.stores d).1 in
    let at = stands_as v c.args.t.0 c.get.result.now (row.Write c.in-Write.a c.in-Write.i c.in-Write.e) c.in-Write.is c.get.ensures.tree
    c.get.ensures.before c.get.ensures.fits c.requires.inside in
    write_filled v s known c.requires.known good c.len-count.ensures.sorted c.args.t.0 c.in-Write.a c.in-Write.i c.in-Write.e c.in-Ok-pair.b
    c.in-Ok-pair.j c.in-Some.d.now at c.in-Ok-pair.ensures.ok.0 c.in-Ok-pair.ensures.ok.1
    (search rules)

pub returns-in-Some-get : goal.returns-in-Some-get
returns-in-Some-get c =
    let v = c.args.table.now in
    let s = stores_in (trees_in v) c.args.stores.now in
    let known = get nat_eq c.args.known.now in
    let good = λ (d : Copy). (c.requires.stores d).1 in
    let at = stands_as v c.args.t.0 c.get.result.now (row.Neg c.in-Neg.a) c.in-Neg.is c.get.ensures.tree c.get.ensures.before
    c.get.ensures.fits c.requires.inside in
    neg_filled v s known c.requires.known good c.len-count.ensures.sorted c.args.t.0 c.in-Neg.a c.in-Some-get.b.now at (search rules)

pub returns-in-Ok-pair-2 : goal.returns-in-Ok-pair-2
returns-in-Ok-pair-2 c =
    let v = c.args.table.now in
    let s = stores_in (trees_in v) c.args.stores.now in
    let known = get nat_eq c.args.known.now in
    let good = λ (d : Copy). (c.requires.stores d).1 in
    let at = stands_as v c.args.t.0 c.get.result.now (row.Add c.in-Add.a c.in-Add.i) c.in-Add.is c.get.ensures.tree c.get.ensures.before
    c.get.ensures.fits c.requires.inside in
    add_filled v s known c.requires.known good c.len-count.ensures.sorted c.args.t.0 c.in-Add.a c.in-Add.i c.in-Ok-pair-2.b c.in-Ok-pair-2.j
    at c.in-Ok-pair-2.ensures.ok.0 c.in-Ok-pair-2.ensures.ok.1

pub returns-in-Ok-pair-3 : goal.returns-in-Ok-pair-3
returns-in-Ok-pair-3 c =
    let v = c.args.table.now in
    let s = stores_in (trees_in v) c.args.stores.now in
    let known = get nat_eq c.args.known.now in
    let good = λ (d : Copy). (c.requires.stores d).1 in
    let at = stands_as v c.args.t.0 c.get.result.now (row.Sub c.in-Sub.a c.in-Sub.i) c.in-Sub.is c.get.ensures.tree c.get.ensures.before
    c.get.ensures.fits c.requires.inside in
    sub_filled v s known c.requires.known good c.len-count.ensures.sorted c.args.t.0 c.in-Sub.a c.in-Sub.i c.in-Ok-pair-3.b c.in-Ok-pair-3.j
    at c.in-Ok-pair-3.ensures.ok.0 c.in-Ok-pair-3.ensures.ok.1

pub returns-in-Ok-pair-4 : goal.returns-in-Ok-pair-4
returns-in-Ok-pair-4 c =
    let v = c.args.table.now in
    let s = stores_in (trees_in v) c.args.stores.now in
    let known = get nat_eq c.args.known.now in
    let good = λ (d : Copy). (c.requires.stores d).1 in
    let at = stands_as v c.args.t.0 c.get.result.now (row.Mul c.in-Mul.a c.in-Mul.i) c.in-Mul.is c.get.ensures.tree c.get.ensures.before
    c.get.ensures.fits c.requires.inside in
    mul_filled v s known c.requires.known good c.len-count.ensures.sorted c.args.t.0 c.in-Mul.a c.in-Mul.i c.in-Ok-pair-4.b c.in-Ok-pair-4.j
    at c.in-Ok-pair-4.ensures.ok.0 c.in-Ok-pair-4.ensures.ok.1

pub returns-in-Fun : goal.returns-in-Fun
returns-in-Fun c =
    let v = c.args.table.now in
    let s = stores_in (trees_in v) c.args.stores.now in
    let known = get nat_eq c.args.known.now in
    let good = λ (d : Copy). (c.requires.stores d).1 in
    let at = stands_as v c.args.t.0 c.get.result.now (row.Fun c.in-Fun.body c.in-Fun.name c.in-Fun.from c.in-Fun.args) c.in-Fun.is
    c.get.ensures.tree c.get.ensures.before c.get.ensures.fits c.requires.inside in
    IfOk-weaker c.summary.result (λ (f : Filling). IsSummary known c.in-Fun.body c.in-Fun.name c.in-Fun.from c.in-Fun.args f)
    (λ (f : Filling). IsFilling v s known c.args.t.0 f)
    (λ (f : Filling) (h : IsSummary known c.in-Fun.body c.in-Fun.name c.in-Fun.from c.in-Fun.args f).
    summary_filled v s known c.requires.known good c.len-count.ensures.sorted c.args.t.0 c.in-Fun.body c.in-Fun.name c.in-Fun.from
    c.in-Fun.args f at h)
    c.summary.ensures
