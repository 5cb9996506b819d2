-- One name more has its summary.
use Rattle.sm_plan.proofs.Imports.{◌≡◌, ℕ, ◌<◌, true, List, [], Some, length, take, get_or, slice_get, refl, sym, ap, subst, ◌∙◌, arith, take_all, Name, is_in, Sorts, code_of, assigns, inputs, assigned_declared, IsDeclaredIn, SymbolicStore, with_term, store_in, SymStore, trees_in, sorts_in, AreBefore, TermId, ExtendsTable, Fun, grows-twice, grows-not, IsStoreFull, present}
use Rattle.std.proofs.Common.{append-nil}
use Rattle.std.proofs.Math.ListN.{length-set}
use Rattle.sm_term.proofs.AdoptionLemmas.{widens}
use Rattle.sm_plan.proofs.PartsMoved.{listed}
use Rattle.sm_plan.proofs.StoresSet.{store_written, within_written}
use Rattle.sm_plan.proofs.SummariesLemmas.{numbers, name_in, numbers_more, length-numbers, summed, summed_more, summed_all}
use Rattle.sm_plan.proofs.TablesWiden.{widens_grown, widens_twice, store_stays, store_ready}
use Rattle.sm_plan.proofs.summaries.summarize.Goals as goal

pub summary-requires-clause-declared : goal.summary-requires-clause-declared
summary-requires-clause-declared c =
    let v = c.args.table.now in
    let b = c.body.new.self in
    let code = code_of c.args.block.now in
    let base : ExtendsTable v b = widens v b c.body.ensures.rows ([], c.body.ensures.trees ∙ sym (append-nil (trees_in v))) in
    let u = c.loop-x.table in
    let wider : ExtendsTable v u = widens_twice v b u base (widens_grown b u c.loop-x.invariant.grows) in
    let ns : List Name = c.deref-x-items.result.now in
    let i = c.loop-x.x-index in
    let x = (get_or ns i (record { 0 = 0 })).0 in
    let assigned : assigns code x ≡ true =
    sym (c.in_ok-names.ensures.names x) ∙ ap (λ (l : List Name). is_in (numbers l) x) (sym c.deref-x-items.ensures.value)
    ∙ name_in ns i c.loop-x-test.true in
    let declared : IsDeclaredIn (sorts_in v) x = assigned_declared (sorts_in v) code x c.requires.well assigned in
    subst (λ (f : Sorts). IsDeclaredIn f x) (sym wider.sorts) declared

pub summary-requires-clause-ready : goal.summary-requires-clause-ready
summary-requires-clause-ready c =
    let v = c.args.table.now in
    let b = c.body.new.self in
    let s = c.args.store.now in
    let base : ExtendsTable v b = widens v b c.body.ensures.rows ([], c.body.ensures.trees ∙ sym (append-nil (trees_in v))) in
    let u = c.loop-x.table in
    let wider : ExtendsTable v u = widens_twice v b u base (widens_grown b u c.loop-x.invariant.grows) in
    store_ready v u wider s c.requires.ready

pub summary-requires-clause-full : goal.summary-requires-clause-full
summary-requires-clause-full c =
    let v = c.args.table.now in
    let b = c.body.new.self in
    let s = c.args.store.now in
    let base : ExtendsTable v b = widens v b c.body.ensures.rows ([], c.body.ensures.trees ∙ sym (append-nil (trees_in v))) in
    let u = c.loop-x.table in
    let wider : ExtendsTable v u = widens_twice v b u base (widens_grown b u c.loop-x.invariant.grows) in
    subst (λ (f : Sorts). IsStoreFull f s) (sym wider.sorts) c.requires.full

pub put-requires : goal.put-requires
put-requires c =
    let v = c.args.table.now in
    let code = code_of c.args.block.now in
    let ns : List Name = c.deref-x-items.result.now in
    let i = c.loop-x.x-index in
    let x = (get_or ns i (record { 0 = 0 })).0 in
    let assigned : assigns code x ≡ true =
    sym (c.in_ok-names.ensures.names x) ∙ ap (λ (l : List Name). is_in (numbers l) x) (sym c.deref-x-items.ensures.value)
    ∙ name_in ns i c.loop-x-test.true in
    let declared : IsDeclaredIn (sorts_in v) x = assigned_declared (sorts_in v) code x c.requires.well assigned in
    let h = c.requires.full x declared in omega (arith, h, c.loop-x.invariant.len)

pub returns-in_err-body-clause-widens : goal.returns-in_err-body-clause-widens
returns-in_err-body-clause-widens c =
    let v = c.args.table.now in
    widens v c.body.new.self c.body.ensures.rows ([], c.body.ensures.trees ∙ sym (append-nil (trees_in v)))

pub returns-in_err-names-clause-widens : goal.returns-in_err-names-clause-widens
returns-in_err-names-clause-widens c =
    let v = c.args.table.now in
    widens v c.body.new.self c.body.ensures.rows ([], c.body.ensures.trees ∙ sym (append-nil (trees_in v)))

pub returns-in_err-t-clause-widens : goal.returns-in_err-t-clause-widens
returns-in_err-t-clause-widens c =
    let v = c.args.table.now in
    let b = c.body.new.self in
    let base : ExtendsTable v b = widens v b c.body.ensures.rows ([], c.body.ensures.trees ∙ sym (append-nil (trees_in v))) in
    let z = c.summary.new.table in
    widens_twice v b z base (widens_grown b z (grows-twice b c.loop-x.table z c.loop-x.invariant.grows c.summary.ensures.grows))

pub returns-clause-widens : goal.returns-clause-widens
returns-clause-widens c =
    let v = c.args.table.now in
    let b = c.body.new.self in
    let base : ExtendsTable v b = widens v b c.body.ensures.rows ([], c.body.ensures.trees ∙ sym (append-nil (trees_in v))) in
    widens_twice v b c.loop-x.table base (widens_grown b c.loop-x.table c.loop-x.invariant.grows)

pub loop-x-init : goal.loop-x-init
loop-x-init c =
    let v = c.args.table.now in
    let b = c.body.new.self in
    let s = c.args.store.now in
    let base : ExtendsTable v b = widens v b c.body.ensures.rows ([], c.body.ensures.trees ∙ sym (append-nil (trees_in v))) in
    let same : c.in_ok-made.made.list.items ≡ s.list.items = c.in_ok-made.ensures in
    record {
      grows = grows-not b b refl;
      made = ap (listed (trees_in b)) same ∙ store_stays v b base s c.requires.ready.0;
      within = subst (AreBefore (length (trees_in b))) (sym same) (store_ready v b base s c.requires.ready).0;
      len = ap length same;
    }

pub loop-x-preserved : goal.loop-x-preserved
loop-x-preserved c =
    let v = c.args.table.now in
    let b = c.body.new.self in
    let s = c.args.store.now in
    let code = code_of c.args.block.now in
    let base : ExtendsTable v b = widens v b c.body.ensures.rows ([], c.body.ensures.trees ∙ sym (append-nil (trees_in v))) in
    let u = c.loop-x.table in
    let wider : ExtendsTable v u = widens_twice v b u base (widens_grown b u c.loop-x.invariant.grows) in
    let ns : List Name = c.deref-x-items.result.now in
    let i = c.loop-x.x-index in
    let x = (get_or ns i (record { 0 = 0 })).0 in
    let assigned : assigns code x ≡ true =
    sym (c.in_ok-names.ensures.names x) ∙ ap (λ (l : List Name). is_in (numbers l) x) (sym c.deref-x-items.ensures.value)
    ∙ name_in ns i c.loop-x-test.true in
    let declared : IsDeclaredIn (sorts_in v) x = assigned_declared (sorts_in v) code x c.requires.well assigned in
    let z = c.summary.new.table in
    let f : SymbolicStore = store_in (trees_in v) s in
    let old : SymStore = c.loop-x.made in
    let t : TermId = c.in_ok-t.t in
    let sum = Fun code x (present f (inputs code x)) in
    let got : slice_get (trees_in z) t.0 ≡ Some sum =
    c.in_ok-t.ensures.made ∙ ap (λ (g : SymbolicStore). Some (Fun code x (present g (inputs code x))))
    (store_stays v u wider s c.requires.ready.0) in
    let inside : x < length old.list.items = let h = c.requires.full x declared in omega (arith, h, c.loop-x.invariant.len) in
    let long = ap length c.put.ensures in
    record {
      grows = grows-twice b u z c.loop-x.invariant.grows c.summary.ensures.grows;
      made =
          store_written u z c.summary.ensures.grows old c.put.new.store x t sum c.loop-x.invariant.within inside c.put.ensures got
          ∙ ap (λ (g : SymbolicStore). with_term g x sum) c.loop-x.invariant.made
          ∙ summed_more code f (take i (numbers ns)) x
          ∙ ap (summed code f) (sym (numbers_more ns i c.loop-x-test.true));
      within = within_written u z c.summary.ensures.grows old c.put.new.store x t sum c.loop-x.invariant.within c.put.ensures got;
      len = long ∙ length-set old.list.items x t ∙ c.loop-x.invariant.len;
    }

pub returns-clause-store : goal.returns-clause-store
returns-clause-store c =
    let s = c.args.store.now in
    let code = code_of c.args.block.now in
    let f : SymbolicStore = store_in (trees_in c.args.table.now) s in
    let ns : List Name = c.deref-x-items.result.now in
    let long = length-numbers ns in
    c.loop-x.invariant.made
    ∙ ap (summed code f) (take_all c.loop-x.x-index (numbers ns) (omega (arith, long, c.loop-x-test.false)))
    ∙ summed_all code f (numbers ns) (λ (y : ℕ). ap (λ (l : List Name). is_in (numbers l) y) c.deref-x-items.ensures.value
    ∙ c.in_ok-names.ensures.names y)
