-- The walk goes down to a part that isn't known, or up with one number more that is.
use Rattle.sm_plan.proofs.Imports.{◌≡◌, ◌+◌, ℕ, List, [], ◌∷◌, ◌++◌, slice_get, nat_eq, Some, sym, subst, arith, common_steps, get, fill_term, trees_in, tree_at, grows-twice, IsFound, IsWay, AreOpen, unknown_below, stores_in}
use Rattle.sm_plan.proofs.FillingGrows.{longer, stores_ready, known_more, filled_from}
use Rattle.sm_plan.proofs.FillingWalk.{way_below, way_pushed, way_popped, open_pushed, open_popped, way_open, known_gains, unknown_less, way_start}
use Rattle.sm_plan.proofs.filling.walked.Goals as goal
use Rattle.sm_lemmas.proofs.Numbers.{rounds_less}

pub number_of-requires-clause-inside : goal.number_of-requires-clause-inside
number_of-requires-clause-inside c =
    let below = way_below c.args.t.0 c.walk.waiting.items c.walk.next c.walk.invariant.way in
    let long = longer c.args.table.now c.walk.table c.walk.invariant.grows in
    let inside = c.requires.inside in
    omega arith

pub number_of-requires-clause-stores : goal.number_of-requires-clause-stores
number_of-requires-clause-stores c = stores_ready c.args.table.now c.walk.table c.walk.invariant.grows c.args.stores.now c.requires.stores

pub walk-preserved-in-Part : goal.walk-preserved-in-Part
walk-preserved-in-Part c =
    let t = c.args.t.0 in
    let v = c.walk.table in
    let w = c.number_of.new.table in
    let stores = c.args.stores.now in
    let known = get nat_eq c.walk.known in
    let ready = stores_ready c.args.table.now v c.walk.invariant.grows stores c.requires.stores in
    let found = subst (IsFound w (stores_in (trees_in w) stores) known c.walk.next) c.in-Part.is c.in_ok-p.ensures.number in
    let items : c.push.new.self.items ≡ c.walk.waiting.items ++ c.walk.next ∷ [] = c.in_ok-push-in-Part.ensures.items in
    record {
      grows = grows-twice c.args.table.now v w c.walk.invariant.grows c.number_of.ensures.grows;
      kept = known_more v w c.number_of.ensures.grows stores ready known c.walk.invariant.kept;
      way = subst (λ (ns : List ℕ). IsWay t ns c.in-Part.p) (sym items)
          (way_pushed t c.walk.waiting.items c.walk.next c.in-Part.p c.walk.invariant.way found.0);
      unmade = subst (AreOpen known) (sym items)
          (open_pushed known c.walk.waiting.items c.walk.next c.walk.invariant.unmade c.walk.invariant.last);
      last = found.1;
    }

pub walk-smaller : goal.walk-smaller
walk-smaller c =
    let t = c.args.t.0 in
    let old = get nat_eq c.walk.known in
    let new = get nat_eq c.insert.new.self in
    let items : c.walk.waiting.items ≡ c.pop.new.self.items ++ c.in-Some.n ∷ [] = c.in-Some.ensures.items in
    let up = way_popped t c.pop.new.self.items c.in-Some.n c.walk.next
    (subst (λ (ns : List ℕ). IsWay t ns c.walk.next) items c.walk.invariant.way) in
    let top = way_below t c.pop.new.self.items c.in-Some.n up.0 in
    let next = way_below t c.walk.waiting.items c.walk.next c.walk.invariant.way in
    rounds_less (unknown_below new (t + 1)) (unknown_below old (t + 1)) t c.in-Some.n c.walk.next
    (unknown_less old new c.walk.next c.in-Number.id c.in_ok-insert-in-Number.ensures.updates.0 (t + 1) (omega arith) c.walk.invariant.last)
    top

pub walk-preserved : goal.walk-preserved
walk-preserved c =
    let t = c.args.t.0 in
    let u = c.args.table.now in
    let v = c.walk.table in
    let w = c.number_of.new.table in
    let stores = c.args.stores.now in
    let s = stores_in (trees_in w) stores in
    let old = get nat_eq c.walk.known in
    let new = get nat_eq c.insert.new.self in
    let gains = c.in_ok-insert-in-Number.ensures.updates.0 in
    let ready = stores_ready u v c.walk.invariant.grows stores c.requires.stores in
    let found = subst (IsFound w s old c.walk.next) c.in-Number.is c.in_ok-p.ensures.number in
    let items : c.walk.waiting.items ≡ c.pop.new.self.items ++ c.in-Some.n ∷ [] = c.in-Some.ensures.items in
    let way = subst (λ (ns : List ℕ). IsWay t ns c.walk.next) items c.walk.invariant.way in
    let up = way_popped t c.pop.new.self.items c.in-Some.n c.walk.next way in
    let none = way_open old new c.walk.next c.in-Number.id gains t c.walk.waiting.items c.walk.invariant.way c.walk.invariant.unmade in
    let left = open_popped new c.pop.new.self.items c.in-Some.n (subst (AreOpen new) items none) in
    let all = grows-twice u v w c.walk.invariant.grows c.number_of.ensures.grows in
    let below = way_below t c.walk.waiting.items c.walk.next c.walk.invariant.way in
    let long = longer u w all in
    let first = c.requires.inside in
    record {
      grows = all;
      kept = known_gains old new c.walk.next c.in-Number.id gains w s
          (known_more v w c.number_of.ensures.grows stores ready old c.walk.invariant.kept) (omega arith) found;
      way = up.0;
      unmade = left.0;
      last = left.1;
    }

pub returns-in_err-p-clause-grows : goal.returns-in_err-p-clause-grows
returns-in_err-p-clause-grows c =
    grows-twice c.args.table.now c.walk.table c.number_of.new.table c.walk.invariant.grows c.number_of.ensures.grows

pub returns-in_err-push-in-Part-clause-grows : goal.returns-in_err-push-in-Part-clause-grows
returns-in_err-push-in-Part-clause-grows c =
    grows-twice c.args.table.now c.walk.table c.number_of.new.table c.walk.invariant.grows c.number_of.ensures.grows

pub returns-in_err-insert-in-Number-clause-grows : goal.returns-in_err-insert-in-Number-clause-grows
returns-in_err-insert-in-Number-clause-grows c =
    grows-twice c.args.table.now c.walk.table c.number_of.new.table c.walk.invariant.grows c.number_of.ensures.grows

pub returns-in-None-clause-grows : goal.returns-in-None-clause-grows
returns-in-None-clause-grows c =
    grows-twice c.args.table.now c.walk.table c.number_of.new.table c.walk.invariant.grows c.number_of.ensures.grows

pub returns-in-None-clause-made : goal.returns-in-None-clause-made
returns-in-None-clause-made c =
    let t = c.args.t.0 in
    let u = c.args.table.now in
    let v = c.walk.table in
    let w = c.number_of.new.table in
    let stores = c.args.stores.now in
    let s = stores_in (trees_in w) stores in
    let old = get nat_eq c.walk.known in
    let found = subst (IsFound w s old c.walk.next) c.in-Number.is c.in_ok-p.ensures.number in
    let all = grows-twice u v w c.walk.invariant.grows c.number_of.ensures.grows in
    let none : c.walk.waiting.items ≡ [] = let every = c.in-None.ensures in grind (arith, common_steps, every) in
    let start = way_start t c.walk.waiting.items c.walk.next c.walk.invariant.way none in
    filled_from u w all stores c.requires.stores t c.in-Number.id c.requires.inside
    (subst (λ (n : ℕ). slice_get (trees_in w) c.in-Number.id.0 ≡ Some (fill_term s (tree_at (trees_in w) n))) start found)

pub returns-in-None-clause-known : goal.returns-in-None-clause-known
returns-in-None-clause-known c =
    let t = c.args.t.0 in
    let u = c.args.table.now in
    let v = c.walk.table in
    let w = c.number_of.new.table in
    let stores = c.args.stores.now in
    let s = stores_in (trees_in w) stores in
    let old = get nat_eq c.walk.known in
    let new = get nat_eq c.insert.new.self in
    let gains = c.in_ok-insert-in-Number.ensures.updates.0 in
    let ready = stores_ready u v c.walk.invariant.grows stores c.requires.stores in
    let found = subst (IsFound w s old c.walk.next) c.in-Number.is c.in_ok-p.ensures.number in
    let all = grows-twice u v w c.walk.invariant.grows c.number_of.ensures.grows in
    let below = way_below t c.walk.waiting.items c.walk.next c.walk.invariant.way in
    let long = longer u w all in
    let first = c.requires.inside in
    known_gains old new c.walk.next c.in-Number.id gains w s
    (known_more v w c.number_of.ensures.grows stores ready old c.walk.invariant.kept) (omega arith) found
