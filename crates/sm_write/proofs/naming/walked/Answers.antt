-- The walk goes down to a part that has no number, or up with one number more.
use Rattle.sm_write.proofs.Imports.{◌≡◌, ◌+◌, ◌<◌, ℕ, List, [], ◌∷◌, ◌++◌, nat_eq, length, sym, subst, arith, get, trees_in, IsWay, AreOpen, unknown_below, IsStep, value_of}
use Rattle.std.proofs.lemmas.Grind.{common_steps}
use Rattle.sm_plan.proofs.FillingWalk.{way_below, way_pushed, way_popped, open_pushed, open_popped, way_open, unknown_less, way_start}
use Rattle.sm_write.proofs.WalkedLemmas.{walk_down, walk_written, walk_up, gained_at}
use Rattle.sm_write.proofs.naming.walked.Goals as goal
use Rattle.sm_lemmas.proofs.Numbers.{rounds_less}

pub step_of-requires : goal.step_of-requires
step_of-requires c =
    let below = way_below c.args.t.0 c.walk.waiting.items c.walk.next c.walk.invariant.way in
    let inside = c.requires.inside in
    omega arith

pub walk-preserved-in-Part : goal.walk-preserved-in-Part
walk-preserved-in-Part c =
    let t = c.args.t.0 in
    let v = c.args.table.now in
    let names = get nat_eq c.walk.w.names in
    let part = subst (IsStep v names c.walk.next) c.in-Part.is c.step_of.ensures in
    let items : c.push.new.self.items ≡ c.walk.waiting.items ++ c.walk.next ∷ [] = c.in_ok-push-in-Part.ensures.items in
    record {
      way = subst (λ (ns : List ℕ). IsWay t ns c.in-Part.p) (sym items)
          (way_pushed t c.walk.waiting.items c.walk.next c.in-Part.p c.walk.invariant.way part.before);
      unmade = subst (AreOpen names) (sym items)
          (open_pushed names c.walk.waiting.items c.walk.next c.walk.invariant.unmade c.walk.invariant.last);
      last = part.unnamed;
      walks = walk_down v (value_of c.args.w.now) (value_of c.walk.w) t c.walk.waiting.items c.push.new.self.items c.walk.next c.in-Part.p
          c.walk.invariant.walks items part;
    }

pub walk-smaller : goal.walk-smaller
walk-smaller c =
    let t = c.args.t.0 in
    let old = get nat_eq c.walk.w.names in
    let new = get nat_eq c.add_term.new.w.names in
    let items : c.walk.waiting.items ≡ c.pop.new.self.items ++ c.in-Some.n ∷ [] = c.in-Some.ensures.items in
    let up = way_popped t c.pop.new.self.items c.in-Some.n c.walk.next
    (subst (λ (ns : List ℕ). IsWay t ns c.walk.next) items c.walk.invariant.way) in
    let top = way_below t c.pop.new.self.items c.in-Some.n up.0 in
    let next = way_below t c.walk.waiting.items c.walk.next c.walk.invariant.way in
    rounds_less (unknown_below new (t + 1)) (unknown_below old (t + 1)) t c.in-Some.n c.walk.next
    (unknown_less old new c.walk.next _ c.in_ok-add_term-in-Line.ensures.named (t + 1) (omega arith) c.walk.invariant.last)
    top

pub walk-preserved : goal.walk-preserved
walk-preserved c =
    let t = c.args.t.0 in
    let v = c.args.table.now in
    let old = get nat_eq c.walk.w.names in
    let new = get nat_eq c.add_term.new.w.names in
    let gains = c.in_ok-add_term-in-Line.ensures.named in
    let line = subst (IsStep v old c.walk.next) c.in-Line.is c.step_of.ensures in
    let items : c.walk.waiting.items ≡ c.pop.new.self.items ++ c.in-Some.n ∷ [] = c.in-Some.ensures.items in
    let way = subst (λ (ns : List ℕ). IsWay t ns c.walk.next) items c.walk.invariant.way in
    let up = way_popped t c.pop.new.self.items c.in-Some.n c.walk.next way in
    let none = way_open old new c.walk.next _ gains t c.walk.waiting.items c.walk.invariant.way c.walk.invariant.unmade in
    let left = open_popped new c.pop.new.self.items c.in-Some.n (subst (AreOpen new) items none) in
    let below = way_below t c.walk.waiting.items c.walk.next c.walk.invariant.way in
    let first = c.requires.inside in
    let inside : c.walk.next < length (trees_in v) = omega arith in
    let written = walk_written v (value_of c.args.w.now) (value_of c.walk.w) (value_of c.add_term.new.w) t c.walk.waiting.items c.walk.next
    c.in-Line.line _ c.len.ensures.apart c.walk.invariant.walks c.walk.invariant.last line c.in_ok-add_term-in-Line.ensures.stands gains inside in
    record {
      way = up.0;
      unmade = left.0;
      last = left.1;
      walks =
          walk_up v (value_of c.args.w.now) (value_of c.add_term.new.w) t c.walk.waiting.items c.pop.new.self.items c.walk.next c.in-Some.n
          written items;
    }

pub returns-in-None-clause-extends : goal.returns-in-None-clause-extends
returns-in-None-clause-extends c s seen p set built =
    let t = c.args.t.0 in
    let v = c.args.table.now in
    let old = get nat_eq c.walk.w.names in
    let gains = c.in_ok-add_term-in-Line.ensures.named in
    let line = subst (IsStep v old c.walk.next) c.in-Line.is c.step_of.ensures in
    let below = way_below t c.walk.waiting.items c.walk.next c.walk.invariant.way in
    let first = c.requires.inside in
    let inside : c.walk.next < length (trees_in v) = omega arith in
    let written = walk_written v (value_of c.args.w.now) (value_of c.walk.w) (value_of c.add_term.new.w) t c.walk.waiting.items c.walk.next
    c.in-Line.line _ c.len.ensures.apart c.walk.invariant.walks c.walk.invariant.last line c.in_ok-add_term-in-Line.ensures.stands gains inside in
    (written s seen p set built).extends

pub returns-in-None-clause-named : goal.returns-in-None-clause-named
returns-in-None-clause-named c =
    let t = c.args.t.0 in
    let old = get nat_eq c.walk.w.names in
    let new = get nat_eq c.add_term.new.w.names in
    let gains = c.in_ok-add_term-in-Line.ensures.named in
    let none : c.walk.waiting.items ≡ [] = let every = c.in-None.ensures in grind (arith, common_steps, every) in
    let start = way_start t c.walk.waiting.items c.walk.next c.walk.invariant.way none in
    gained_at old new c.walk.next c.args.t _ gains start
