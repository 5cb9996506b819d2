-- The walk goes down to a part that has no form, or up with one form more.
use Rattle.sm_theory.proofs.Imports.{◌≡◌, ◌+◌, ◌*◌, ℕ, List, [], ◌∷◌, ◌++◌, nat_eq, Some, None, Option, refl, sym, ap, subst, ◌∙◌, arith, get, lookup, Linear, trees_in, tree_at, linear_of, IsKeptFor, IsFound, IsWay, AreOpen, missing_below}
use Rattle.std.proofs.lemmas.Grind.{common_steps}
use Rattle.sm_theory.proofs.WalkLemmas.{way_below, way_pushed, way_popped, open_pushed, open_popped, way_open, forms_gain, missing_less, way_start}
use Rattle.sm_theory.proofs.linear.lin_of.Goals as goal
use Rattle.sm_lemmas.proofs.Numbers.{rounds_less, sum_less}

-- nothing is there at first
none_there : (f : ℕ → Option (Linear ℕ)) → ((n : ℕ) → f n ≡ None) → (n : ℕ) (h : Linear ℕ) → f n ≡ Some h → ⊥
none_there f none n h e = let wrong : None ≡ Some h = sym (none n) ∙ e in absurd cc

pub walk-init : goal.walk-init
walk-init c =
    let forms = get nat_eq c.new-forms.result in
    let none : (n : ℕ) → forms n ≡ None = λ (n : ℕ). ap (lookup (nat_eq n)) c.new-forms.ensures.empty in
    record {
      kept = λ n h e. absurd (none_there forms none n h e);
      way = subst (λ (ns : List ℕ). IsWay c.args.t.0 ns c.args.t.0) (sym c.new-waiting.ensures.items) refl;
      unmade = subst (AreOpen forms) (sym c.new-waiting.ensures.items) tt;
      last = none c.args.t.0;
    }

pub form_of-requires-clause-within : goal.form_of-requires-clause-within
form_of-requires-clause-within c =
    let below = way_below c.args.t.0 c.walk.waiting.items c.walk.next c.walk.invariant.way in
    let inside = c.requires in
    omega arith

pub form_of-requires-clause-forms : goal.form_of-requires-clause-forms
form_of-requires-clause-forms c = c.walk.invariant.kept

pub walk-smaller-in-Part : goal.walk-smaller-in-Part
walk-smaller-in-Part c =
    let t = c.args.t.0 in
    let forms = get nat_eq c.walk.forms in
    let found = subst (IsFound (trees_in c.args.table.now) forms c.walk.next) c.in-Part.is c.in_ok-p.ensures in
    sum_less (missing_below forms (t + 1) * (t + 1)) c.in-Part.p c.walk.next found.0

pub walk-preserved-in-Part : goal.walk-preserved-in-Part
walk-preserved-in-Part c =
    let t = c.args.t.0 in
    let forms = get nat_eq c.walk.forms in
    let found = subst (IsFound (trees_in c.args.table.now) forms c.walk.next) c.in-Part.is c.in_ok-p.ensures in
    let items : c.push.new.self.items ≡ c.walk.waiting.items ++ c.walk.next ∷ [] = c.in_ok-push-in-Part.ensures.items in
    record {
      kept = c.walk.invariant.kept;
      way = subst (λ (ns : List ℕ). IsWay t ns c.in-Part.p) (sym items)
          (way_pushed t c.walk.waiting.items c.walk.next c.in-Part.p c.walk.invariant.way found.0);
      unmade = subst (AreOpen forms) (sym items)
          (open_pushed forms c.walk.waiting.items c.walk.next c.walk.invariant.unmade c.walk.invariant.last);
      last = found.1;
    }

pub walk-smaller : goal.walk-smaller
walk-smaller c =
    let t = c.args.t.0 in
    let old = get nat_eq c.walk.forms in
    let new = get nat_eq c.insert.new.self in
    let items : c.walk.waiting.items ≡ c.pop.new.self.items ++ c.in-Some.n ∷ [] = c.in-Some.ensures.items in
    let up = way_popped t c.pop.new.self.items c.in-Some.n c.walk.next
    (subst (λ (ns : List ℕ). IsWay t ns c.walk.next) items c.walk.invariant.way) in
    let top = way_below t c.pop.new.self.items c.in-Some.n up.0 in
    let next = way_below t c.walk.waiting.items c.walk.next c.walk.invariant.way in
    rounds_less (missing_below new (t + 1)) (missing_below old (t + 1)) t c.in-Some.n c.walk.next
    (missing_less old new c.walk.next c.in-Form.form c.in_ok-insert-in-Some.ensures.updates.0 (t + 1) (omega arith) c.walk.invariant.last)
    top

pub walk-preserved : goal.walk-preserved
walk-preserved c =
    let t = c.args.t.0 in
    let trees = trees_in c.args.table.now in
    let old = get nat_eq c.walk.forms in
    let new = get nat_eq c.insert.new.self in
    let gains = c.in_ok-insert-in-Some.ensures.updates.0 in
    let found = subst (IsFound trees old c.walk.next) c.in-Form.is c.in_ok-p.ensures in
    let items : c.walk.waiting.items ≡ c.pop.new.self.items ++ c.in-Some.n ∷ [] = c.in-Some.ensures.items in
    let way = subst (λ (ns : List ℕ). IsWay t ns c.walk.next) items c.walk.invariant.way in
    let up = way_popped t c.pop.new.self.items c.in-Some.n c.walk.next way in
    let none = way_open old new c.walk.next c.in-Form.form gains t c.walk.waiting.items c.walk.invariant.way c.walk.invariant.unmade in
    let left = open_popped new c.pop.new.self.items c.in-Some.n (subst (AreOpen new) items none) in
    record {
      kept = forms_gain old new c.walk.next c.in-Form.form gains trees c.walk.invariant.kept found;
      way = up.0;
      unmade = left.0;
      last = left.1;
    }

pub returns-in-None : goal.returns-in-None
returns-in-None c =
    let t = c.args.t.0 in
    let trees = trees_in c.args.table.now in
    let old = get nat_eq c.walk.forms in
    let found = subst (IsFound trees old c.walk.next) c.in-Form.is c.in_ok-p.ensures in
    let none : c.walk.waiting.items ≡ [] =
    let all = c.in-None.ensures in grind (arith, common_steps, all) in
    subst (λ (n : ℕ). IsKeptFor trees c.in-Form.form (linear_of (tree_at trees n)))
    (way_start t c.walk.waiting.items c.walk.next c.walk.invariant.way none) found
