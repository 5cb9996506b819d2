-- One more place has its own entry and root.
use Rattle.sm_cc.proofs.Imports.{◌≡◌, List, [], ◌∷◌, ◌++◌, length, refl, sym, ap, subst, arith, AllFollow, AllRooted, placed_with}
use Rattle.std.proofs.Common.{length-append}
use Rattle.sm_cc.specs.Log.{Entry}
use Rattle.sm_cc.specs.Closures.{Equation}
use Rattle.sm_cc.proofs.GrowingLemmas.{own_entry, own_follow, own_rooted}
use Rattle.sm_cc.proofs.growing.completed.Goals as goal

pub loop-k-preserved : goal.loop-k-preserved
loop-k-preserved c =
    let k = c.loop-k.k in
    let rows = c.args.rows.items in
    let equal = c.args.equal.items in
    let unequal = c.args.unequal.items in
    let log = c.loop-k.entries.items in
    let roots = c.loop-k.roots.items in
    let old = c.loop-k.invariant in
    let root : Equation = record { left = k; right = k; entry = c.len-entry.result } in
    let logged = c.in_ok-push.ensures.items in
    let rooted = c.in_ok-push-2.ensures.items in
    let last : c.len-entry.result ≡ length log = omega (arith, c.len-entry.ensures) in
    let more = ap length rooted in
    let one = length-append roots (root ∷ []) in
    record {
      follow =
          subst (λ (es : List Entry). AllFollow (placed_with rows equal unequal) es) (sym logged)
          (own_follow rows equal unequal log k old.follow (omega arith));
      rooted =
          subst (λ (es : List Entry). AllRooted es c.push-in-loop-k.new.self.items) (sym logged)
          (subst (λ (rs : List Equation). AllRooted (log ++ own_entry k ∷ []) rs) (sym rooted)
          (own_rooted log roots k root old.rooted (sym old.count) refl refl last));
      count = omega (arith, more, one, old.count);
    }
