use Rattle.sm_cc.proofs.Imports.{◌≡◌, ◌<◌, ◌∙◌, ℕ, Some, length, slice_get, refl, sym, ap, subst, arith, slice_get_read, same_Some, IsSettledThere, IsGivenSettled}
use Rattle.sm_cc.specs.declared.log.Given.{Given}
use Rattle.sm_cc.specs.declared.closure.Closure.{Closure}
use Rattle.sm_cc.proofs.RoundsLemmas.{tries_more, tries_all}
use Rattle.sm_cc.proofs.rounds.relate_given.Goals as goal

pub loop-k-preserved : goal.loop-k-preserved
loop-k-preserved c =
    let cur = c.loop-k.c in
    let k = c.loop-k.k in
    let g = c.index-g.result.now in
    let count = ap (λ e. length e.items) c.loop-k.invariant.grows.equal in
    let within : k < length cur.equal.items = omega (arith, count, c.loop-k-test.true, c.len-k-end.ensures) in
    let here = slice_get_read cur.equal.items (length cur.equal.items) k g refl within c.index-g.ensures in
    tries_more (λ (m : ℕ) (d : Closure). IsGivenSettled m d) k c.args.c.now cur c.relate_there.new.c c.loop-k.invariant
    (tries_all (IsSettledThere g.left g.right) (IsGivenSettled k) cur c.relate_there.new.c c.in_ok-relate_there.ensures
    (λ (settled : IsSettledThere g.left g.right cur) (x : Given) (h : slice_get cur.equal.items k ≡ Some x).
    subst (λ (y : Given). IsSettledThere y.left y.right cur) (same_Some g x (sym here ∙ h)) settled))
