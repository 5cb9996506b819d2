-- The sum ascends and keeps to the range.
use Rattle.sm_num.proofs.Imports.{sym, subst, rules, to_z-of_z, w128, AreParts, combined_number, merged}
use mir.Val.{SFits}
use Rattle.sm_num.proofs.KeptLemmas.{merged_parts}
use Rattle.sm_num.proofs.OutcomeLemmas.{IsSum, gives_fits, combined_number_gives}
use Rattle.sm_num.proofs.combining.combine.Goals as goal

pub invariant_of-result : goal.invariant_of-result
invariant_of-result c =
    let p = c.args.p in
    let q = c.args.q in
    let fs = c.deref.result.now in
    let gs = c.deref-2.result.now in
    let y = c.f.inside.constant in
    let z = c.g.inside.constant in
    let fits_p = c.ranges.p in
    let fits_q = c.ranges.q in
    let fits : SFits w128 c.in_ok-constant.constant = search rules in
    let first = subst (AreParts 0) (sym c.deref.ensures.value) c.f.invariant.parts in
    let second = subst (AreParts 0) (sym c.deref-2.ensures.value) c.g.invariant.parts in
    let parts = simp to_z-of_z at c.in_ok-parts.ensures.ok in
    let constant = simp to_z-of_z at c.in_ok-constant.ensures.ok in
    rw (to_z-of_z w128 c.in_ok-constant.constant fits)
    (record {
      parts = gives_fits (AreParts 0) (merged p q fs gs) c.in_ok-parts.parts.items (merged_parts 0 p q fs gs first second) parts;
      constant = (gives_fits (IsSum p y q z) (combined_number p y q z) c.in_ok-constant.constant (combined_number_gives p y q z)
          constant).1;
    })
