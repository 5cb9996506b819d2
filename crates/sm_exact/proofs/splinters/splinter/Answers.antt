use Rattle.sm_exact.proofs.Imports.{◌^◌, lt-ltb, subst, to_z_pos, err_from_is_err_and, w128, Returns}
use mir.Val.{to_z}
use Rattle.sm_exact.proofs.ShadowsLemmas.{splinter_ends}
use Rattle.sm_exact.proofs.splinters.splinter.Goals as goal

pub number-requires : goal.number-requires
number-requires c = rw (to_z_pos w128 c.args.i c.requires) (lt-ltb c.args.i (2 ^ 127) c.requires)

pub returns-in_err-number : goal.returns-in_err-number
returns-in_err-number c =
    let p = err_from_is_err_and c.from_residual.result c.from_residual.ensures.1 in
    rw (p.1, p.2, c.in_err-number.ensures.err) tt

pub returns : goal.returns
returns c =
    subst (λ o. Returns o c.combine-2.result)
    (splinter_ends c.args.l.now c.in_ok-number.field-0 c.args.i (to_z w128 c.args.i) c.in_ok-number.ensures.ok
    (to_z_pos w128 c.args.i c.requires) (lt-ltb c.args.i (2 ^ 127) c.requires) c.parts-parts.ensures.kept)
    c.combine-2.ensures
