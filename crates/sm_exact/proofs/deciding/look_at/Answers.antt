-- Each form is kept as its type says.
use Rattle.sm_exact.proofs.Imports.{◌≡◌, length, subst, drop, arith, AllKept}
use Rattle.sm_exact.proofs.TurnLemmas.{kept_none, kept_down}
use Rattle.sm_exact.proofs.deciding.look_at.Goals as goal

pub loop-i-init : goal.loop-i-init
loop-i-init c = record { within = omega arith; kept = kept_none c.args.forms.now (length c.args.forms.now) (omega arith) }

pub loop-i-preserved : goal.loop-i-preserved
loop-i-preserved c =
    let within = c.loop-i.invariant.within in
    record {
      within = omega arith;
      kept = kept_down c.args.forms.now c.loop-i.i c.index-forms-i.result (omega arith) within c.index-forms-i.is c.parts-parts.ensures.kept
          c.loop-i.invariant.kept;
    }

pub returns : goal.returns
returns c =
    let none : c.loop-i.i ≡ 0 = omega arith in
    subst (λ n. AllKept (drop n c.args.forms.now)) none c.loop-i.invariant.kept
