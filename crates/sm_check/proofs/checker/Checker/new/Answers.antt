-- A checker at the start of its proof.
use Rattle.sm_check.proofs.Imports.{refl, sym, ◌∙◌, Unopened, subject_of, parts_of, some_mapped}
use Rattle.sm_check.proofs.CheckerLemmas.{at_parts}
use Rattle.sm_check.proofs.checker.Checker.new.Goals as goal

pub returns : goal.returns
returns c =
    at_parts _ (subject_of (parts_of c.args.task.now)) Unopened refl (record {
      sorts = c.in_ok-start.ensures.sorts;
      assumes = c.is_some.ensures ∙ sym (some_mapped c.args.task.now.assumed);
    }) (refl, c.in_ok-start.ensures.walks) refl
