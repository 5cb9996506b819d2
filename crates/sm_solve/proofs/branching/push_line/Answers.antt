use Rattle.sm_solve.proofs.Imports.{[], ◌∷◌, sym, subst, AreLinesWithin}
use Rattle.sm_theory.specs.declared.line.CertLine.TheVariants as line
use Rattle.sm_solve.proofs.branching.push_line.Goals as goal
use Rattle.sm_list.proofs.RenumberLemmas.{within-append}

pub returns-in_ok-push-clause-within : goal.returns-in_ok-push-clause-within
returns-in_ok-push-clause-within c = λ count all.
    subst (AreLinesWithin count) (sym c.in_ok-push.ensures.items)
    (within-append count c.args.lines.now.items (line.Both c.args.n ∷ []) all (tt, tt))
