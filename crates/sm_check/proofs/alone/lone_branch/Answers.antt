-- Nothing waits behind the branch.
use Rattle.sm_check.proofs.Imports.{List, subst, sym, Some, ◌∷◌, [], Copy, SymbolicStore, PendingStands, Waiting}
use Rattle.sm_check.specs.declared.pending.Due.TheVariants as due
use Rattle.sm_proof.specs.Passing as plain
use Rattle.sm_check.proofs.JobsLemmas.{alone_stands}
use Rattle.sm_check.proofs.alone.lone_branch.Goals as goal

pub returns : goal.returns
returns c = λ sorts trees facts own held splits all sorted opens.
    let path = c.in_ok-opened.field-0.list.items in
    subst
    (λ (ws : List Waiting).
    (alone : Copy → SymbolicStore)
    × PendingStands sorts trees path (Some (due.Branch c.in_ok-stores.stores 0)) ws (plain.Branch alone own splits ∷ []))
    (sym c.new-2.ensures.items)
    (alone_stands sorts trees path facts own c.args.opening.now held splits c.in_ok-stores.stores sorted opens
    (λ more stands. c.in_ok-opened.ensures sorts trees facts more all stands))
