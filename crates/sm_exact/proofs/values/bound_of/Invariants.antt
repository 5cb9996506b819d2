-- The best bound so far, with those of the forms from here on, is that of all forms.
use Rattle.sm_exact.proofs.Imports.{◌≡◌, nat_eq, None, drop, get, values_in}
use Rattle.sm_exact.proofs.ValuesLemmas.{bound_behind}
use Rattle.sm_exact.proofs.values.bound_of.Given as goal

abbrev pub invariant-loop-f : goal.invariant-loop-f
invariant-loop-f l =
    bound_behind l.side l.t (values_in (get nat_eq l.values)) None l.forms
    ≡ bound_behind l.side l.t (values_in (get nat_eq l.values)) l.best (drop l.f-index l.forms)
