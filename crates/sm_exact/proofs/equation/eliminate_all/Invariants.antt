-- What is left enters behind the forms so far.
use Rattle.sm_exact.proofs.Imports.{◌≡◌, map, entered, eliminated_item, before}
use Rattle.sm_exact.proofs.equation.eliminate_all.Given as goal

abbrev pub invariant-loop-f : goal.invariant-loop-f
invariant-loop-f l =
    entered l.steps (map (eliminated_item l.e l.t) l.fn.forms.items) l.count
    ≡ before l.out.items (entered l.steps (map (eliminated_item l.e l.t) l.f-iterator.rest.items) l.counted)
