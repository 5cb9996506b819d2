-- The pivot stands among the places from here on.
use Rattle.sm_fm.proofs.Imports.{◌≡◌, drop, pivot_place}
use Rattle.sm_fm.proofs.roles.find_pivot.Given as goal

abbrev pub invariant-loop-place : goal.invariant-loop-place
invariant-loop-place l = pivot_place l.t l.forms l.places ≡ pivot_place l.t l.forms (drop l.place-index l.places)
