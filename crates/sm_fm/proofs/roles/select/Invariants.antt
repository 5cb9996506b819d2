-- The places so far are those chosen so far.
use Rattle.sm_fm.proofs.Imports.{◌≡◌, take, places_of}
use Rattle.sm_fm.proofs.roles.select.Given as goal

abbrev pub invariant-loop-place : goal.invariant-loop-place
invariant-loop-place l = l.out.items ≡ places_of l.role l.t l.forms (take l.place-index l.places)
