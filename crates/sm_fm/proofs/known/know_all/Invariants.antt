-- The forms so far are known.
use Rattle.sm_fm.proofs.Imports.{◌≡◌, ℕ, take, list_any, Linear, same_form, knows}
use Rattle.sm_fm.proofs.known.know_all.Given as goal

abbrev pub invariant-loop-form : goal.invariant-loop-form
invariant-loop-form l = (h : Linear ℕ) → knows l.known.keys h ≡ list_any (same_form h) (take l.form-index l.forms)
