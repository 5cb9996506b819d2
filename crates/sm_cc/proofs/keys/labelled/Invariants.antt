-- The labels of the places from here on go behind the key.
use Rattle.sm_cc.proofs.Imports.{◌≡◌, drop, labels_of, with_labels}
use Rattle.sm_cc.proofs.keys.labelled.Given as goal

abbrev pub invariant-loop-place : goal.invariant-loop-place
invariant-loop-place l =
    with_labels l.key.items (labels_of l.roots (drop l.place-index l.places))
    ≡ with_labels l.fn.key.items (labels_of l.roots l.places)
