-- What holds of each template holds of each that is picked.
use Rattle.sm_sketch.proofs.Imports.{ℕ, zero, suc, List, [], ◌∷◌, slice_get, option_to_list, Assertion, picked}
use Rattle.sm_moves.proofs.SetsLemmas.{Each, each_append}

-- of each thing that is found in a list
each_found : {T : Type 0} (P : T → Type 0) (xs : List T) (n : ℕ) → Each P xs → Each P (option_to_list (slice_get xs n))
each_found P [] n h = tt
each_found P (x ∷ xs) zero h = (h.0, tt)
each_found P (x ∷ xs) (suc n) h = each_found P xs n h.1

-- of each template that is picked
pub each_picked : (P : Assertion → Type 0) (ts : List Assertion) (ns : List ℕ) → Each P ts → Each P (picked ts ns)
each_picked P ts [] h = tt
each_picked P ts (n ∷ ns) h =
    each_append P (option_to_list (slice_get ts n)) (picked ts ns) (each_found P ts n h) (each_picked P ts ns h)
