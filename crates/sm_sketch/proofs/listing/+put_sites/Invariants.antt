-- Those of the sketches so far stand behind the others.
use Rattle.sm_sketch.proofs.Imports.{◌≡◌, ◌++◌, map, take, forms_of_all, shared_forms, numbered_sketch}
use Rattle.sm_sketch.proofs.listing.+put_sites.Given as goal

abbrev pub invariant-put_all-loop-sketch : goal.invariant-put_all-loop-sketch
invariant-put_all-loop-sketch l =
    shared_forms l.list.items ≡ shared_forms l.initial.list.items ++ forms_of_all (map numbered_sketch (take l.sketch-index l.sketch-items))
