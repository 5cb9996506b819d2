-- What is drawn for the copies of a set fits where what follows does.
use Rattle.sm_product.proofs.Imports.{◌≡◌, ℕ, true, List, [], ◌∷◌, ◌++◌, map, refl, sym, Code, End, Copy, Assertion, Copies, has, is_inhabited, subsets, Step, Abs, is_long, front, rest_after, is_loop, is_simple, members, moved_on, each_moved, AreReady, each_moved_is, each_ready, Each, each_of_all, IsWithin, each_subset, ends, each_of, turns_then, looped, apart}
use Rattle.sm_sketch.specs.Sketches.{Sketch}
use Rattle.sm_product.proofs.FitsLemmas.{Fits, FitAll, fits_same, bodies_left}

list_steps : (cs : List Copy) (next : Sketch) (r : Copy → Code) → AreReady is_simple cs r → Fits next (each_moved cs r) →
    Fits (each_of Step cs next) r
list_steps [] next r ready h = h
list_steps (c ∷ cs) next r ready h = (ready.0, (list_steps cs next _ ready.1 h, tt))

list_summaries : (cs : List Copy) (next : Sketch) (r : Copy → Code) → AreReady (is_long 1) cs r → Fits next (each_moved cs r) →
    Fits (each_of (λ (c : Copy). Abs c 1) cs next) r
list_summaries [] next r ready h = h
list_summaries (c ∷ cs) next r ready h = (ready.0, (list_summaries cs next _ ready.1 h, tt))

-- a step of each copy of a set
pub steps_fit : (set : Copies) (next : Sketch) (r : Copy → Code) → ((c : Copy) → has set c ≡ true → is_simple (r c) ≡ true) →
    Fits next (moved_on set r) →
    Fits (each_of Step (members set) next) r
steps_fit set next r simple h =
    list_steps (members set) next r (each_ready set is_simple r simple)
    (fits_same next (moved_on set r) (each_moved (members set) r) (λ (d : Copy). sym (each_moved_is set r d)) h)

-- a summary of the first statement of each copy of a set
pub summaries_fit : (set : Copies) (next : Sketch) (r : Copy → Code) → ((c : Copy) → has set c ≡ true → is_long 1 (r c) ≡ true) →
    Fits next (moved_on set r) →
    Fits (each_of (λ (c : Copy). Abs c 1) (members set) next) r
summaries_fit set next r long h =
    list_summaries (members set) next r (each_ready set (is_long 1) r long)
    (fits_same next (moved_on set r) (each_moved (members set) r) (λ (d : Copy). sym (each_moved_is set r d)) h)

turns_fit : (turn : Copies → Sketch) (next : Sketch) (r s : Copy → Code) (vs : List Copies) →
    Each (λ (v : Copies). Fits (turn v) (bodies_left r v)) vs →
    Fits next s → FitAll (turns_then turn vs next) (map (bodies_left r) vs ++ s ∷ [])
turns_fit turn next r s [] each h = (h, tt)
turns_fit turn next r s (v ∷ vs) each h = (each.0, turns_fit turn next r s vs each.1 h)

-- the loops of a set
pub looped_fits : (templates : List Assertion) (set : Copies) (turn : Copies → Sketch) (next : Sketch) (r : Copy → Code) →
    is_inhabited set ≡ true → ((c : Copy) → has set c ≡ true → is_loop (r c) ≡ true) →
    ((v : Copies) → is_inhabited v ≡ true → IsWithin v set → Fits (turn v) (bodies_left r v)) → Fits next (moved_on set r) →
    Fits (looped templates set turn next) r
looped_fits templates set turn next r some loops turns h =
    let each =
    each_of_all (λ (v : Copies). (is_inhabited v ≡ true) × IsWithin v set) (λ (v : Copies). Fits (turn v) (bodies_left r v))
    (λ (v : Copies) (p : (is_inhabited v ≡ true) × IsWithin v set). turns v p.0 p.1) (subsets set) (each_subset set) in
    ((some, loops), turns_fit turn next r (moved_on set r) (subsets set) each h)

-- statements that are proved apart
pub apart_fits : (templates : List Assertion) (counts : Copy → ℕ) (inner next : Sketch) (r : Copy → Code) →
    ((c : Copy) → is_long (counts c) (r c) ≡ true) → Fits inner (λ (c : Copy). front (counts c) (r c)) →
    Fits next (λ (c : Copy). rest_after (counts c) (r c)) → Fits (apart templates counts inner next) r
apart_fits templates counts inner next r long inside h = (long, (inside, (h, tt)))

-- the end of all copies
pub ends_fit : Fits ends (λ (c : Copy). End)
ends_fit = ((λ (c : Copy). refl), tt)
