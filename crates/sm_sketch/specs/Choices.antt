-- Cited by public clauses: choices of templates, and the formula that a site keeps of them.
use Rattle.std.specs.Prelude.{ℕ, zero, suc, ◌/◌, List, [], ◌∷◌, ◌++◌, map, take, drop, length, slice_get, unwrap_or, option_to_list}
use Rattle.std.specs.List.{range_with_len}
use Rattle.sm_term.specs.Assertions.{Assertion, Yes, And}

-- the numbers of the templates that are chosen, site by site
abbrev pub Choice : Type 0
Choice = List (List ℕ)

-- the numbers that are chosen at a site, none where the choice has no such site
abbrev pub chosen_at : Choice → ℕ → List ℕ
chosen_at choice s = unwrap_or (slice_get choice s) []

-- the templates with these numbers, without those that aren't there
abbrev pub picked : List Assertion → List ℕ → List Assertion
picked templates [] = []
picked templates (k ∷ rest) = option_to_list (slice_get templates k) ++ picked templates rest

-- the conjunction of formulas, by halves, where there are at most n: that of the first half and
-- that of the others
abbrev pub halved : ℕ → List Assertion → Assertion
halved zero fs = Yes
halved (suc n) [] = Yes
halved (suc n) (f ∷ []) = f
halved (suc n) (f ∷ g ∷ rest) =
    let fs = f ∷ g ∷ rest in
    let half = length fs / 2 in
    And (halved n (take half fs)) (halved n (drop half fs))

-- the conjunction of formulas
abbrev pub conjoined : List Assertion → Assertion
conjoined fs = halved (length fs) fs

-- the formula that a site keeps
abbrev pub kept_by : Choice → ℕ → List Assertion → Assertion
kept_by choice s templates = conjoined (picked templates (chosen_at choice s))

-- the choice of all templates of each site
abbrev pub all_chosen : List (List Assertion) → Choice
all_chosen sites = map (λ (ts : List Assertion). range_with_len 0 (length ts)) sites
