-- Cited by public clauses: sets of copies, and what is said of one copy or of each.
use Rattle.std.specs.Prelude.{Bool, true, false, ◌&&◌, ◌||◌, if◌then◌else◌, List, [], ◌∷◌, map}
use Rattle.std.specs.List.{filter, flat_map}
use Rattle.sm_syntax.specs.claim.ConflictFree.{Copy, O, A, B, M}
use Rattle.sm_term.specs.SameTerms.{is_copy}

-- the copies, ascending
abbrev pub copies : List Copy
copies = O ∷ A ∷ B ∷ M ∷ []

-- a test holds of each copy
abbrev pub each : (Copy → Bool) → Bool
each test = test O && (test A && (test B && test M))

-- another value for one copy
abbrev pub with_copy : {T : Type 0} → (Copy → T) → Copy → T → Copy → T
with_copy f c v d = if is_copy c d then v else f d

-- a set of copies
pub record Copies : Type 0 where
  pub base : Bool
  pub variant_a : Bool
  pub variant_b : Bool
  pub candidate : Bool

-- whether a copy is in a set
abbrev pub has : Copies → Copy → Bool
has set O = set.base
has set A = set.variant_a
has set B = set.variant_b
has set M = set.candidate

-- the set of the copies that pass a test
abbrev pub copies_that : (Copy → Bool) → Copies
copies_that test =
    record { base = test O; variant_a = test A; variant_b = test B; candidate = test M }

-- no copy
abbrev pub no_copies : Copies
no_copies = copies_that (λ (c : Copy). false)

-- whether a set has a copy
abbrev pub is_inhabited : Copies → Bool
is_inhabited set = set.base || (set.variant_a || (set.variant_b || set.candidate))

-- what a subset may say of a copy of which the set says this
abbrev pub choices : Bool → List Bool
choices false = false ∷ []
choices true = false ∷ true ∷ []

-- the subsets of a set, by ascending mask: the base counts least and the candidate most
abbrev pub all_subsets : Copies → List Copies
all_subsets set =
    flat_map
    (λ (m : Bool).
    flat_map
    (λ (b : Bool).
    flat_map
    (λ (a : Bool).
    map (λ (o : Bool). record { base = o; variant_a = a; variant_b = b; candidate = m })
    (choices set.base))
    (choices set.variant_a))
    (choices set.variant_b))
    (choices set.candidate)

-- those that have a copy
abbrev pub subsets : Copies → List Copies
subsets set = filter is_inhabited (all_subsets set)
