-- Private: templates of sites, each with a mark that says whether it is still there.
use Rattle.std.specs.Prelude.{ℕ, zero, suc, ◌%◌, ◌==◌, Bool, false, ◌&&◌, ◌||◌, if◌then◌else◌, Option, Some, None, List, [], ◌∷◌, map, Vec, slice_get}
use Rattle.std.specs.declared.alloc.Global.{Global}
use Rattle.sm_sketch.specs.Choices.{Choice}
use Rattle.sm_houdini.specs.declared.marks.Join.{Join}
use Rattle.sm_houdini.specs.declared.marks.Join.TheVariants as join
pub use Rattle.sm_houdini.specs.declared.marks.Marked.{Marked}

-- numbers of templates, each marked by whether its place, counted from i on, passes
abbrev pub marked : (ℕ → Bool) → ℕ → List ℕ → List Marked
marked passes i [] = []
marked passes i (n ∷ rest) = record { number = n; holds = passes i } ∷ marked passes (suc i) rest

-- for each site, counted from s on, its numbers, each marked by whether its place passes
abbrev pub all_marked : (ℕ → ℕ → Bool) → ℕ → Choice → List (List Marked)
all_marked passes s [] = []
all_marked passes s (ns ∷ rest) = marked (passes s) 0 ns ∷ all_marked passes (suc s) rest

-- whether a place is in a share, one of so many
abbrev pub in_share : ℕ → ℕ → ℕ → Bool
in_share shares share i = (i % shares) == share

-- marks that stay only where their places, counted from i on, pass
abbrev pub still_marked : (ℕ → Bool) → ℕ → List Marked → List Marked
still_marked passes i [] = []
still_marked passes i (m ∷ rest) =
    record { number = m.number; holds = m.holds && passes i } ∷ still_marked passes (suc i) rest

-- the mark that two become
abbrev pub joins : Join → Bool → Bool → Bool
joins join.Either one other = one || other
joins join.Both one other = one && other

-- the numbers whose marks are there
abbrev pub numbers_of : List Marked → List ℕ
numbers_of [] = []
numbers_of (m ∷ rest) = if m.holds then m.number ∷ numbers_of rest else numbers_of rest

-- the rows of lists of lists
abbrev pub rows : {X : Type 0} → List (Vec X Global) → List (List X)
rows vs = map (λ v. v.items) vs

-- whether a mark is there, where there is one
abbrev pub is_there : Option Marked → Bool
is_there None = false
is_there (Some m) = m.holds

-- whether the mark of the i-th template of a site is there
abbrev pub has_mark : List (List Marked) → ℕ → ℕ → Bool
has_mark [] s i = false
has_mark (ms ∷ rest) zero i = is_there (slice_get ms i)
has_mark (ms ∷ rest) (suc s) i = has_mark rest s i
