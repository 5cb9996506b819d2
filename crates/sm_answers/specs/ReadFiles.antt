-- Which files were read, and what holds of their bytes. Public clauses cite it.
use Rattle.std.specs.Prelude.{◌≡◌, ◌++◌, ℕ, List}
use Rattle.sm_io.specs.Reads.{Read, ReadsWhole}

-- the one file was read, in one pass to its end, and no other; of its bytes this holds
abbrev pub ReadsOne : List ℕ → List Read → List Read → (List ℕ → Type 0) → Type 0
ReadsOne name before now P = (bytes : List ℕ) × ReadsWhole name before now bytes × P bytes

-- the one file was read so, and then the other, and nothing else; of their bytes this holds
abbrev pub ReadsTwo : List ℕ → List ℕ → List Read → List Read → (List ℕ → List ℕ → Type 0) → Type 0
ReadsTwo name other before now P = (bytes others : List ℕ) × (between : List Read)
    × ReadsWhole name before between bytes × ReadsWhole other between now others
    × P bytes others

-- the later reads go on from these
abbrev pub GoesOn : List Read → List Read → Type 0
GoesOn before now = (more : List Read) × (now ≡ before ++ more)

-- meanwhile the file was read, in one pass to its end; of its bytes this holds
abbrev pub ReadsAmong : List ℕ → List Read → List Read → (List ℕ → Type 0) → Type 0
ReadsAmong name before now P =
    (first last : List Read) × GoesOn before first × ReadsOne name first last P × GoesOn last now
