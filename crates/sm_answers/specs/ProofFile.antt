-- What a proof file has where not all of its bytes could be written. Public clauses cite it.
use Rattle.std.specs.Prelude.{◌≡◌, ◌⊎◌, ◌<◌, ℕ, List, length, take}
use Rattle.sm_io.specs.Files.{Known, emptied, longer}

-- bytes were begun to be written into a file, but not all were: it is as it was, or empty, or has
-- some of the first of them
abbrev pub IsBegun : List ℕ → Known → Known → Type 0
IsBegun bytes before now =
    (now ≡ before) ⊎ ((now ≡ emptied before)
    ⊎ ((n : ℕ) × (n < length bytes) × (now ≡ longer (emptied before) (take n bytes))))
