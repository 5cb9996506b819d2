-- What a shelf tells of the file with a name, and what reading and writing do to it. A shelf of
-- real files tells nothing of them, and being told of a file never comes or goes.
use Rattle.std.specs.Prelude.{◌≡◌, ◌<◌, ◌≤◌, ◌↔◌, ◌++◌, ℕ, List, [], Option, Some, None, length, take, drop}

-- what is told of the file with a name
pub data Known : Type 0 where
  -- the shelf does not tell
  untold : Known
  -- no file has the name
  absent : Known
  -- the file has these bytes
  holds : List ℕ → Known

-- what a shelf that tells all its files tells of one, from the bytes that it has or none
abbrev pub known_of : Option (List ℕ) → Known
known_of None = absent
known_of (Some bytes) = holds bytes

-- the file as it is once it was made empty
abbrev pub emptied : Known → Known
emptied untold = untold
emptied absent = holds []
emptied (holds was) = holds []

-- the file with these bytes added to its end; no file comes to be by it
abbrev pub longer : Known → List ℕ → Known
longer untold bytes = untold
longer absent bytes = absent
longer (holds was) bytes = holds (was ++ bytes)

-- where the shelf tells the file's bytes, the fact holds of them
abbrev pub WhereHeld : Known → (List ℕ → Type 0) → Type 0
WhereHeld file P = (bytes : List ℕ) → file ≡ holds bytes → P bytes

-- a read of a file with these bytes, from the place on, put this many into the buffer
pub record ReadsFrom (bytes : List ℕ) (place count : ℕ) (buffer : List ℕ) : Type 0 where
  -- what the buffer begins with stands in the file at the place
  pub given : take count buffer ≡ take count (drop place bytes)
  -- none come exactly where the place is at the file's end or past it
  pub end : 0 < length buffer → (count ≡ 0) ↔ (length bytes ≤ place)
