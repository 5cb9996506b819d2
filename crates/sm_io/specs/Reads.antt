-- What reads gave, of told files and of others: each read in order, by the name of its file, the
-- place from which it was asked for, and the bytes that it gave. Public clauses cite it.
use Rattle.std.specs.Prelude.{◌≡◌, ◌<◌, ◌+◌, ◌++◌, ℕ, List, [], ◌∷◌, length, All}

-- a read: of the file with this name, from this place on, these bytes
abbrev pub Read : Type 0
Read = List ℕ × ℕ × List ℕ

-- the reads of a file that gave these pieces, each from where the one before it ended
abbrev pub reads_on : List ℕ → ℕ → List (List ℕ) → List Read
reads_on name place [] = []
reads_on name place (piece ∷ rest) =
    (name, place, piece) ∷ reads_on name (place + length piece) rest

-- the pieces put together
abbrev pub joined : List (List ℕ) → List ℕ
joined [] = []
joined (piece ∷ rest) = piece ++ joined rest

-- since the reads were `before`, one file alone was read, from its start on: each read began where
-- the one before it ended, and gave some bytes. Together they gave these
pub record ReadsOn (name : List ℕ) (before now : List Read) (bytes : List ℕ) : Type 0 where
  pub pieces : List (List ℕ)
  pub some : All (λ (piece : List ℕ). 0 < length piece) pieces
  pub together : joined pieces ≡ bytes
  pub made : now ≡ before ++ reads_on name 0 pieces

-- so it was, and then to its end: the last read began there, and gave nothing
pub record ReadsWhole (name : List ℕ) (before now : List Read) (bytes : List ℕ) : Type 0 where
  pub between : List Read
  pub on : ReadsOn name before between bytes
  pub end : now ≡ between ++ (name, length bytes, []) ∷ []
