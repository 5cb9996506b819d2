-- What the bytes of a list come to. Only private clauses cite it.
use Rattle.std.specs.Prelude.{◌≡◌, ℕ, Some, List, [], ◌∷◌, map}
use Rattle.std.specs.String.{string_bytes}
use Rattle.sm_proof.specs.Verdicts.{FileLines}
use Rattle.sm_answers.specs.Lists.{bad_line, IsList}
use Rattle.sm_answers.specs.declared.listing.Listed.{Listed}
use Rattle.sm_answers.specs.declared.listing.Listed.TheVariants.{Names, Bad}

-- lines with one more before them
abbrev pub line_before : List ℕ → FileLines → FileLines
line_before line more = record { ended = line ∷ more.ended; rest = more.rest }

-- bytes of which none ends a line
abbrev pub unended : List ℕ → FileLines
unended bytes = record { ended = []; rest = bytes }

-- the names of a list, or its first bad line
abbrev pub IsListed : List ℕ → Listed → Type 0
IsListed bytes (Names names) = IsList bytes (map string_bytes names.items)
IsListed bytes (Bad number) = bad_line bytes ≡ Some number
