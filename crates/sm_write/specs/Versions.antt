-- Cited by public clauses: the versions of the proof files that are written.
use Rattle.std.specs.Prelude.{◌≡◌, ℕ, Bool, if◌then◌else◌, is_some, List, ◌∷◌, ◌++◌}
use Rattle.std.specs.List.{list_any}
use Rattle.sm_syntax.specs.text.Parts.{Parts}
use Rattle.sm_proof.specs.Lines.{Header}
use Rattle.sm_proof.specs.Spelling.{spelled}
use Rattle.sm_proof.specs.Verdicts.{lines_in}
use Rattle.sm_proof.specs.Versions.{begins_exact}

-- whether a line of a text begins with the word of lines `exact`
abbrev pub has_exact_line : List ℕ → Bool
has_exact_line text = list_any begins_exact (lines_in text).ended

-- the version of a file: 3 where it has lines `exact`, 2 where it has none and the task assumes
-- something, else 1
abbrev pub version_where : (has_exact assumes : Bool) → ℕ
version_where has_exact assumes = if has_exact then 3 else (if assumes then 2 else 1)

-- a text begins with the line of its version
abbrev pub HasVersion : Parts → List ℕ → Type 0
HasVersion t text =
    let version = version_where (has_exact_line text) (is_some t.assumed) in
    (rest : List ℕ) × (text ≡ spelled (Header version) ++ 10 ∷ rest)
