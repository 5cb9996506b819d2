-- Private: a label by the place at which it stands.
use Rattle.std.specs.Prelude.{ℕ, List, get_or}

-- the label at a place; past the last of them the place itself
abbrev pub label_at : List ℕ → ℕ → ℕ
label_at labels place = get_or labels place place
