-- Cited by public clauses: values without repeats.
use Rattle.std.specs.Prelude.{Bool, List, [], ◌∷◌, ◌++◌, if◌then◌else◌}
use Rattle.std.specs.List.{list_any}

-- values with one more: they stay where one is equal to it, and else it goes last
abbrev pub with_value : {T : Type 0} → (T → T → Bool) → List T → T → List T
with_value same ts t = if list_any (same t) ts then ts else ts ++ t ∷ []
