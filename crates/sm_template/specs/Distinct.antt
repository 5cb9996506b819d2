-- Cited by public clauses: lists without repeats.
use Rattle.std.specs.Prelude.{Bool, if◌then◌else◌, List, [], ◌∷◌, ◌++◌, fold}
use Rattle.std.specs.List.{list_any}

-- a list with one more at its end, where it isn't there
abbrev pub with_new : {T : Type 0} → (T → T → Bool) → List T → T → List T
with_new same seen x = if list_any (same x) seen then seen else seen ++ x ∷ []

-- the items of a list without repeats, each where it stands first
abbrev pub distinct : {T : Type 0} → (T → T → Bool) → List T → List T
distinct same list = fold (with_new same) [] list
