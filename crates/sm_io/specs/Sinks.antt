-- What a sink tells of the bytes that it took: all of them, in order, or nothing.
use Rattle.std.specs.Prelude.{◌≡◌, ◌++◌, ℕ, List, Option, option_map}

-- these bytes were added to those taken before; a sink that tells nothing goes on telling nothing
abbrev pub Adds : Option (List ℕ) → Option (List ℕ) → List ℕ → Type 0
Adds before now bytes = now ≡ option_map (λ taken. taken ++ bytes) before
