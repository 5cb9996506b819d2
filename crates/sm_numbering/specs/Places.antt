-- Private: the places of values, each of them apart from the others.
use Rattle.std.specs.Prelude.{◌≡◌, ℕ, suc, Bool, false, Option, Some, None, List, [], ◌∷◌, if◌then◌else◌}
use Rattle.std.specs.List.{list_any}
use Rattle.std.specs.Option.{option_map}

-- the first place at which a test is passed
abbrev pub place_of : {T : Type 0} → (T → Bool) → List T → Option ℕ
place_of p [] = None
place_of p (t ∷ ts) = if p t then Some 0 else option_map (λ (n : ℕ). suc n) (place_of p ts)

-- no value is equal to one after it
abbrev pub AreApart : {T : Type 0} → (T → T → Bool) → List T → Type 0
AreApart eq [] = Unit {0}
AreApart eq (t ∷ ts) = (list_any (eq t) ts ≡ false) × AreApart eq ts
