-- What is made of the first things of a list, and of one thing more.
use Rattle.sm_template.proofs.Imports.{◌≡◌, ℕ, ◌+◌, ◌<◌, List, [], ◌∷◌, ◌++◌, take, length, get_or, ap, ◌∙◌, flat_map, append-nil, append_assoc, take_more, flat_map-append}

-- lists of the first things
pub flat_more : {T U : Type 0} (f : T → List U) (xs : List T) (i : ℕ) (d : T) → i < length xs →
    flat_map f (take (i + 1) xs) ≡ flat_map f (take i xs) ++ f (get_or xs i d)
flat_more f xs i d h =
    ap (flat_map f) (take_more xs i d h)
    ∙ flat_map-append f (take i xs) (get_or xs i d ∷ [])
    ∙ ap (λ l. flat_map f (take i xs) ++ l) (append-nil (f (get_or xs i d)))

-- a list that was put behind another, and what follows
pub put_behind : {T : Type 0} (old new more rest : List T) → new ≡ old ++ more → new ++ rest ≡ old ++ (more ++ rest)
put_behind old new more rest h = ap (λ l. l ++ rest) h ∙ append_assoc old more rest
