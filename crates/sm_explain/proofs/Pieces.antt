-- Texts that are put one behind the other.
use Rattle.sm_explain.proofs.Imports.{◌≡◌, ◌+◌, ◌<◌, ◌≤◌, ℕ, List, ◌++◌, length, map, drop, get_or, sym, ap, ◌∙◌, append_assoc, append-nil, drop_of_length-le, concat, drop_more}

-- one text more is put, and one less is left
pub pieces_more : {X : Type 0} (f : X → List ℕ) (xs : List X) (n : ℕ) (d : X) (old new whole : List ℕ) → n < length xs
    → new ≡ old ++ f (get_or xs n d) → old ++ concat (map f (drop n xs)) ≡ whole → new ++ concat (map f (drop (n + 1) xs)) ≡ whole
pieces_more {X} f xs n d old new whole here put before =
    let rest = concat (map f (drop (n + 1) xs)) in
    ap (λ (t : List ℕ). t ++ rest) put ∙ append_assoc old (f (get_or xs n d)) rest
    ∙ ap (λ (ys : List X). old ++ concat (map f ys)) (sym (drop_more xs n d here)) ∙ before

-- none is left
pub pieces_all : {X : Type 0} (f : X → List ℕ) (xs : List X) (n : ℕ) (old whole : List ℕ) → length xs ≤ n
    → old ++ concat (map f (drop n xs)) ≡ whole → old ≡ whole
pieces_all {X} f xs n old whole past before =
    sym (append-nil old) ∙ ap (λ (ys : List X). old ++ concat (map f ys)) (sym (drop_of_length-le xs past)) ∙ before
