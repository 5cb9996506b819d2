-- The numbers of the holes of a list.
use Rattle.sm_task.proofs.Imports.{◌≡◌, ℕ, List, [], ◌∷◌, ◌++◌, map, refl, ap, flat_map, Filling, Code, holes_of, filled_holes, holes_inside, code_of}

-- the code for each hole
abbrev pub codes : List Filling → List (ℕ × Code)
codes fs = map (λ (f : Filling). (f.hole, code_of f.block)) fs

-- the holes that are filled
pub filled_holes-codes : (fs : List Filling) → filled_holes (codes fs) ≡ map (λ (f : Filling). f.hole) fs
filled_holes-codes [] = refl
filled_holes-codes (f ∷ rest) = ap (λ (l : List ℕ). f.hole ∷ l) (filled_holes-codes rest)

-- the hole statements in them
pub holes_inside-codes : (fs : List Filling) → holes_inside (codes fs) ≡ flat_map (λ (f : Filling). holes_of (code_of f.block)) fs
holes_inside-codes [] = refl
holes_inside-codes (f ∷ rest) = ap (λ (l : List ℕ). holes_of (code_of f.block) ++ l) (holes_inside-codes rest)
