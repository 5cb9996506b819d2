-- Code and fillings without holes.
use Rattle.sm_moves.proofs.Imports.{◌≡◌, false, [], ◌++◌, refl, ℕ, None, List, ◌∷◌, ◌==◌, Bool, true, if◌then◌else◌, Code, End, Skip, Assign, Write, If, While, Hole, has_hole, Fillings, filling}
use Rattle.sm_syntax.specs.text.Conditions.{holes_of, first_outside, holes_inside}
use Rattle.sm_lemmas.proofs.Lists.{neither_has_items}

-- code without the number of a hole has no hole
pub no_number : (c : Code) → holes_of c ≡ [] → has_hole c ≡ false
no_number End e = refl
no_number (Skip k) e = no_number k e
no_number (Assign x v k) e = no_number k e
no_number (Write a i v k) e = no_number k e
no_number (If b c d k) e =
    let p = neither_has_items (holes_of c ++ holes_of d) (holes_of k) e in
    let q = neither_has_items (holes_of c) (holes_of d) p.0 in
    rw (no_number c q.0, no_number d q.1) (no_number k p.1)
no_number (While b c k) e = let p = neither_has_items (holes_of c) (holes_of k) e in rw (no_number c p.0) (no_number k p.1)
no_number (Hole h k) e = absurd cc

-- where no number is outside of none, there is none
pub none_outside : (list : List ℕ) → first_outside [] list ≡ None → list ≡ []
none_outside [] e = refl
none_outside (x ∷ list) e = absurd cc

-- no filling of a list without the number of a hole has a hole
pub no_filling : (fs : Fillings) → holes_inside fs ≡ [] → (h : ℕ) → has_hole (filling fs h) ≡ false
no_filling [] e h = refl
no_filling (f ∷ fs) e h = let p = neither_has_items (holes_of f.1) (holes_inside fs) e in by (f.0 == h) (no_number f.1 p.0) (no_filling fs p.1 h)
  where
    by : (b : Bool) → has_hole f.1 ≡ false → has_hole (filling fs h) ≡ false → has_hole (if b then f.1 else filling fs h) ≡ false
    by true here later = here
    by false here later = later
