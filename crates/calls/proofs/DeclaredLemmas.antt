-- Names that are found among declarations.
use Rattle.calls.proofs.Imports.{◌≡◌, ◌<◌, ◌==◌, ℕ, zero, suc, Bool, true, false, IsTrue, Option, Some, if◌then◌else◌, List, [], ◌∷◌, length, map, get_or, eq-eqb, refl, arith, is_some, Name, Sort, sort_of}

-- a declaration that is passed, or is not
found : (test : Bool) (s : Sort) (rest : Option Sort) → test ≡ true → IsTrue (is_some (if test then Some s else rest))
found true s rest h = refl
found false s rest h = absurd cc

behind : (test : Bool) (s : Sort) (rest : Option Sort) → IsTrue (is_some rest) → IsTrue (is_some (if test then Some s else rest))
behind true s rest h = refl
behind false s rest h = h

-- the name of the declaration at a place is declared
pub declared_at : (ds : List (Name × Sort)) (i x : ℕ) (d : Name × Sort) → i < length ds → (get_or ds i d).0.0 ≡ x →
    IsTrue (is_some (sort_of (map (λ (e : Name × Sort). (e.0.0, e.1)) ds) x))
declared_at [] i x d less e = absurd (let none = less in omega arith)
declared_at (f ∷ ds) zero x d less e = found (f.0.0 == x) f.1 (sort_of (map (λ (e : Name × Sort). (e.0.0, e.1)) ds) x) (eq-eqb f.0.0 x e)
declared_at (f ∷ ds) (suc i) x d less e =
    behind (f.0.0 == x) f.1 (sort_of (map (λ (e : Name × Sort). (e.0.0, e.1)) ds) x)
    (declared_at ds i x d (let there : i < length ds = omega arith in there) e)
