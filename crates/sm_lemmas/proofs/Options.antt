-- What may be there, and results that may be errors.
use Rattle.std.proofs.Common.{◌⊎◌, ⊎_elim, Result, Ok, Err, ◌≡◌, ℕ, Some, Option, None}
use Rattle.std.specs.Prelude.{OnOk}

-- four cases, each of which may be the goal
pub one_of_four : {P Q R S G : Type 0} → P ⊎ G → Q ⊎ G → R ⊎ G → S ⊎ G → (P → Q → R → S → G) → G
one_of_four {P} {Q} {R} {S} {G} p q r s f =
    ⊎_elim (λ (x : P). ⊎_elim (λ (y : Q). ⊎_elim (λ (z : R). ⊎_elim (λ (w : S). f x y z w) (λ (g : G). g) s) (λ (g : G). g) r)
    (λ (g : G). g) q) (λ (g : G). g) p

-- where a call goes well
pub on_ok : {T E P Q : Type 0} (r : Result T E) → (P → Q) → OnOk r P → OnOk r Q
on_ok (Ok x) f h = f h
on_ok (Err e) f h = tt

-- numbers that may be there are equal as numbers
pub same_number : (m n : ℕ) → Some m ≡ Some n → m ≡ n
same_number m n e = cc

-- nothing is no number
pub none_some : (m : ℕ) → (let o : Option ℕ = None in o) ≡ Some m → ⊥
none_some m e = cc
