-- What elimination computes, from its pieces.
use Rattle.sm_num.proofs.Imports.{◌≡◌, ℕ, ℤ, refl, sym, subst, Linear, coefficient, without, Kind, same_atom, Outcome, Fits, combined, multipliers, kind_of_sum, divided, then_divided, eliminated, Explains, NumError}
use Rattle.sm_num.proofs.Merges.{explains_then}

-- the sum of two forms without an atom, divided
pub eliminated_is : (f g first second : Linear ℕ) (t : ℕ) (a b : ℤ) (m : ℤ × ℤ) (kf kg ks : Kind) →
    first ≡ without same_atom t f → second ≡ without same_atom t g → a ≡ coefficient same_atom t f.parts →
    b ≡ coefficient same_atom t g.parts →
    kf ≡ f.kind → kg ≡ g.kind → m ≡ multipliers a b kg → ks ≡ kind_of_sum kf kg →
    eliminated f g t ≡ then_divided (combined first m.0 second m.1 ks)
eliminated_is f g first second t a b m kf kg ks e1 e2 e3 e4 e5 e6 e7 e8 = rw (e1, e2, e8, e7, e3, e4, e5, e6) refl

-- where the sum leaves the range
pub elim_fails : (whole sum : Outcome (Linear ℕ)) (e : NumError) → whole ≡ then_divided sum → Explains sum e → Explains whole e
elim_fails whole sum e same fails =
    subst (λ (o : Outcome (Linear ℕ)). Explains o e) (sym same) (explains_then sum (λ (h : Linear ℕ). Fits (divided h)) e fails)
