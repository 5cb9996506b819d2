-- A formula at a place is over the terms of a table.
use Rattle.sm_judge.proofs.Imports.{◌≡◌, zero, suc, ◌<◌, List, [], ◌∷◌, get_or, length, sym, subst, arith, numbered, IsFormulaWithin, Formula, all_numbered, AreFormulasWithin}
use Rattle.std.proofs.Common.{ℕ}

-- a formula at a place is within
pub within_at : (count : ℕ) (facts : List Formula) (i : ℕ) (f : Formula) → AreFormulasWithin count (all_numbered facts) → i < length facts →
    f ≡ get_or facts i f → IsFormulaWithin count (numbered f)
within_at count [] i f all inside is = absurd (omega arith)
within_at count (g ∷ facts) zero f all inside is = subst (λ (h : Formula). IsFormulaWithin count (numbered h)) (sym is) all.0
within_at count (g ∷ facts) (suc i) f all inside is = within_at count facts i f all.1 (omega arith) is
