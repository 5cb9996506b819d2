-- Cited by public clauses: laws of linear forms, over all whole numbers.
use Rattle.std.specs.Prelude.{◌≡◌, ◌↔◌, ℕ, ◌==◌, IsTrue, ℤ, pos, ◌+ℤ◌, ◌*ℤ◌, Bool}
use Rattle.sm_num.specs.Forms.{Linear, sum_of_parts, HoldsAt, coefficient, renamed_form, IsKept, Kind}
use Rattle.sm_num.specs.Combining.{Outcome, Fits, Leaves, then_with, combined, combination}
use Rattle.sm_num.specs.Eliminating.{can_cancel, eliminated, elimination}
use Rattle.sm_num.specs.Tightening.{tightened, is_contradictory}

-- whether two numbers of atoms are the same
abbrev pub same_atom : ℕ → ℕ → Bool
same_atom a b = a == b

-- two forms have one kind, one constant, and the same coefficient of each atom
pub record AreAlike {A : Type 0} (same : A → A → Bool) (f g : Linear A) : Type 0 where
  pub kind : f.kind ≡ g.kind
  pub constant : f.constant ≡ g.constant
  pub coefficients : (t : A) → coefficient same t f.parts ≡ coefficient same t g.parts

-- both are forms that are alike, or both leave the range, it may be by other operations
abbrev pub ComeOutAlike :
    {A : Type 0} → (A → A → Bool) → Outcome (Linear A) → Outcome (Linear A) → Type 0
ComeOutAlike same (Fits f) (Fits g) = AreAlike same f g
ComeOutAlike same (Fits f) (Leaves op y z) = ⊥
ComeOutAlike same (Leaves op y z) (Fits g) = ⊥
ComeOutAlike same (Leaves op y z) (Leaves other v w) = Unit {0}

-- the value of a form where its atoms have values
abbrev pub value_of_form : {A : Type 0} → (A → ℤ) → Linear A → ℤ
value_of_form v f = sum_of_parts v f.parts +ℤ f.constant

-- by ascending atoms and in the order of the parts one form is computed, or none
abbrev pub OrderDoesNotMatter : Type 0
OrderDoesNotMatter =
    (f g : Linear ℕ) (p q : ℤ) (kind : Kind) → IsKept f → IsKept g →
    ComeOutAlike same_atom (combined f p g q kind) (combination same_atom f p g q kind)

-- where an atom cancels, ascending atoms and the order of the parts give one form, or none
abbrev pub OrderDoesNotMatterToElim : Type 0
OrderDoesNotMatterToElim =
    (f g : Linear ℕ) (t : ℕ) → IsKept f → IsKept g →
    ComeOutAlike same_atom (eliminated f g t) (elimination same_atom f g t)

-- atoms may be named anew, each by a name of its own
abbrev pub IsRenaming :
    {A B : Type 0} → (A → A → Bool) → (B → B → Bool) → (A → B) → Type 0
IsRenaming {A} here there rename = (a b : A) → there (rename a) (rename b) ≡ here a b

-- a form that was computed, over other atoms
abbrev pub renamed_outcome :
    {A B : Type 0} → (A → B) → Outcome (Linear A) → Outcome (Linear B)
renamed_outcome rename outcome = then_with outcome (λ h. Fits (renamed_form rename h))

-- the sum of forms over other atoms is the sum over these, over other atoms
abbrev pub NumberingDoesNotMatter : Type 0
NumberingDoesNotMatter =
    (rename : ℕ → ℕ) (f g : Linear ℕ) (p q : ℤ) (kind : Kind) →
    IsRenaming same_atom same_atom rename →
    combination same_atom (renamed_form rename f) p (renamed_form rename g) q kind
    ≡ renamed_outcome rename (combination same_atom f p g q kind)

-- where an atom cancels, the sum over other atoms is the sum over these, over other atoms
abbrev pub NumberingDoesNotMatterToElim : Type 0
NumberingDoesNotMatterToElim =
    (rename : ℕ → ℕ) (f g : Linear ℕ) (t : ℕ) → IsRenaming same_atom same_atom rename →
    elimination same_atom (renamed_form rename f) (renamed_form rename g) (rename t)
    ≡ renamed_outcome rename (elimination same_atom f g t)

-- what is computed has the value that it should
abbrev pub CombinedHasValue : Type 0
CombinedHasValue =
    (f g h : Linear ℕ) (p q : ℤ) (kind : Kind) (v : ℕ → ℤ) → combined f p g q kind ≡ Fits h →
    value_of_form v h ≡ (p *ℤ value_of_form v f) +ℤ (q *ℤ value_of_form v g)

-- where two forms hold, so does their sum in which an atom cancels
abbrev pub ElimHolds : Type 0
ElimHolds =
    (f g h : Linear ℕ) (t : ℕ) (v : ℕ → ℤ) → IsTrue (can_cancel same_atom f g t) →
    HoldsAt v f → HoldsAt v g → eliminated f g t ≡ Fits h → HoldsAt v h

-- a form and its tight form say the same of whole numbers
abbrev pub TightenHolds : Type 0
TightenHolds = (f : Linear ℕ) (v : ℕ → ℤ) → HoldsAt v f ↔ HoldsAt v (tightened f)

-- a contradiction never holds
abbrev pub ContradictionFails : Type 0
ContradictionFails = (f : Linear ℕ) (v : ℕ → ℤ) → IsTrue (is_contradictory f) → HoldsAt v f → ⊥

-- what is computed of forms as the program keeps them is such a form
abbrev pub CombinedIsKept : Type 0
CombinedIsKept =
    (f g h : Linear ℕ) (p q : ℤ) (kind : Kind) → IsKept f → IsKept g →
    combined f p g q kind ≡ Fits h → IsKept h

-- the sum of kept forms in which an atom cancels is kept
abbrev pub ElimIsKept : Type 0
ElimIsKept =
    (f g h : Linear ℕ) (t : ℕ) → IsKept f → IsKept g → eliminated f g t ≡ Fits h → IsKept h

-- a kept form made tight is kept
abbrev pub TightenIsKept : Type 0
TightenIsKept = (f : Linear ℕ) → IsKept f → IsKept (tightened f)

-- the atom that cancels is gone
abbrev pub ElimTakesAtom : Type 0
ElimTakesAtom =
    (f g h : Linear ℕ) (t : ℕ) → eliminated f g t ≡ Fits h →
    coefficient same_atom t h.parts ≡ pos 0

-- the sum in which an atom cancels has no atom that neither form has
abbrev pub ElimAddsNoAtom : Type 0
ElimAddsNoAtom =
    (f g h : Linear ℕ) (t a : ℕ) → IsKept f → IsKept g → eliminated f g t ≡ Fits h →
    coefficient same_atom a f.parts ≡ pos 0 → coefficient same_atom a g.parts ≡ pos 0 →
    coefficient same_atom a h.parts ≡ pos 0
