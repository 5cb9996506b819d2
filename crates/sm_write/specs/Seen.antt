-- Private: what terms are built of, where the new values and summaries in them stood in the stores
-- of states.
use Rattle.std.specs.Prelude.{◌≡◌, ◌⊎◌, ℕ, List, [], ◌∷◌}
use Rattle.sm_syntax.specs.claim.ConflictFree.{Copy}
use Rattle.sm_term.specs.Terms.{Tree, Lit, Start, Havoc, Slot, Cell, Read, Write, Neg, Add, Sub, Mul, Fun}
use Rattle.sm_plan.specs.States.{State}

-- each new value and each summary in a term, but for those inside a summary, is of a kind
abbrev pub IsBuilt : (Tree → Type 0) → Tree → Type 0
IsBuilt K (Lit z) = Unit {0}
IsBuilt K (Start x) = Unit {0}
IsBuilt K (Havoc k c x) = K (Havoc k c x)
IsBuilt K (Slot c x) = Unit {0}
IsBuilt K Cell = Unit {0}
IsBuilt K (Read a i) = IsBuilt K a × IsBuilt K i
IsBuilt K (Write a i e) = IsBuilt K a × IsBuilt K i × IsBuilt K e
IsBuilt K (Neg t) = IsBuilt K t
IsBuilt K (Add t u) = IsBuilt K t × IsBuilt K u
IsBuilt K (Sub t u) = IsBuilt K t × IsBuilt K u
IsBuilt K (Mul t u) = IsBuilt K t × IsBuilt K u
IsBuilt K (Fun c x args) = K (Fun c x args)

-- a new value or a summary
abbrev pub IsAtom : Tree → Type 0
IsAtom (Lit z) = ⊥
IsAtom (Start x) = ⊥
IsAtom (Havoc k c x) = Unit {0}
IsAtom (Slot c x) = ⊥
IsAtom Cell = ⊥
IsAtom (Read a i) = ⊥
IsAtom (Write a i e) = ⊥
IsAtom (Neg t) = ⊥
IsAtom (Add t u) = ⊥
IsAtom (Sub t u) = ⊥
IsAtom (Mul t u) = ⊥
IsAtom (Fun c x args) = Unit {0}

-- a term stands in a store of a state
abbrev pub IsHeld : State → Tree → Type 0
IsHeld st t = (c : Copy) × ((x : ℕ) × (t ≡ st.stores c x))

-- a term stands in a store of one of some states
abbrev pub Seen : List State → Tree → Type 0
Seen [] t = ⊥
Seen (st ∷ states) t = IsHeld st t ⊎ Seen states t
