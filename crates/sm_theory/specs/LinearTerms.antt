-- Cited by public clauses: the linear form of a term that is a number, and the same form by numbers
-- of terms, as the program keeps it.
use Rattle.std.specs.Prelude.{ℕ, ℤ, pos, negsuc, if◌then◌else◌, [], ◌∷◌}
use Rattle.sm_num.specs.Range.{fits_form}
use Rattle.sm_num.specs.declared.op.Op.TheVariants as op
use Rattle.sm_num.specs.declared.kind.Kind.TheVariants as kind
use Rattle.sm_num.specs.Forms.{Linear}
use Rattle.sm_num.specs.Combining.{Outcome, Fits, Leaves, computed, formed, scaled, combined, combination}
use Rattle.sm_num.specs.Tightening.{has_no_part}
use Rattle.sm_term.specs.Terms.{Tree, Lit, Start, Havoc, Slot, Cell, Read, Write, Neg, Add, Sub, Mul, Fun}
use Rattle.sm_term.specs.SameTerms.{same_tree}

-- a number without parts
abbrev pub constant_form : {A : Type 0} → ℤ → Linear A
constant_form z = record { parts = []; constant = z; kind = kind.Eq }

-- one atom
abbrev pub atom_form : {A : Type 0} → A → Linear A
atom_form t = record { parts = (t, pos 1) ∷ []; constant = pos 0; kind = kind.Eq }

-- a form that was computed, one atom where an operation leaves the range
abbrev pub or_atom : {A : Type 0} → A → Outcome (Linear A) → Linear A
or_atom t (Fits f) = f
or_atom t (Leaves operation y z) = atom_form t

-- z times a form
abbrev pub scaled_form : {A : Type 0} → ℤ → Linear A → Outcome (Linear A)
scaled_form z f = formed (scaled z f.parts) (computed op.Mul z f.constant) kind.Eq

-- the product of two forms, where one is a number, and else one atom
abbrev pub product_form : {A : Type 0} → A → Linear A → Linear A → Linear A
product_form t f g =
    if has_no_part f.parts then or_atom t (scaled_form f.constant g)
    else if has_no_part g.parts then or_atom t (scaled_form g.constant f)
    else atom_form t

-- the form of a term: operations go part by part, every other term is an atom
abbrev pub linear_of : Tree → Linear Tree
linear_of (Lit z) = if fits_form z then constant_form z else atom_form (Lit z)
linear_of (Start x) = atom_form (Start x)
linear_of (Havoc k c x) = atom_form (Havoc k c x)
linear_of (Slot c x) = atom_form (Slot c x)
linear_of Cell = atom_form Cell
linear_of (Read a i) = atom_form (Read a i)
linear_of (Write a i e) = atom_form (Write a i e)
linear_of (Neg t) = or_atom (Neg t) (scaled_form (negsuc 0) (linear_of t))
linear_of (Add t u) =
    or_atom (Add t u) (combination same_tree (linear_of t) (pos 1) (linear_of u) (pos 1) kind.Eq)
linear_of (Sub t u) =
    or_atom (Sub t u) (combination same_tree (linear_of t) (pos 1) (linear_of u) (negsuc 0) kind.Eq)
linear_of (Mul t u) = product_form (Mul t u) (linear_of t) (linear_of u)
linear_of (Fun c x args) = atom_form (Fun c x args)

-- the form of a term where atoms are told by numbers, in the order of these
abbrev pub linear_by : (Tree → ℕ) → Tree → Linear ℕ
linear_by place (Lit z) = if fits_form z then constant_form z else atom_form (place (Lit z))
linear_by place (Start x) = atom_form (place (Start x))
linear_by place (Havoc k c x) = atom_form (place (Havoc k c x))
linear_by place (Slot c x) = atom_form (place (Slot c x))
linear_by place Cell = atom_form (place Cell)
linear_by place (Read a i) = atom_form (place (Read a i))
linear_by place (Write a i e) = atom_form (place (Write a i e))
linear_by place (Neg t) = or_atom (place (Neg t)) (scaled_form (negsuc 0) (linear_by place t))
linear_by place (Add t u) =
    or_atom (place (Add t u))
    (combined (linear_by place t) (pos 1) (linear_by place u) (pos 1) kind.Eq)
linear_by place (Sub t u) =
    or_atom (place (Sub t u))
    (combined (linear_by place t) (pos 1) (linear_by place u) (negsuc 0) kind.Eq)
linear_by place (Mul t u) =
    product_form (place (Mul t u)) (linear_by place t) (linear_by place u)
linear_by place (Fun c x args) = atom_form (place (Fun c x args))
