-- Cited by public clauses: what an equality among columns says of rows of numbers. A row may be
-- shorter than others; it has 0 in the columns behind its end.
use Rattle.std.specs.Prelude.{◌≡◌, ◌≢◌, ◌<◌, ◌≤◌, ℕ, ℤ, pos, List, [], ◌∷◌, map, Vec, slice_index_or, All}
use Rattle.std.specs.declared.alloc.Global.{Global}
use Rattle.sm_num.specs.Forms.{Linear, HoldsAt}
use Rattle.sm_num.specs.declared.kind.Kind.TheVariants.{Eq}
use Rattle.sm_affine.specs.declared.equality.Equality.{Equality}
use Rattle.sm_affine.specs.declared.equality.Part.{Part}

-- the number of a row in a column, 0 where the row has none
abbrev pub number_in : List ℤ → ℕ → ℤ
number_in row column = slice_index_or row column (pos 0)

-- parts as those of a linear form, whose atoms are the columns
abbrev pub columns_of : List Part → List (ℕ × ℤ)
columns_of parts = map (λ (p : Part). (p.column, p.coefficient)) parts

-- the equality as a linear form: the sum of its parts and its constant is 0
abbrev pub form_of : Equality → Linear ℕ
form_of e = record { parts = columns_of e.parts.items; constant = e.constant; kind = Eq }

-- over whole numbers, the equality holds where each column has its number in the row
abbrev pub HoldsIn : List ℤ → Equality → Type 0
HoldsIn row e = HoldsAt (number_in row) (form_of e)

-- it holds at each row
abbrev pub HoldsInEach : List (Vec ℤ Global) → Equality → Type 0
HoldsInEach rows e = All (λ (row : Vec ℤ Global). HoldsIn row.items e) rows

-- parts give a column by columns before it: its own part comes first, and no coefficient is 0
abbrev pub GivesColumn : ℕ → List Part → Type 0
GivesColumn column [] = ⊥
GivesColumn column (p ∷ ps) =
    (p.column ≡ column) × (p.coefficient ≢ pos 0)
    × All (λ (q : Part). (q.column < column) × (q.coefficient ≢ pos 0)) ps

-- an equality gives one of the columns from a first one up to a last one, which is left out
abbrev pub GivesOneOf : ℕ → ℕ → Equality → Type 0
GivesOneOf first last e =
    (column : ℕ) × ((first ≤ column) × (column < last) × GivesColumn column e.parts.items)
