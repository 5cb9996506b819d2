-- Cited by public clauses: the sum of two forms, each times a number. Either with the first
-- operation that leaves the range of forms, in the order of ascending atoms, or over any atoms.
use Rattle.std.specs.Prelude.{◌==◌, nat_lt, ℕ, ℤ, pos, Bool, if◌then◌else◌, List, [], ◌∷◌}
use Rattle.std.specs.Ordering.{int_eq}
use Rattle.std.specs.List.{filter}
use Rattle.sm_num.specs.Range.{exact, fits_form}
pub use Rattle.sm_num.specs.declared.op.Op.{Op}
pub use Rattle.sm_num.specs.declared.op.Op.TheVariants.{Add, Mul, Sub}
use Rattle.sm_num.specs.Forms.{Linear, coefficient, Kind}

-- a result, or the operation, with its operands, whose result leaves the range
pub data Outcome (T : Type 0) : Type 0 where
  Fits : T → Outcome T
  Leaves : Op → ℤ → ℤ → Outcome T

-- goes on with a result
abbrev pub then_with : {S T : Type 0} → Outcome S → (S → Outcome T) → Outcome T
then_with (Fits s) next = next s
then_with (Leaves op y z) next = Leaves op y z

-- an operation's result where it lies in the range
abbrev pub computed : Op → ℤ → ℤ → Outcome ℤ
computed op y z = if fits_form (exact op y z) then Fits (exact op y z) else Leaves op y z

-- p times y plus q times z: both products, then their sum
abbrev pub combined_number : ℤ → ℤ → ℤ → ℤ → Outcome ℤ
combined_number p y q z =
    then_with (computed Mul p y) (λ (a : ℤ).
    then_with (computed Mul q z) (λ (b : ℤ). computed Add a b))

-- a part before others, where its coefficient isn't 0
abbrev pub with_part : {A : Type 0} → A → ℤ → List (A × ℤ) → List (A × ℤ)
with_part a c ps = if int_eq c (pos 0) then ps else (a, c) ∷ ps

-- a computed coefficient of an atom, then the parts that are computed after it
abbrev pub led_by :
    {A : Type 0} → A → Outcome ℤ → Outcome (List (A × ℤ)) → Outcome (List (A × ℤ))
led_by a c rest =
    then_with c (λ (z : ℤ). then_with rest (λ ps. Fits (with_part a z ps)))

-- q times each part
abbrev pub scaled : {A : Type 0} → ℤ → List (A × ℤ) → Outcome (List (A × ℤ))
scaled q [] = Fits []
scaled q (g ∷ gs) = led_by g.0 (computed Mul q g.1) (scaled q gs)

-- p times a part and q times ascending parts: those at lesser atoms go before it; what follows it is
-- told by the parts that are left
abbrev pub merged_part :
    ℤ → ℤ → ℕ × ℤ → (List (ℕ × ℤ) → Outcome (List (ℕ × ℤ))) → List (ℕ × ℤ) →
    Outcome (List (ℕ × ℤ))
merged_part p q f rest [] = led_by f.0 (computed Mul p f.1) (rest [])
merged_part p q f rest (g ∷ gs) =
    if nat_lt g.0 f.0 then led_by g.0 (computed Mul q g.1) (merged_part p q f rest gs)
    else if g.0 == f.0 then led_by f.0 (combined_number p f.1 q g.1) (rest gs)
    else led_by f.0 (computed Mul p f.1) (rest (g ∷ gs))

-- p times ascending parts plus q times ascending parts, by ascending atom
abbrev pub merged : ℤ → ℤ → List (ℕ × ℤ) → List (ℕ × ℤ) → Outcome (List (ℕ × ℤ))
merged p q [] gs = scaled q gs
merged p q (f ∷ fs) gs = merged_part p q f (merged p q fs) gs

-- parts that are computed, with the constant that is computed after them
abbrev pub formed : {A : Type 0} → Outcome (List (A × ℤ)) → Outcome ℤ → Kind → Outcome (Linear A)
formed parts constant kind =
    then_with parts (λ ps.
    then_with constant (λ (c : ℤ). Fits (record { parts = ps; constant = c; kind = kind })))

-- p times f plus q times g; the first operation that leaves the range is named
abbrev pub combined : Linear ℕ → ℤ → Linear ℕ → ℤ → Kind → Outcome (Linear ℕ)
combined f p g q kind =
    formed (merged p q f.parts g.parts) (combined_number p f.constant q g.constant) kind

-- sums of forms over any atoms, in the order of their parts
--
-- p times a part, and q times what the other form has of its atom
abbrev pub met_part : {A : Type 0} → (A → A → Bool) → ℤ → A × ℤ → ℤ → List (A × ℤ) → Outcome ℤ
met_part same p f q gs =
    let d = coefficient same f.0 gs in
    if int_eq d (pos 0) then computed Mul p f.1 else combined_number p f.1 q d

-- each part of the first, then what only the second has
abbrev pub joined_parts :
    {A : Type 0} → (A → A → Bool) → ℤ → List (A × ℤ) → ℤ → List (A × ℤ) → List (A × ℤ) →
    Outcome (List (A × ℤ))
joined_parts same p [] q gs others = scaled q others
joined_parts same p (f ∷ fs) q gs others =
    led_by f.0 (met_part same p f q gs) (joined_parts same p fs q gs others)

-- p times f plus q times g over any atoms; some operation that leaves the range is named
abbrev pub combination :
    {A : Type 0} → (A → A → Bool) → Linear A → ℤ → Linear A → ℤ → Kind → Outcome (Linear A)
combination same f p g q kind =
    let others = filter (λ r. int_eq (coefficient same r.0 f.parts) (pos 0)) g.parts in
    formed
    (joined_parts same p f.parts q g.parts others)
    (combined_number p f.constant q g.constant)
    kind
