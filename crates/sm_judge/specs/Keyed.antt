-- Private: keys of formulas, by which the facts of a branch are found.
use Rattle.std.specs.Prelude.{◌≡◌, ℕ, ◌+◌, ◌*◌, ◌%◌, ◌^◌, ◌<◌, true, Option, List, length, is_some}
use Rattle.sm_term.specs.Formulas.{NumberedFormula, Yes, No, Eq, Ne, Le, Lt, And, Or}
use Rattle.sm_term.specs.declared.formula.Formula.{Formula}
use Rattle.sm_list.specs.Parts.{numbered_at}

-- two numbers and a kind in one: they are spread over 64 bits, as by a multiplicative hash
abbrev pub mixed : ℕ → ℕ → ℕ → ℕ
mixed kind x y =
    let one = ((kind * 11400714819323198485) % 2 ^ 64 + x) % 2 ^ 64 in
    ((one * 11400714819323198485) % 2 ^ 64 + y) % 2 ^ 64

-- the key of a formula; other formulas may have the same
abbrev pub key_of : NumberedFormula → ℕ
key_of Yes = 0
key_of No = 1
key_of (Eq t u) = mixed 2 t u
key_of (Ne t u) = mixed 3 t u
key_of (Le t u) = mixed 4 t u
key_of (Lt t u) = mixed 5 t u
key_of (And p q) = mixed 6 (key_of p) (key_of q)
key_of (Or p q) = mixed 7 (key_of p) (key_of q)

-- the keys of the first `count` facts are there
abbrev pub HasKeys : (ℕ → Option ℕ) → List Formula → ℕ → Type 0
HasKeys place facts count =
    (m : ℕ) → m < count → is_some (place (key_of (numbered_at facts m))) ≡ true

-- the keys of all facts are there
abbrev pub AreKeyed : (ℕ → Option ℕ) → List Formula → Type 0
AreKeyed place facts = HasKeys place facts (length facts)
