-- Cited by public clauses: what code needs, computed, and as a list.
use Rattle.std.specs.Prelude.{ℕ, zero, suc, ◌==◌, Bool, not, ◌&&◌, ◌||◌, List, [], ◌∷◌, length, max}
use Rattle.std.specs.List.{filter, range_with_len}
use Rattle.sm_syntax.specs.claim.Syntax.{Code, End, Skip, Assign, Write, If, While, Hole}
use Rattle.sm_deps.specs.Names.{mentions, tests, code_names}

-- a set after n rounds, each of which adds what the set brings
abbrev pub grown : ℕ → ((ℕ → Bool) → ℕ → Bool) → (ℕ → Bool) → ℕ → Bool
grown zero brings set = set
grown (suc n) brings set = grown n brings (λ (x : ℕ). set x || brings set x)

-- whether code needs a name, where those of a set are wanted after it. The set of a loop is whole
-- after as many rounds as its body has names.
abbrev pub needed : Code → (ℕ → Bool) → ℕ → Bool
needed End wanted x = wanted x
needed (Skip k) wanted x = needed k wanted x
needed (Assign y e k) wanted x =
    (needed k wanted x && not (x == y)) || (needed k wanted y && mentions e x)
needed (Write a i e k) wanted x =
    needed k wanted x || (needed k wanted a && (mentions i x || mentions e x))
needed (If b c d k) wanted x =
    needed c (needed k wanted) x || (needed d (needed k wanted) x || tests b x)
needed (While b c k) wanted x =
    grown (length (code_names c)) (needed c) (λ (y : ℕ). needed k wanted y || tests b y) x
needed (Hole h k) wanted x = needed k wanted x

-- the greatest of numbers, 0 where there is none
abbrev pub greatest : List ℕ → ℕ
greatest [] = zero
greatest (x ∷ rest) = max x (greatest rest)

-- the inputs of code for a name: what it needs where that one is wanted after it, ascending
unfoldable pub inputs : Code → ℕ → List ℕ
inputs c w =
    filter (needed c (λ (x : ℕ). x == w)) (range_with_len 0 (suc (greatest (w ∷ code_names c))))
