-- Cited by public clauses: the names of expressions and conditions, and all names of code.
use Rattle.std.specs.Prelude.{ℕ, Bool, false, ◌==◌, ◌||◌, List, map}
use Rattle.sm_syntax.specs.declared.tree.Sort.{Sort}
use Rattle.sm_syntax.specs.text.Uses.{names_used}
use Rattle.sm_syntax.specs.claim.Syntax.{Expression, Lit, Var, Read, Neg, Plus, Minus, Times, Condition, Yes, No, Compare, Not, And, Or, Code}

-- whether a name stands in an expression
abbrev pub mentions : Expression → ℕ → Bool
mentions (Lit z) x = false
mentions (Var y) x = x == y
mentions (Read a i) x = x == a || mentions i x
mentions (Neg e) x = mentions e x
mentions (Plus d e) x = mentions d x || mentions e x
mentions (Minus d e) x = mentions d x || mentions e x
mentions (Times d e) x = mentions d x || mentions e x

-- whether a name stands in a condition
abbrev pub tests : Condition → ℕ → Bool
tests Yes x = false
tests No x = false
tests (Compare op d e) x = mentions d x || mentions e x
tests (Not b) x = tests b x
tests (And b c) x = tests b x || tests c x
tests (Or b c) x = tests b x || tests c x

-- the names of code, in the order of the text; one that stands twice comes twice
abbrev pub code_names : Code → List ℕ
code_names c = map (λ (u : ℕ × Sort). u.0) (names_used c)
