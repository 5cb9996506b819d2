-- Cited by public clauses: the literals of a task's fillings, in the order of the text, with an
-- index before the value that is written there.
use Rattle.std.specs.Prelude.{ℕ, ℤ, pos, int_lt, List, [], ◌∷◌, ◌++◌, take, filter, flat_map}
use Rattle.std.specs.Ordering.{int_eq}
use Rattle.sm_syntax.specs.claim.Syntax.{Expression, Lit, Var, Read, Neg, Plus, Minus, Times, Condition, Yes, No, Compare, Not, And, Or, Code, End, Skip, Assign, Write, If, While, Hole}
use Rattle.sm_syntax.specs.claim.Fill.{Fillings}
use Rattle.sm_syntax.specs.claim.ConflictFree.{Copy}
use Rattle.sm_syntax.specs.text.Parts.{Parts}
use Rattle.sm_plan.specs.Copies.{copies}
use Rattle.sm_template.specs.Distinct.{distinct}

-- the literals of an expression
abbrev pub literals_in : Expression → List ℤ
literals_in (Lit z) = z ∷ []
literals_in (Var x) = []
literals_in (Read a i) = literals_in i
literals_in (Neg e) = literals_in e
literals_in (Plus d e) = literals_in d ++ literals_in e
literals_in (Minus d e) = literals_in d ++ literals_in e
literals_in (Times d e) = literals_in d ++ literals_in e

-- the literals of a condition
abbrev pub literals_tested : Condition → List ℤ
literals_tested Yes = []
literals_tested No = []
literals_tested (Compare op d e) = literals_in d ++ literals_in e
literals_tested (Not b) = literals_tested b
literals_tested (And b c) = literals_tested b ++ literals_tested c
literals_tested (Or b c) = literals_tested b ++ literals_tested c

-- the literals of code
abbrev pub literals_used : Code → List ℤ
literals_used End = []
literals_used (Skip k) = literals_used k
literals_used (Assign x e k) = literals_in e ++ literals_used k
literals_used (Write a i e k) = literals_in i ++ literals_in e ++ literals_used k
literals_used (If b c d k) =
    literals_tested b ++ literals_used c ++ literals_used d ++ literals_used k
literals_used (While b c k) = literals_tested b ++ literals_used c ++ literals_used k
literals_used (Hole h k) = literals_used k

-- the literals of a list of fillings
abbrev pub literals_filled : Fillings → List ℤ
literals_filled fs = flat_map (λ (f : ℕ × Code). literals_used f.1) fs

-- the first eight distinct ones above 0 of the four lists
abbrev pub literals_of : Parts → List ℤ
literals_of t =
    let all = flat_map (λ (c : Copy). literals_filled (t.fillings c)) copies in
    take 8 (distinct int_eq (filter (int_lt (pos 0)) all))
