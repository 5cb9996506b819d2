-- The names that code uses, each with the sort with which it stands. Public clauses cite them.
-- Once as a list, in the order of the text, and once as what holds of each of them.
use Rattle.std.specs.Prelude.{ℕ, List, [], ◌∷◌, ◌++◌}
use Rattle.sm_syntax.specs.declared.tree.Sort.{Sort}
use Rattle.sm_syntax.specs.declared.tree.Sort.TheVariants.{Num, Arr}
use Rattle.sm_syntax.specs.claim.Syntax.{Expression, Lit, Var, Read, Neg, Plus, Minus, Times, Condition, Yes, No, Compare, Not, And, Or, Code, End, Skip, Assign, Write, If, While, Hole}

-- the names of an expression with the sorts with which they stand, in the order of the text
abbrev pub names_in : Expression → List (ℕ × Sort)
names_in (Lit z) = []
names_in (Var x) = (x, Num) ∷ []
names_in (Read a i) = (a, Arr) ∷ names_in i
names_in (Neg e) = names_in e
names_in (Plus d e) = names_in d ++ names_in e
names_in (Minus d e) = names_in d ++ names_in e
names_in (Times d e) = names_in d ++ names_in e

-- the names of a condition with the sorts with which they stand, in the order of the text
abbrev pub names_tested : Condition → List (ℕ × Sort)
names_tested Yes = []
names_tested No = []
names_tested (Compare op d e) = names_in d ++ names_in e
names_tested (Not b) = names_tested b
names_tested (And b c) = names_tested b ++ names_tested c
names_tested (Or b c) = names_tested b ++ names_tested c

-- the names of code with the sorts with which they stand, in the order of the text
abbrev pub names_used : Code → List (ℕ × Sort)
names_used End = []
names_used (Skip k) = names_used k
names_used (Assign x e k) = (x, Num) ∷ names_in e ++ names_used k
names_used (Write a i e k) = (a, Arr) ∷ names_in i ++ names_in e ++ names_used k
names_used (If b c d k) = names_tested b ++ names_used c ++ names_used d ++ names_used k
names_used (While b c k) = names_tested b ++ names_used c ++ names_used k
names_used (Hole h k) = names_used k

-- a fact of names with their sorts holds of each name of an expression
abbrev pub EachName : (ℕ → Sort → Type 0) → Expression → Type 0
EachName P (Lit z) = Unit {0}
EachName P (Var x) = P x Num
EachName P (Read a i) = P a Arr × EachName P i
EachName P (Neg e) = EachName P e
EachName P (Plus d e) = EachName P d × EachName P e
EachName P (Minus d e) = EachName P d × EachName P e
EachName P (Times d e) = EachName P d × EachName P e

-- it holds of each name of a condition
abbrev pub EachTested : (ℕ → Sort → Type 0) → Condition → Type 0
EachTested P Yes = Unit {0}
EachTested P No = Unit {0}
EachTested P (Compare op d e) = EachName P d × EachName P e
EachTested P (Not b) = EachTested P b
EachTested P (And b c) = EachTested P b × EachTested P c
EachTested P (Or b c) = EachTested P b × EachTested P c

-- it holds of each name of code
abbrev pub EachUsed : (ℕ → Sort → Type 0) → Code → Type 0
EachUsed P End = Unit {0}
EachUsed P (Skip k) = EachUsed P k
EachUsed P (Assign x e k) = P x Num × EachName P e × EachUsed P k
EachUsed P (Write a i e k) = P a Arr × EachName P i × EachName P e × EachUsed P k
EachUsed P (If b c d k) = EachTested P b × EachUsed P c × EachUsed P d × EachUsed P k
EachUsed P (While b c k) = EachTested P b × EachUsed P c × EachUsed P k
EachUsed P (Hole h k) = EachUsed P k
