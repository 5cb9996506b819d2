-- Cited by public clauses: which statement code begins with, which ones it has, and how many.
use Rattle.std.specs.Prelude.{ℕ, suc, ◌+◌, Bool, true, false, ◌||◌, List, [], ◌∷◌}
use Rattle.std.specs.List.{list_all}
use Rattle.sm_syntax.specs.claim.Syntax.{Code, End, Skip, Assign, Write, If, While, Hole, append}
use Rattle.sm_term.specs.SameTerms.{same_code}

-- whether code begins with skip or an assignment
abbrev pub is_simple : Code → Bool
is_simple End = false
is_simple (Skip k) = true
is_simple (Assign x e k) = true
is_simple (Write a i e k) = true
is_simple (If b c d k) = false
is_simple (While b c k) = false
is_simple (Hole h k) = false

-- whether code begins with an if
abbrev pub is_fork : Code → Bool
is_fork End = false
is_fork (Skip k) = false
is_fork (Assign x e k) = false
is_fork (Write a i e k) = false
is_fork (If b c d k) = true
is_fork (While b c k) = false
is_fork (Hole h k) = false

-- what is left where an if at the front goes by its first block
abbrev pub by_first_block : Code → Code
by_first_block End = End
by_first_block (Skip k) = Skip k
by_first_block (Assign x e k) = Assign x e k
by_first_block (Write a i e k) = Write a i e k
by_first_block (If b c d k) = append c k
by_first_block (While b c k) = While b c k
by_first_block (Hole h k) = Hole h k

-- what is left where an if at the front goes by its second block
abbrev pub by_second_block : Code → Code
by_second_block End = End
by_second_block (Skip k) = Skip k
by_second_block (Assign x e k) = Assign x e k
by_second_block (Write a i e k) = Write a i e k
by_second_block (If b c d k) = append d k
by_second_block (While b c k) = While b c k
by_second_block (Hole h k) = Hole h k

-- whether code has a hole
abbrev pub has_hole : Code → Bool
has_hole End = false
has_hole (Skip k) = has_hole k
has_hole (Assign x e k) = has_hole k
has_hole (Write a i e k) = has_hole k
has_hole (If b c d k) = has_hole c || (has_hole d || has_hole k)
has_hole (While b c k) = has_hole c || has_hole k
has_hole (Hole h k) = true

-- whether code has an if among its own statements, those in its blocks aside
abbrev pub has_fork : Code → Bool
has_fork End = false
has_fork (Skip k) = has_fork k
has_fork (Assign x e k) = has_fork k
has_fork (Write a i e k) = has_fork k
has_fork (If b c d k) = true
has_fork (While b c k) = has_fork k
has_fork (Hole h k) = has_fork k

-- how many statements code has, those in its blocks aside
abbrev pub own_statements : Code → ℕ
own_statements End = 0
own_statements (Skip k) = suc (own_statements k)
own_statements (Assign x e k) = suc (own_statements k)
own_statements (Write a i e k) = suc (own_statements k)
own_statements (If b c d k) = suc (own_statements k)
own_statements (While b c k) = suc (own_statements k)
own_statements (Hole h k) = suc (own_statements k)

-- how many statements code has, those in its blocks too
abbrev pub statements_in : Code → ℕ
statements_in End = 0
statements_in (Skip k) = suc (statements_in k)
statements_in (Assign x e k) = suc (statements_in k)
statements_in (Write a i e k) = suc (statements_in k)
statements_in (If b c d k) = suc (statements_in c + statements_in d + statements_in k)
statements_in (While b c k) = suc (statements_in c + statements_in k)
statements_in (Hole h k) = suc (statements_in k)

-- whether pieces of code are all the same
abbrev pub are_same : List Code → Bool
are_same [] = true
are_same (c ∷ rest) = list_all (same_code c) rest
