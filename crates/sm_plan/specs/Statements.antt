-- Cited by public clauses: the first statement of code, the code after it, and what is asked of
-- both.
use Rattle.std.specs.Prelude.{ℕ, zero, suc, Bool, true, false, if◌then◌else◌, Option, Some, None, is_some, is_none}
use Rattle.sm_syntax.specs.claim.Syntax as code
use Rattle.sm_syntax.specs.claim.Syntax.{Expression, Condition, No, Code, End}

-- one statement, with its blocks as code
pub data Statement : Type 0 where
  Skip : Statement
  Assign : ℕ → Expression → Statement
  Write : ℕ → Expression → Expression → Statement
  If : Condition → Code → Code → Statement
  While : Condition → Code → Statement
  Hole : ℕ → Statement

-- the first statement of code, and the code after it
abbrev pub first_of : Code → Option (Statement × Code)
first_of End = None
first_of (code.Skip k) = Some (Skip, k)
first_of (code.Assign x e k) = Some (Assign x e, k)
first_of (code.Write a i e k) = Some (Write a i e, k)
first_of (code.If b c d k) = Some (If b c d, k)
first_of (code.While b c k) = Some (While b c, k)
first_of (code.Hole h k) = Some (Hole h, k)

-- a statement before code
abbrev pub put_before : Statement → Code → Code
put_before Skip k = code.Skip k
put_before (Assign x e) k = code.Assign x e k
put_before (Write a i e) k = code.Write a i e k
put_before (If b c d) k = code.If b c d k
put_before (While b c) k = code.While b c k
put_before (Hole h) k = code.Hole h k

-- what a function gives for a first statement and the code after it, or a value where there is none
abbrev pub by_first : {T : Type 0} → T → (Statement → Code → T) → Option (Statement × Code) → T
by_first none f None = none
by_first none f (Some p) = f p.0 p.1

-- nothing is left
abbrev pub is_over : Code → Bool
is_over c = is_none (first_of c)

-- there are at least n statements
abbrev pub is_long : ℕ → Code → Bool
is_long zero c = true
is_long (suc n) c = by_first false (λ (s : Statement) (k : Code). is_long n k) (first_of c)

-- the first n statements
abbrev pub front : ℕ → Code → Code
front zero c = End
front (suc n) c = by_first End (λ (s : Statement) (k : Code). put_before s (front n k)) (first_of c)

-- the code after them
abbrev pub rest_after : ℕ → Code → Code
rest_after zero c = c
rest_after (suc n) c = by_first End (λ (s : Statement) (k : Code). rest_after n k) (first_of c)

-- the guard and the body of a loop
abbrev pub loop_of : Statement → Option (Condition × Code)
loop_of Skip = None
loop_of (Assign x e) = None
loop_of (Write a i e) = None
loop_of (If b c d) = None
loop_of (While b c) = Some (b, c)
loop_of (Hole h) = None

-- those of the loop that code begins with
abbrev pub first_loop : Code → Option (Condition × Code)
first_loop c = by_first None (λ (s : Statement) (k : Code). loop_of s) (first_of c)

-- the first statement is a loop
abbrev pub is_loop : Code → Bool
is_loop c = is_some (first_loop c)

-- a loop's guard, false where there is none
abbrev pub guard_in : Option (Condition × Code) → Condition
guard_in None = No
guard_in (Some p) = p.0

-- a loop's body, nothing where there is none
abbrev pub body_in : Option (Condition × Code) → Code
body_in None = End
body_in (Some p) = p.1

-- the guard of the loop that code begins with
abbrev pub loop_guard : Code → Condition
loop_guard c = guard_in (first_loop c)

-- its body
abbrev pub loop_body : Code → Code
loop_body c = body_in (first_loop c)

-- the guard of the last statement, where that is a loop
abbrev pub last_guard : Code → Option Condition
last_guard End = None
last_guard (code.Skip k) = last_guard k
last_guard (code.Assign x e k) = last_guard k
last_guard (code.Write a i e k) = last_guard k
last_guard (code.If b c d k) = last_guard k
last_guard (code.While b c k) = if is_over k then Some b else last_guard k
last_guard (code.Hole h k) = last_guard k
