-- The conditions on a task that the grammar spells. Public clauses cite them.
-- The first that fails, in the order of this file, refuses the task.
use Rattle.std.specs.Prelude.{ℕ, ◌+◌, ◌==◌, nat_lt, Bool, not, if◌then◌else◌, Option, Some, None, option_map, List, [], ◌∷◌, ◌++◌, find, length, map, max}
use Rattle.std.specs.List.{list_any, flat_map}
use Rattle.std.specs.Option.{option_or}
use Rattle.sm_syntax.specs.claim.Syntax.{Expression, Lit, Var, Read, Neg, Plus, Minus, Times, Condition, Yes, No, Compare, Not, And, Or, Code, End, Skip, Assign, Write, If, While, Hole}
use Rattle.sm_syntax.specs.claim.Fill.{Fillings, fill}
use Rattle.sm_syntax.specs.claim.ConflictFree.{Copy, O, A, B, M}
use Rattle.sm_syntax.specs.text.Parts.{Parts, sort_of}
use Rattle.sm_syntax.specs.text.Sorts.{Sorts, Sort, Num, Arr}
use Rattle.sm_syntax.specs.text.Uses.{names_tested, names_used}

-- where a hole stands: in the shared program, or in the list of a copy
pub data Section : Type 0 where
  Shared : Section
  ListOf : Copy → Section

-- why a task is refused
pub data Refusal : Type 0 where
  DoubleHole HoleInFilling UnknownHole MissingFilling : Section → ℕ → Refusal
  DoubleName UnknownName WrongSort : ℕ → Refusal
  TooMany TooDeep : Refusal

-- whether a number is in a list
abbrev pub is_in : List ℕ → ℕ → Bool
is_in list x = list_any (λ (y : ℕ). x == y) list

-- the first number that stood before, where those of `seen` did
abbrev pub first_repeated : List ℕ → List ℕ → Option ℕ
first_repeated seen [] = None
first_repeated seen (x ∷ rest) = if is_in seen x then Some x else first_repeated (x ∷ seen) rest

-- the first number that is not among others
abbrev pub first_outside : List ℕ → List ℕ → Option ℕ
first_outside others list = find (λ (x : ℕ). not (is_in others x)) list

-- the first refusal, where there is one
abbrev pub first_of_all : List (Option Refusal) → Option Refusal
first_of_all [] = None
first_of_all (r ∷ rest) = option_or r (first_of_all rest)

-- the first refusal of the copies' lists, in the order of the text, where there is one
abbrev pub first_of_lists : (Copy → Option Refusal) → Option Refusal
first_of_lists of_list = first_of_all (of_list O ∷ of_list A ∷ of_list B ∷ of_list M ∷ [])

-- the numbers of the hole statements of code, in the order of the text
abbrev pub holes_of : Code → List ℕ
holes_of End = []
holes_of (Skip k) = holes_of k
holes_of (Assign x e k) = holes_of k
holes_of (Write a i e k) = holes_of k
holes_of (If b c d k) = holes_of c ++ holes_of d ++ holes_of k
holes_of (While b c k) = holes_of c ++ holes_of k
holes_of (Hole h k) = h ∷ holes_of k

-- the numbers of the holes that a list fills
abbrev pub filled_holes : Fillings → List ℕ
filled_holes fs = map (λ (f : ℕ × Code). f.0) fs

-- the numbers of the hole statements in the fillings of a list
abbrev pub holes_inside : Fillings → List ℕ
holes_inside fs = flat_map (λ (f : ℕ × Code). holes_of f.1) fs

-- a refusal for a hole of a section, where there is such a hole
abbrev pub at_hole : (Section → ℕ → Refusal) → Section → Option ℕ → Option Refusal
at_hole refusal section hole = option_map (refusal section) hole

-- 1. a section has no hole a second time
unfoldable pub double_hole : Parts → Option Refusal
double_hole t =
    option_or
    (at_hole DoubleHole Shared (first_repeated [] (holes_of t.shared)))
    (first_of_lists (λ (c : Copy).
    at_hole DoubleHole (ListOf c) (first_repeated [] (filled_holes (t.fillings c)))))

-- 2. no filling has a hole
unfoldable pub hole_in_filling : Parts → Option Refusal
hole_in_filling t =
    first_of_lists (λ (c : Copy).
    at_hole HoleInFilling (ListOf c) (first_outside [] (holes_inside (t.fillings c))))

-- 3. the shared program has each hole that is filled
unfoldable pub unknown_hole : Parts → Option Refusal
unknown_hole t =
    first_of_lists (λ (c : Copy).
    at_hole UnknownHole (ListOf c)
    (first_outside (holes_of t.shared) (filled_holes (t.fillings c))))

-- 4. each list fills each hole of the shared program
unfoldable pub missing_filling : Parts → Option Refusal
missing_filling t =
    first_of_lists (λ (c : Copy).
    at_hole MissingFilling (ListOf c)
    (first_outside (filled_holes (t.fillings c)) (holes_of t.shared)))

-- how many expressions an expression has, itself among them
abbrev pub expression_nodes : Expression → ℕ
expression_nodes (Lit z) = 1
expression_nodes (Var x) = 1
expression_nodes (Read a i) = 1 + expression_nodes i
expression_nodes (Neg e) = 1 + expression_nodes e
expression_nodes (Plus d e) = 1 + expression_nodes d + expression_nodes e
expression_nodes (Minus d e) = 1 + expression_nodes d + expression_nodes e
expression_nodes (Times d e) = 1 + expression_nodes d + expression_nodes e

-- how many conditions and expressions a condition has, itself among them
abbrev pub condition_nodes : Condition → ℕ
condition_nodes Yes = 1
condition_nodes No = 1
condition_nodes (Compare op d e) = 1 + expression_nodes d + expression_nodes e
condition_nodes (Not b) = 1 + condition_nodes b
condition_nodes (And b c) = 1 + condition_nodes b + condition_nodes c
condition_nodes (Or b c) = 1 + condition_nodes b + condition_nodes c

-- how many statements, conditions and expressions code has
abbrev pub code_nodes : Code → ℕ
code_nodes End = 0
code_nodes (Skip k) = 1 + code_nodes k
code_nodes (Assign x e k) = 1 + expression_nodes e + code_nodes k
code_nodes (Write a i e k) = 1 + expression_nodes i + expression_nodes e + code_nodes k
code_nodes (If b c d k) = 1 + condition_nodes b + code_nodes c + code_nodes d + code_nodes k
code_nodes (While b c k) = 1 + condition_nodes b + code_nodes c + code_nodes k
code_nodes (Hole h k) = 1 + code_nodes k

-- the depth of an expression: 1 for a leaf, otherwise 1 more than its deepest part
abbrev pub expression_depth : Expression → ℕ
expression_depth (Lit z) = 1
expression_depth (Var x) = 1
expression_depth (Read a i) = 1 + expression_depth i
expression_depth (Neg e) = 1 + expression_depth e
expression_depth (Plus d e) = 1 + max (expression_depth d) (expression_depth e)
expression_depth (Minus d e) = 1 + max (expression_depth d) (expression_depth e)
expression_depth (Times d e) = 1 + max (expression_depth d) (expression_depth e)

-- the depth of a condition: 1 for a leaf, otherwise 1 more than its deepest part
abbrev pub condition_depth : Condition → ℕ
condition_depth Yes = 1
condition_depth No = 1
condition_depth (Compare op d e) = 1 + max (expression_depth d) (expression_depth e)
condition_depth (Not b) = 1 + condition_depth b
condition_depth (And b c) = 1 + max (condition_depth b) (condition_depth c)
condition_depth (Or b c) = 1 + max (condition_depth b) (condition_depth c)

-- the depth of code: that of its deepest statement, 0 where it has none
abbrev pub code_depth : Code → ℕ
code_depth End = 0
code_depth (Skip k) = max 1 (code_depth k)
code_depth (Assign x e k) = max (1 + expression_depth e) (code_depth k)
code_depth (Write a i e k) = max (1 + max (expression_depth i) (expression_depth e)) (code_depth k)
code_depth (If b c d k) =
    max (1 + max (condition_depth b) (max (code_depth c) (code_depth d))) (code_depth k)
code_depth (While b c k) = max (1 + max (condition_depth b) (code_depth c)) (code_depth k)
code_depth (Hole h k) = max 1 (code_depth k)

-- the refusal of a name that stands with a sort, where it is declared so or not at all
abbrev pub sort_refusal : Option Sort → Sort → ℕ → Option Refusal
sort_refusal None sort x = Some (UnknownName x)
sort_refusal (Some Num) Num x = None
sort_refusal (Some Num) Arr x = Some (WrongSort x)
sort_refusal (Some Arr) Num x = Some (WrongSort x)
sort_refusal (Some Arr) Arr x = None

-- the refusal of the first name that isn't declared as it stands
unfoldable pub first_sort_fault : Sorts → List (ℕ × Sort) → Option Refusal
first_sort_fault sorts uses =
    first_of_all (map (λ (x : ℕ × Sort). sort_refusal (sorts x.0) x.1 x.0) uses)

-- the refusal of an output that is declared so or not at all, and stood before or not
abbrev pub output_refusal : Option Sort → Bool → ℕ → Option Refusal
output_refusal None stood x = Some (UnknownName x)
output_refusal (Some sort) stood x = if stood then Some (DoubleName x) else None

-- the refusal of the first output that isn't declared or stood before, where those of `seen` did
abbrev pub first_output_fault : Sorts → List ℕ → List ℕ → Option Refusal
first_output_fault sorts seen [] = None
first_output_fault sorts seen (x ∷ rest) =
    option_or
    (output_refusal (sorts x) (is_in seen x) x)
    (first_output_fault sorts (x ∷ seen) rest)

-- a refusal where a number is over its limit
abbrev pub over : ℕ → ℕ → Refusal → Option Refusal
over limit n refusal = if nat_lt limit n then Some refusal else None

-- more nodes than there may be, or a greater depth
unfoldable pub size_fault : ℕ → ℕ → Option Refusal
size_fault nodes depth = first_of_all (over 20000 nodes TooMany ∷ over 64 depth TooDeep ∷ [])

-- the refusal of the first name that is declared twice
abbrev pub double_name : List (ℕ × Sort) → Option Refusal
double_name declared =
    option_map DoubleName (first_repeated [] (map (λ (d : ℕ × Sort). d.0) declared))

-- the first fault of a program: a name declared twice, an output, a name in the code, then size
-- and depth
unfoldable pub program_fault : List (ℕ × Sort) → List ℕ → Code → Option Refusal
program_fault declared outputs code =
    first_of_all (
    double_name declared
    ∷ first_output_fault (sort_of declared) [] outputs
    ∷ first_sort_fault (sort_of declared) (names_used code)
    ∷ over 200 (length declared) TooMany
    ∷ size_fault (code_nodes code) (code_depth code)
    ∷ [])

-- 5. each filled program is well formed
unfoldable pub ill_formed : Parts → Option Refusal
ill_formed t =
    first_of_lists (λ (c : Copy).
    program_fault t.declared t.outputs (fill (t.fillings c) t.shared))

-- 6. the assumption is well formed
unfoldable pub ill_assumed : List (ℕ × Sort) → Option Condition → Option Refusal
ill_assumed declared None = None
ill_assumed declared (Some b) =
    first_of_all (
    first_sort_fault (sort_of declared) (names_tested b)
    ∷ size_fault (condition_nodes b) (condition_depth b)
    ∷ [])

-- the first condition that fails
unfoldable pub first_refusal : Parts → Option Refusal
first_refusal t =
    first_of_all (
    double_hole t
    ∷ hole_in_filling t
    ∷ unknown_hole t
    ∷ missing_filling t
    ∷ ill_formed t
    ∷ ill_assumed t.declared t.assumed
    ∷ [])
