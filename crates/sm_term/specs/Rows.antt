-- Private: what a term of a table holds, in one form for all kinds, by which terms are compared
-- and hashed. How much room a list has doesn't count.
use Rattle.std.specs.Prelude.{ℕ, pos, ◌==◌, nat_eq, Bool, ◌&&◌, List, [], ◌++◌, map}
use Rattle.std.specs.Ordering.{int_eq}
use Rattle.std.specs.Cmp.Lexicographic.{pointwise}
use Rattle.std.specs.Hash as fed
use Rattle.sm_syntax.specs.declared.tree.Name.{Name}
use Rattle.sm_term.specs.declared.term.TermId.{TermId}
use Rattle.sm_term.specs.declared.term.Numbers.{Numbers}
use Rattle.sm_term.specs.declared.term.Term.{Term}
use Rattle.sm_term.specs.declared.term.Term.TheVariants.{Lit, Start, Havoc, Slot, Cell, Read, Write, Neg, Add, Sub, Mul, Fun}

-- a kind with three numbers
abbrev pub kind_numbers : ℕ → ℕ → ℕ → ℕ → Numbers
kind_numbers kind first second third =
    record { kind = kind; value = pos 0; first = first; second = second; third = third }

-- what a term holds but its lists
abbrev pub term_numbers : Term → Numbers
term_numbers (Lit z) = record { kind = 0; value = z; first = 0; second = 0; third = 0 }
term_numbers (Start x) = kind_numbers 1 x.0 0 0
term_numbers (Havoc k c x) = kind_numbers 2 k c x.0
term_numbers (Slot c x) = kind_numbers 3 c x.0 0
term_numbers Cell = kind_numbers 4 0 0 0
term_numbers (Read a i) = kind_numbers 5 a.0 i.0 0
term_numbers (Write a i e) = kind_numbers 6 a.0 i.0 e.0
term_numbers (Neg t) = kind_numbers 7 t.0 0 0
term_numbers (Add t u) = kind_numbers 8 t.0 u.0 0
term_numbers (Sub t u) = kind_numbers 9 t.0 u.0 0
term_numbers (Mul t u) = kind_numbers 10 t.0 u.0 0
term_numbers (Fun body x from args) = kind_numbers 11 body.0 x.0 0

-- the names of a list
abbrev pub names_in_list : List Name → List ℕ
names_in_list names = map (λ (x : Name). x.0) names

-- the terms of a list
abbrev pub parts_in_list : List TermId → List ℕ
parts_in_list parts = map (λ (t : TermId). t.0) parts

-- the names of a summary's arguments
abbrev pub names_of_term : Term → List ℕ
names_of_term (Lit z) = []
names_of_term (Start x) = []
names_of_term (Havoc k c x) = []
names_of_term (Slot c x) = []
names_of_term Cell = []
names_of_term (Read a i) = []
names_of_term (Write a i e) = []
names_of_term (Neg t) = []
names_of_term (Add t u) = []
names_of_term (Sub t u) = []
names_of_term (Mul t u) = []
names_of_term (Fun body x from args) = names_in_list from.list.items

-- the arguments of a summary
abbrev pub parts_of_term : Term → List ℕ
parts_of_term (Lit z) = []
parts_of_term (Start x) = []
parts_of_term (Havoc k c x) = []
parts_of_term (Slot c x) = []
parts_of_term Cell = []
parts_of_term (Read a i) = []
parts_of_term (Write a i e) = []
parts_of_term (Neg t) = []
parts_of_term (Add t u) = []
parts_of_term (Sub t u) = []
parts_of_term (Mul t u) = []
parts_of_term (Fun body x from args) = parts_in_list args.list.items

-- whether the numbers of two terms are the same
abbrev pub same_numbers : Numbers → Numbers → Bool
same_numbers m n =
    (m.kind == n.kind) && (int_eq m.value n.value
    && ((m.first == n.first) && ((m.second == n.second) && (m.third == n.third))))

-- whether two terms hold the same
unfoldable pub same_term : Term → Term → Bool
same_term t u =
    same_numbers (term_numbers t) (term_numbers u)
    && (pointwise nat_eq (names_of_term t) (names_of_term u)
    && pointwise nat_eq (parts_of_term t) (parts_of_term u))

-- what is hashed of a term
unfoldable pub hashed : Term → List (List ℕ)
hashed t =
    fed.u8 (term_numbers t).kind ++ fed.i128 (term_numbers t).value
    ++ fed.u64 (term_numbers t).first ++ fed.u64 (term_numbers t).second
    ++ fed.u64 (term_numbers t).third ++ fed.slice fed.u64 (parts_of_term t)
