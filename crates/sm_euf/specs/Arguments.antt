-- Private: the arguments of a term of a table by their numbers, and heads of such terms.
use Rattle.std.specs.Prelude.{◌==◌, nat_eq, Bool, true, false, ◌&&◌, List, [], ◌∷◌, map}
use Rattle.std.specs.Cmp.Lexicographic.{pointwise}
use Rattle.sm_term.specs.declared.term.Term.TheVariants.{Lit, Start, Havoc, Slot, Cell, Read, Write, Neg, Add, Sub, Mul, Fun}
use Rattle.sm_term.specs.Terms.{Tree}
use Rattle.sm_term.specs.Tables.{tree_at}
use Rattle.sm_term.specs.declared.term.TermId.{TermId}
use Rattle.sm_term.specs.declared.term.Term.{Term}
use Rattle.sm_term.specs.Rows.{names_in_list}

-- the arguments of a term, in order
abbrev pub argument_numbers : Term → List TermId
argument_numbers (Lit z) = []
argument_numbers (Start x) = []
argument_numbers (Havoc k c x) = []
argument_numbers (Slot c x) = []
argument_numbers Cell = []
argument_numbers (Read a i) = a ∷ i ∷ []
argument_numbers (Write a i e) = a ∷ i ∷ e ∷ []
argument_numbers (Neg t) = t ∷ []
argument_numbers (Add t u) = t ∷ u ∷ []
argument_numbers (Sub t u) = t ∷ u ∷ []
argument_numbers (Mul t u) = t ∷ u ∷ []
argument_numbers (Fun body x from args) = args.list.items

-- whether two terms are one operation, or summaries of one name after one body, with arguments of
-- the same names
abbrev pub have_one_head : Term → Term → Bool
have_one_head (Read a i) (Read b j) = true
have_one_head (Write a i d) (Write b j e) = true
have_one_head (Neg t) (Neg u) = true
have_one_head (Add r s) (Add t u) = true
have_one_head (Sub r s) (Sub t u) = true
have_one_head (Mul r s) (Mul t u) = true
have_one_head (Fun b x from args) (Fun c y names parts) =
    (b.0 == c.0) && ((x.0 == y.0)
    && pointwise nat_eq (names_in_list from.list.items) (names_in_list names.list.items))
have_one_head t u = false

-- the trees of terms
abbrev pub trees_of : List Tree → List TermId → List Tree
trees_of trees parts = map (λ (t : TermId). tree_at trees t.0) parts
