-- Cited by public clauses: whether the arguments of a term have the sorts that it needs.
use Rattle.std.specs.Prelude.{Bool, true, false, ◌&&◌, List, [], ◌∷◌}
use Rattle.sm_syntax.specs.declared.tree.Name.{Name}
use Rattle.sm_syntax.specs.text.Sorts.{Sorts}
use Rattle.sm_syntax.specs.declared.tree.Sort.TheVariants.{Num, Arr}
use Rattle.sm_syntax.specs.declared.tree.Sort.{Sort}
use Rattle.sm_term.specs.declared.term.Term.TheVariants.{Lit, Start, Havoc, Slot, Cell, Read, Write, Neg, Add, Sub, Mul, Fun}
use Rattle.sm_term.specs.Terms.{Tree}
use Rattle.sm_term.specs.SameTerms.{same_sort}
use Rattle.sm_term.specs.Sorted.{sort_named, tree_sort}
use Rattle.sm_term.specs.Tables.{tree_at, TermId, Term}

-- whether the term with a number has a sort
abbrev pub has_sort : Sorts → List Tree → TermId → Sort → Bool
has_sort sorts trees t sort = same_sort (tree_sort sorts (tree_at trees t.0)) sort

-- whether there are as many arguments as names, each of its name's sort
abbrev pub arguments_fit : Sorts → List Tree → List Name → List TermId → Bool
arguments_fit sorts trees [] [] = true
arguments_fit sorts trees [] (t ∷ args) = false
arguments_fit sorts trees (x ∷ from) [] = false
arguments_fit sorts trees (x ∷ from) (t ∷ args) =
    has_sort sorts trees t (sort_named sorts x.0) && arguments_fit sorts trees from args

-- whether each argument of a term has the sort that the term needs there
abbrev pub term_fits : Sorts → List Tree → Term → Bool
term_fits sorts trees (Lit z) = true
term_fits sorts trees (Start x) = true
term_fits sorts trees (Havoc k c x) = true
term_fits sorts trees (Slot c x) = true
term_fits sorts trees Cell = true
term_fits sorts trees (Read a i) = has_sort sorts trees a Arr && has_sort sorts trees i Num
term_fits sorts trees (Write a i e) =
    has_sort sorts trees a Arr && (has_sort sorts trees i Num && has_sort sorts trees e Num)
term_fits sorts trees (Neg t) = has_sort sorts trees t Num
term_fits sorts trees (Add t u) = has_sort sorts trees t Num && has_sort sorts trees u Num
term_fits sorts trees (Sub t u) = has_sort sorts trees t Num && has_sort sorts trees u Num
term_fits sorts trees (Mul t u) = has_sort sorts trees t Num && has_sort sorts trees u Num
term_fits sorts trees (Fun body x from args) =
    arguments_fit sorts trees from.list.items args.list.items
