-- Cited by public clauses: what a table of terms stands for. The tree of each number is made of the
-- trees before it, front to back; a summary's body is a number too.
use Rattle.std.specs.Prelude.{ℕ, pos, ◌<◌, List, [], ◌∷◌, ◌++◌, map, get_or}
use Rattle.sm_syntax.specs.declared.tree.Name.{Name}
use Rattle.sm_syntax.specs.claim.Syntax.{Code, End}
use Rattle.sm_syntax.specs.claim.ConflictFree.{copy_of}
use Rattle.sm_syntax.specs.text.Parts.{sort_of}
use Rattle.sm_syntax.specs.text.Sorts.{Sorts}
use Rattle.sm_syntax.specs.declared.tree.Sort.{Sort}
use Rattle.sm_syntax.specs.trees.Views.{code_of}
use Rattle.sm_syntax.specs.declared.tree.Block.{Block}
pub use Rattle.sm_term.specs.declared.term.TermId.{TermId}
pub use Rattle.sm_term.specs.declared.term.Term.{Term}
use Rattle.sm_term.specs.declared.term.Term.TheVariants as row
use Rattle.sm_term.specs.Terms.{Tree, Lit, Start, Havoc, Slot, Cell, Read, Write, Neg, Add, Sub, Mul, Fun, Arguments, Over, Given}
use Rattle.sm_term.specs.Sorted.{IsDeclaredIn}

-- the tree with a number
abbrev pub tree_at : List Tree → ℕ → Tree
tree_at trees n = get_or trees n (Lit (pos 0))

-- the code of the body with a number
abbrev pub code_at : List Code → ℕ → Code
code_at codes n = get_or codes n End

-- names, each with the tree of a number; what one list has more than the other doesn't count
abbrev pub arguments_in : List Tree → List Name → List TermId → Arguments
arguments_in trees [] args = Over
arguments_in trees (x ∷ from) [] = Over
arguments_in trees (x ∷ from) (t ∷ args) =
    Given x.0 (tree_at trees t.0) (arguments_in trees from args)

-- the tree of a term over the bodies and trees of a table
abbrev pub tree_in : List Code → List Tree → Term → Tree
tree_in codes trees (row.Lit z) = Lit z
tree_in codes trees (row.Start x) = Start x.0
tree_in codes trees (row.Havoc k c x) = Havoc k (copy_of c) x.0
tree_in codes trees (row.Slot c x) = Slot (copy_of c) x.0
tree_in codes trees row.Cell = Cell
tree_in codes trees (row.Read a i) = Read (tree_at trees a.0) (tree_at trees i.0)
tree_in codes trees (row.Write a i e) =
    Write (tree_at trees a.0) (tree_at trees i.0) (tree_at trees e.0)
tree_in codes trees (row.Neg t) = Neg (tree_at trees t.0)
tree_in codes trees (row.Add t u) = Add (tree_at trees t.0) (tree_at trees u.0)
tree_in codes trees (row.Sub t u) = Sub (tree_at trees t.0) (tree_at trees u.0)
tree_in codes trees (row.Mul t u) = Mul (tree_at trees t.0) (tree_at trees u.0)
tree_in codes trees (row.Fun body x from args) =
    Fun (code_at codes body.0) x.0 (arguments_in trees from.list.items args.list.items)

-- the trees of terms that stand behind others
abbrev pub trees_behind : List Code → List Tree → List Term → List Tree
trees_behind codes older [] = []
trees_behind codes older (t ∷ ts) =
    tree_in codes older t ∷ trees_behind codes (older ++ tree_in codes older t ∷ []) ts

-- a table: the declared names with their sorts, the bodies of summaries, and the terms
pub record TableValue : Type 0 where
  pub declared : List (ℕ × Sort)
  pub bodies : List Block
  pub terms : List Term

-- the sorts that a table's names are declared with
abbrev pub sorts_in : TableValue → Sorts
sorts_in table = sort_of table.declared

-- the code of each body, by number
abbrev pub codes_in : TableValue → List Code
codes_in table = map code_of table.bodies

-- the tree of each term, by number
abbrev pub trees_in : TableValue → List Tree
trees_in table = trees_behind (codes_in table) [] table.terms

-- each number stands before a place
abbrev pub AreBefore : ℕ → List TermId → Type 0
AreBefore n [] = Unit {0}
AreBefore n (t ∷ ts) = (t.0 < n) × AreBefore n ts

-- each name is declared
abbrev pub AreNamesDeclared : Sorts → List Name → Type 0
AreNamesDeclared sorts [] = Unit {0}
AreNamesDeclared sorts (x ∷ xs) = IsDeclaredIn sorts x.0 × AreNamesDeclared sorts xs

-- a term's names are declared, its copy is one of four, its body is there, and its parts stand
-- before a place
abbrev pub IsTermWithin : Sorts → ℕ → ℕ → Term → Type 0
IsTermWithin sorts bodies n (row.Lit z) = Unit {0}
IsTermWithin sorts bodies n (row.Start x) = IsDeclaredIn sorts x.0
IsTermWithin sorts bodies n (row.Havoc k c x) = (c < 4) × IsDeclaredIn sorts x.0
IsTermWithin sorts bodies n (row.Slot c x) = (c < 4) × IsDeclaredIn sorts x.0
IsTermWithin sorts bodies n row.Cell = Unit {0}
IsTermWithin sorts bodies n (row.Read a i) = (a.0 < n) × (i.0 < n)
IsTermWithin sorts bodies n (row.Write a i e) = (a.0 < n) × (i.0 < n) × (e.0 < n)
IsTermWithin sorts bodies n (row.Neg t) = t.0 < n
IsTermWithin sorts bodies n (row.Add t u) = (t.0 < n) × (u.0 < n)
IsTermWithin sorts bodies n (row.Sub t u) = (t.0 < n) × (u.0 < n)
IsTermWithin sorts bodies n (row.Mul t u) = (t.0 < n) × (u.0 < n)
IsTermWithin sorts bodies n (row.Fun body x from args) =
    (body.0 < bodies) × IsDeclaredIn sorts x.0
    × AreNamesDeclared sorts from.list.items × AreBefore n args.list.items
