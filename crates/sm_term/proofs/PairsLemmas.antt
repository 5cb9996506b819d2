-- The row of an operation on two terms of a table.
use Rattle.sm_term.proofs.Imports.{◌≡◌, ℕ, ◌<◌, true, List, and_from, Code, Sorts, Num, Tree, pair_tree, pair_row, has_sort, term_fits, tree_at, tree_in, IsTermWithin}
use Rattle.sm_term.specs.declared.symbolic.Operation.{Operation}
use Rattle.sm_term.specs.declared.symbolic.Operation.TheVariants.{Sum, Difference, Product}
use Rattle.sm_term.specs.Terms as tree
use Rattle.sm_term.specs.Tables.{TermId}

-- the parts of the row are there
pub pair_within : (sorts : Sorts) (bodies n : ℕ) (op : Operation) (t u : TermId) → t.0 < n → u.0 < n → IsTermWithin sorts bodies n (pair_row op t u)
pair_within sorts bodies n Sum t u p q = (p, q)
pair_within sorts bodies n Difference t u p q = (p, q)
pair_within sorts bodies n Product t u p q = (p, q)

-- the row fits where its parts are numbers
pub pair_fits : (sorts : Sorts) (trees : List Tree) (op : Operation) (t u : TermId) → has_sort sorts trees t Num ≡ true → has_sort sorts trees u Num ≡ true
    → term_fits sorts trees (pair_row op t u) ≡ true
pair_fits sorts trees Sum t u p q = and_from _ _ p q
pair_fits sorts trees Difference t u p q = and_from _ _ p q
pair_fits sorts trees Product t u p q = and_from _ _ p q

-- the tree of the row
pub pair_made : (codes : List Code) (trees : List Tree) (op : Operation) (t u : TermId) (a b : Tree) → tree_at trees t.0 ≡ a → tree_at trees u.0 ≡ b
    → tree_in codes trees (pair_row op t u) ≡ pair_tree op a b
pair_made codes trees Sum t u a b p q = λ k. tree.Add (p k) (q k)
pair_made codes trees Difference t u a b p q = λ k. tree.Sub (p k) (q k)
pair_made codes trees Product t u a b p q = λ k. tree.Mul (p k) (q k)
