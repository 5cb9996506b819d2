-- Cited by contracts: operations on two terms, as trees and as rows of a table.
use Rattle.sm_term.specs.declared.symbolic.Operation.{Operation}
use Rattle.sm_term.specs.declared.symbolic.Operation.TheVariants.{Sum, Difference, Product}
use Rattle.sm_term.specs.declared.term.TermId.{TermId}
use Rattle.sm_term.specs.declared.term.Term.{Term}
use Rattle.sm_term.specs.declared.term.Term.TheVariants as row
use Rattle.sm_term.specs.Terms.{Tree, Add, Sub, Mul}

-- the tree of an operation on two trees
abbrev pub pair_tree : Operation → Tree → Tree → Tree
pair_tree Sum t u = Add t u
pair_tree Difference t u = Sub t u
pair_tree Product t u = Mul t u

-- the row of an operation on two numbers of trees
abbrev pub pair_row : Operation → TermId → TermId → Term
pair_row Sum t u = row.Add t u
pair_row Difference t u = row.Sub t u
pair_row Product t u = row.Mul t u
