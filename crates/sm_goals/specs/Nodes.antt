-- Cited by public clauses: nodes that the goals of one list of facts share.
use Rattle.std.specs.Prelude.{List, Option, IfSome}
use Rattle.sm_term.specs.declared.formula.Formula.{Formula}
use Rattle.sm_term.specs.Tables.{TableValue, trees_in, sorts_in}
use Rattle.sm_solve.specs.declared.fact_base.FactBase.{FactBase}
use Rattle.sm_list.specs.Parts.{all_numbered, assertions_in}
use Rattle.sm_solve.specs.Sharing.{IsFactBase}

-- a node is of these facts over a table, where there is one
abbrev pub IsNodeOf : TableValue → List Formula → Option FactBase → Type 0
IsNodeOf table facts node =
    IfSome node (IsFactBase table
    (assertions_in (sorts_in table) (trees_in table) (all_numbered facts)))
