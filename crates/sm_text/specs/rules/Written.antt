-- No public clause cites this file.
-- What the lists that the rules build stand for.
use Rattle.std.specs.Prelude.{ℕ, List, map}
use Rattle.sm_syntax.specs.declared.program.Filling.{Filling}
use Rattle.sm_syntax.specs.declared.tree.Name.{Name}
use Rattle.sm_syntax.specs.declared.tree.Sort.{Sort}
use Rattle.sm_syntax.specs.claim.Fill.{Fillings}
use Rattle.sm_syntax.specs.text.TaskGrammar.{with_sort}
use Rattle.sm_syntax.specs.claim.Syntax as plain
use Rattle.sm_syntax.specs.claim.Syntax.{Expression, Condition, Code}
use Rattle.sm_text.specs.declared.rules.conditions.CondChain.{CondChain}
use Rattle.sm_text.specs.declared.rules.conditions.CondChain.TheVariants.{Conjunction, Disjunction}
use Rattle.sm_text.specs.declared.rules.expressions.Operator.{Operator}
use Rattle.sm_text.specs.declared.rules.expressions.Operator.TheVariants.{Plus, Minus, Times}
use Rattle.sm_text.specs.declared.rules.names.Declared.{Declared}
use Rattle.sm_syntax.specs.trees.Views.{statement_of, code_of, sequence}
use Rattle.sm_syntax.specs.declared.tree.Stmt.{Stmt}

-- the numbers of names
abbrev pub numbers_of : List Name → List ℕ
numbers_of xs = map (λ (x : Name). x.0) xs

-- declared names, each with its sort
abbrev pub entries_of : List (Name × Sort) → List (ℕ × Sort)
entries_of ds = map (λ (e : Name × Sort). (e.0.0, e.1)) ds

-- the names of a declaration, each with its sort
abbrev pub declaration_of : Declared → List (ℕ × Sort)
declaration_of d = with_sort d.sort (numbers_of d.names.items)

-- what an operator makes of two expressions
abbrev pub joined_by : Operator → Expression → Expression → Expression
joined_by Plus d e = plain.Plus d e
joined_by Minus d e = plain.Minus d e
joined_by Times d e = plain.Times d e

-- what the operator of a chain makes of two conditions
abbrev pub connected_by : CondChain → Condition → Condition → Condition
connected_by Conjunction b c = plain.And b c
connected_by Disjunction b c = plain.Or b c

-- statements, before the code that follows them
abbrev pub statements_before : List Stmt → Code → Code
statements_before list = sequence (map statement_of list)

-- the code for a hole
abbrev pub filling_of : Filling → ℕ × Code
filling_of f = (f.hole, code_of f.block)

-- the code for each hole
abbrev pub entries_for : List Filling → Fillings
entries_for fs = map filling_of fs
