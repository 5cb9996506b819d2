-- Cited by public clauses: rows of a table, that is, terms that stand behind the table's first terms,
-- with the bodies that they name. Another table takes them where its first trees are the same.
use Rattle.std.specs.Prelude.{Option, List, map, slice_get}
use Rattle.sm_syntax.specs.claim.Syntax.{Code}
use Rattle.sm_syntax.specs.text.Sorts.{Sorts}
use Rattle.sm_syntax.specs.trees.Views.{code_of}
use Rattle.sm_term.specs.declared.tails.TermRows.{TermRows}
use Rattle.sm_term.specs.Terms.{Tree}
use Rattle.sm_term.specs.Tables.{trees_behind, TermId}
use Rattle.sm_term.specs.TableLaws.{AreTermsSound, AreCodesSorted}

-- the code of each body of rows, by number
abbrev pub row_codes : TermRows → List Code
row_codes rows = map code_of rows.blocks.items

-- the tree of each row, behind these trees
abbrev pub row_trees : List Tree → TermRows → List Tree
row_trees first rows = trees_behind (row_codes rows) first rows.list.items

-- rows behind these trees: each stands behind its parts, its arguments have the sorts that it
-- needs, and the bodies are well sorted
abbrev pub AreRowsSound : Sorts → List Tree → TermRows → Type 0
AreRowsSound sorts first rows =
    AreTermsSound sorts (row_codes rows) first rows.list.items
    × AreCodesSorted sorts (row_codes rows)

-- the tree that each number of a list has, if it has one
abbrev pub trees_numbered : List Tree → List TermId → List (Option Tree)
trees_numbered trees ids = map (λ (t : TermId). slice_get trees t.0) ids
