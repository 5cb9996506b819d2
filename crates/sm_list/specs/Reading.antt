-- Private: what elements that are read were before they were written, by numbers of terms.
use Rattle.std.specs.Prelude.{Option, Some, None, List}
use Rattle.sm_term.specs.Terms.{Tree, Read}
use Rattle.sm_term.specs.Tables.{tree_at}
use Rattle.sm_term.specs.declared.term.TermId.{TermId}
use Rattle.sm_theory.specs.Elements.{Written, written_in}
use Rattle.sm_theory.specs.Lines.{followed}

-- the element of an array at an index, where both are told
abbrev pub read_told : List Tree → Option (TermId × TermId) → Option Tree
read_told trees None = None
read_told trees (Some p) = Some (Read (tree_at trees p.0.0) (tree_at trees p.1.0))

-- what is read at an index before an array was written
abbrev pub read_under : Tree → Tree → Option Tree
read_under a i = followed (written_in a) (λ (w : Written). Some (Read w.before i))
