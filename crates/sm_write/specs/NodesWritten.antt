-- Private: the lines of a node.
use Rattle.std.specs.Prelude.{◌≡◌, ℕ, suc, true, Some, slice_get, List, [], ◌∷◌, ◌++◌}
use Rattle.sm_syntax.specs.claim.ConflictFree.{Copy}
use Rattle.sm_syntax.specs.text.Sorts.{Sorts}
use Rattle.sm_syntax.specs.trees.Copies.{copy_named, number_of}
use Rattle.sm_syntax.specs.declared.copies.PerCopy.{PerCopy}
use Rattle.sm_term.specs.declared.symbolic.SymStore.{SymStore}
use Rattle.sm_term.specs.Assertions.{Assertion}
use Rattle.sm_term.specs.Formulas.{numbered, assertion_in}
use Rattle.sm_term.specs.Tables.{TableValue, trees_in, sorts_in}
use Rattle.sm_term.specs.Terms.{Tree}
use Rattle.sm_plan.specs.declared.node.NodeRow.TheVariants as row
use Rattle.sm_plan.specs.Limits.{is_shallow}
use Rattle.sm_plan.specs.NodeLists.{above_opened}
use Rattle.sm_plan.specs.Nodes.{Opened, opened_by}
use Rattle.sm_plan.specs.States.{State}
use Rattle.sm_plan.specs.Views.{node_in, stores_in}
use Rattle.sm_plan.specs.declared.node.NodeRow.{NodeRow}
use Rattle.sm_proof.specs.declared.line.NodeLine.{NodeLine}
use Rattle.sm_proof.specs.declared.line.NodeLine.TheVariants as node
use Rattle.sm_proof.specs.Passing.{Pending, Due, Progress, opened_before}
use Rattle.sm_proof.specs.Verdicts.{Subject}
use Rattle.sm_write.specs.Nameable.{EachSide}
use Rattle.sm_write.specs.Seen.{IsBuilt, Seen}
use Rattle.sm_write.specs.Walked.{Extends, IsSet}
use Rattle.sm_write.specs.Writable.{EachKept}
use Rattle.sm_write.specs.Writers.{WriterValue, Stands, AreSeenNamed}

-- the line of a node whose kept formula has a number
abbrev pub line_of : NodeRow → ℕ → NodeLine
line_of (row.Step c) keep = node.Step (number_of (copy_named c))
line_of (row.Abs c count) keep = node.Abs (number_of (copy_named c)) count
line_of (row.Fork c) keep = node.Fork (number_of (copy_named c))
line_of (row.Loop set f) keep = node.Loop set keep
line_of (row.Block counts f) keep =
    node.Block counts.base counts.variant_a counts.variant_b counts.candidate keep
line_of row.Dead keep = node.Dead
line_of row.End keep = node.End

-- the formula that a node keeps, if any, has a number
abbrev pub IsKeptAt : Sorts → List Tree → List Assertion → NodeRow → ℕ → Type 0
IsKeptAt sorts trees forms (row.Step c) n = Unit {0}
IsKeptAt sorts trees forms (row.Abs c count) n = Unit {0}
IsKeptAt sorts trees forms (row.Fork c) n = Unit {0}
IsKeptAt sorts trees forms (row.Loop set f) n =
    slice_get forms n ≡ Some (assertion_in sorts trees (numbered f.now))
IsKeptAt sorts trees forms (row.Block counts f) n =
    slice_get forms n ≡ Some (assertion_in sorts trees (numbered f.now))
IsKeptAt sorts trees forms row.Dead n = Unit {0}
IsKeptAt sorts trees forms row.End n = Unit {0}

-- something is so of each term that it compares
abbrev pub EachRow : (Tree → Type 0) → Sorts → List Tree → NodeRow → Type 0
EachRow P sorts trees (row.Step c) = Unit {0}
EachRow P sorts trees (row.Abs c count) = Unit {0}
EachRow P sorts trees (row.Fork c) = Unit {0}
EachRow P sorts trees (row.Loop set f) = EachSide P (assertion_in sorts trees (numbered f.now))
EachRow P sorts trees (row.Block counts f) = EachSide P (assertion_in sorts trees (numbered f.now))
EachRow P sorts trees row.Dead = Unit {0}
EachRow P sorts trees row.End = Unit {0}

-- the formula that a node keeps was written, and has a number
pub record KeepWritten (s : Subject) (v : TableValue) (old new : WriterValue) (p : Progress)
    (r : NodeRow) (n : ℕ) : Type 0 where
  pub extends : Extends s (trees_in v) old new p
  pub there : IsKeptAt (sorts_in v) (trees_in v) extends.after.forms r n

-- the formula that a node keeps is written and gets a number, wherever its terms can be named
abbrev pub WritesKeep : TableValue → WriterValue → WriterValue → NodeRow → ℕ → Type 0
WritesKeep v old new r n =
    (s : Subject) (seen : List State) (p : Progress) → IsSet s v old seen p →
    EachRow (IsBuilt (Seen seen)) (sorts_in v) (trees_in v) r → KeepWritten s v old new p r n

-- a node was written: what it opens is pending, and what was seen has numbers
pub record NodeWritten (s : Subject) (v : TableValue) (new : WriterValue) (p : Progress)
    (seen : List State) (pending : List Pending) : Type 0 where
  pub after : Progress
  pub sorts : s.sorts ≡ sorts_in v
  pub stands : Stands s (trees_in v) new after
  pub is : after.pending ≡ pending
  pub nodes : after.nodes ≡ suc p.nodes
  pub named : AreSeenNamed (trees_in v) new.names seen

-- a node is written, where a state with these stores is due, the node fits it, and its kept
-- formula is built of what was seen
abbrev pub WritesNode :
    TableValue → WriterValue → WriterValue → PerCopy SymStore → NodeRow → Type 0
WritesNode v old new stores r =
    (s : Subject) (seen : List State) (p : Progress) (st : State) (above : ℕ)
    (rest : List Pending) (q : Opened) → IsSet s v old seen p → p.pending ≡ Due st above ∷ rest →
    ((c : Copy) → st.stores c ≡ stores_in (trees_in v) stores c) →
    let it = node_in (sorts_in v) (trees_in v) r in
    opened_by p.nodes st it ≡ Some q → is_shallow (above_opened it above) ≡ true →
    EachKept (IsBuilt (Seen (seen ++ st ∷ []))) it →
    NodeWritten s v new p (seen ++ st ∷ []) (opened_before st (above_opened it above) q rest)
