-- Where a writer stands after a node's line.
use Rattle.sm_write.proofs.Imports.{◌≡◌, ℕ, suc, Some, true, List, ◌∷◌, ◌++◌, refl, Tree, is_shallow, above_opened, opened_by, State, IsNodeLineWithin, NodeLine, named_node, Pending, Progress, Subject, line_text, WriterValue, Stands}
use Rattle.sm_plan.specs.Nodes as plan
use Rattle.sm_plan.specs.Nodes.{Opened}
use Rattle.sm_proof.specs.Lines.{Node}
use Rattle.sm_proof.specs.Passing.{Due}
use Rattle.sm_write.proofs.SpellingLemmas.{node_readable}
use Rattle.sm_write.proofs.StepLemmas.{node_step, after_opening}
use Rattle.sm_write.proofs.WriterSteps.{stands_line}

-- the node's branches and states are pending before the rest
pub node_stands : (s : Subject) (trees : List Tree) (v w : WriterValue) (p : Progress) (st : State) (above : ℕ) (rest : List Pending)
    (line : NodeLine) (node : plan.Node) (q : Opened) → Stands s trees v p → p.pending ≡ Due st above ∷ rest → IsNodeLineWithin line →
    named_node p.forms line ≡ Some node → is_shallow (above_opened node above) ≡ true → opened_by p.nodes st node ≡ Some q →
    w.text ≡ v.text ++ line_text (Node line) → w.exact ≡ v.exact → w.names ≡ v.names → w.terms ≡ v.terms → w.forms ≡ v.forms →
    suc p.nodes ≡ w.nodes → Stands s trees w (after_opening p st (above_opened node above) rest q)
node_stands s trees v w p st above rest line node q at is within named few opens text exact names terms forms nodes =
    stands_line s trees v w p (after_opening p st (above_opened node above) rest q) (Node line) at (node_readable line within)
    (node_step s.sorts p st above rest line node q is named few opens) text exact names terms forms refl refl nodes
