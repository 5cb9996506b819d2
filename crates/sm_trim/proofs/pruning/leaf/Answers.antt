use Rattle.sm_trim.proofs.Imports.{refl, line_in}
use Rattle.sm_trim.proofs.TreesLemmas.{leaf_leaves}
use Rattle.sm_trim.proofs.pruning.leaf.Goals as goal

pub returns : goal.returns
returns c = λ trees.
    leaf_leaves trees c.args.at _ (record { before = c.args.at; line = c.in_ok-line.line }) (line_in trees c.args.line.now)
    c.no_marks-marks.result c.new.ensures.items refl refl (c.in_ok-line.ensures trees) c.no_marks-marks.ensures (c.in_ok-mark_line.ensures trees)
