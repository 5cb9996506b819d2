use Rattle.sm_trim.proofs.Imports.{◌≡◌, ◌∙◌, [], IfOk-weaker, moved_line, line_in, new_number}
use Rattle.sm_trim.proofs.LinesLemmas.{copied}
use Rattle.sm_trim.proofs.lines.copy_line.Goals as goal

pub returns : goal.returns
returns c = λ trees.
    IfOk-weaker c.moved_line.result (λ l. line_in trees l ≡ moved_line (new_number []) (line_in trees c.args.line.now))
    (λ l. line_in trees l ≡ line_in trees c.args.line.now)
    (λ l same. same ∙ copied (line_in trees c.args.line.now)) (c.moved_line.ensures trees)
