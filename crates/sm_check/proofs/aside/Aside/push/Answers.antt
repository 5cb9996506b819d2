-- The certificate is whole by its last line.
use Rattle.sm_check.proofs.Imports.{◌++◌, ◌∷◌, [], ◌∙◌, ap, RawLines, ended_in}
use Rattle.sm_check.proofs.AsideSteps.{whole_more}
use Rattle.sm_check.proofs.aside.Aside.push.Goals as goal

pub returns : goal.returns
returns c =
    whole_more c.args.self.now.whole.items c.push.new.self.items c.in_ok-begun.begun (ended_in c.args.self.now.begun.bytes.items)
    c.replace-lines.new.dest.bytes.items c.args.line.now
    (c.in_ok-begun.ensures ∙ ap (λ (v : RawLines). ended_in v.bytes.items ++ c.args.line.now ∷ []) c.replace-lines.ensures.value)
    c.in_ok-push.ensures.items
    (ap (λ (v : RawLines). v.bytes.items) c.replace-lines.ensures.after ∙ c.new.ensures)
