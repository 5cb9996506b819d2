-- The certificate that is begun goes on by the run.
use Rattle.sm_check.proofs.Imports.{◌++◌, ℕ, List, take, ap, sym, ◌∙◌, append_assoc, RawLines, certificates_of, ended_in}
use Rattle.sm_check.specs.Aside.{joined}
use Rattle.sm_check.proofs.aside.Aside.push_run.Goals as goal

pub returns-clause-lines : goal.returns-clause-lines
returns-clause-lines c =
    let whole = joined (certificates_of c.args.self.now.whole.items) in
    let begun = ended_in c.args.self.now.begun.bytes.items in
    let run = ended_in (take c.run_of-size.result.0 c.args.bytes.now) in
    ap (λ (x : List (List ℕ)). whole ++ x)
    (c.in_ok-self.ensures ∙ ap (λ (v : RawLines). ended_in v.bytes.items ++ run) c.replace-lines.ensures.value)
    ∙ sym (append_assoc whole begun run)
