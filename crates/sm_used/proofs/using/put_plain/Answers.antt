-- The names of the branch have those of the line too.
use Rattle.sm_used.proofs.Imports.{Bool, ◌||◌, ◌∙◌, ap, line_of, line_names_fact}
use Rattle.sm_used.proofs.BranchLemmas.{plain_known}
use Rattle.sm_used.proofs.using.put_plain.Goals as goal

pub returns-clause-know : goal.returns-clause-know
returns-clause-know c = λ lines goes know.
    let line = line_of c.args.line.now in
    plain_known c.args.branches.now.items c.first_of-names.new.branches.items c.push.new.self.items c.add_line.new.names line lines
    c.in_ok-push.ensures.items goes know
    (λ n. c.in_ok-add_line.ensures n ∙ ap (λ (b : Bool). line_names_fact n line || b) (c.first_of-names.ensures.first n))
    c.first_of-names.ensures.others
